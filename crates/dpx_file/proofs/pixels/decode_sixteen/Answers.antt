use Rattle.std.proofs.Common.{arith}
use Rattle.std.proofs.lemmas.List.{take_rest}
use Rattle.dpx_file.proofs.Decoding.{sixteen_step, line_none}
use Rattle.dpx_file.proofs.pixels.decode_sixteen.Goals as goal

pub pixels-init : goal.pixels-init
pixels-init g c = line_none g.T.ByteOrder.number_of 16 c.args.packing c.args.line.now

pub pixels-preserved : goal.pixels-preserved
pixels-preserved g c =
    let x = c.pixels.x in
    sixteen_step g.T.ByteOrder.number_of c.args.packing x c.args.line.now c.pixels.out c.read_u16.result c.read_u16-in-pixels.result c.read_u16-in-pixels-2.result
    (rw take_rest at c.read_u16.ensures) (rw take_rest at c.read_u16-in-pixels.ensures) (rw take_rest at c.read_u16-in-pixels-2.ensures)
    (omega arith) c.pixels.invariant
