use Rattle.std.proofs.Common.{arith}
use Rattle.std.proofs.lemmas.List.{take_rest}
use Rattle.dpx_file.proofs.Decoding.{ten_step, line_none}
use Rattle.dpx_file.proofs.pixels.decode_ten.Goals as goal

pub pixels-init : goal.pixels-init
pixels-init g c = line_none g.T.ByteOrder.number_of 10 c.args.packing c.args.line.now

pub pixels-preserved : goal.pixels-preserved
pixels-preserved g c =
    let x = c.pixels.x in
    ten_step g.T.ByteOrder.number_of c.args.packing x c.args.line.now c.pixels.out c.read_u32-word.result c.bit_of_red-red.result _ _ _
    (rw take_rest at c.read_u32-word.ensures) c.bit_of_red-red.ensures c.ten_bits.ensures c.ten_bits-in-pixels.ensures c.ten_bits-in-pixels-2.ensures
    (omega arith) c.pixels.invariant
