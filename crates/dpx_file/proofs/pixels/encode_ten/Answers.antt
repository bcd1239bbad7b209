use Rattle.std.proofs.Common.{◌*◌, ◌-◌, length, refl, arith}
use Rattle.std.proofs.lemmas.List.{take_rest}
use Rattle.dpx_file.proofs.Encoding.{word_step}
use Rattle.dpx_file.proofs.pixels.encode_ten.Goals as goal

pub pixels-preserved : goal.pixels-preserved
pixels-preserved c =
    let x = c.pixels.x in
    word_step c.args.codes.now c.pixels.out c.write_u32.new.buf x _ _ _ c.word_of-word.result (length c.pixels.out - 4 * x)
    refl refl refl c.word_of-word.ensures (omega arith) (omega arith) (rw take_rest at c.write_u32.ensures) c.pixels.invariant
