use Rattle.std.proofs.Common.{◌≡◌, ◌∙◌, to_z, of_z, w32, arith}
use Rattle.std.proofs.lemmas.Int.{ints, to_z-of_z}
use Rattle.lane_code.proofs.Wholes.{low_of}
use Rattle.lane_code.proofs.kinds.low_int.Goals as goal

pub returns : goal.returns
returns c =
    let back : to_z w32 (of_z w32 c.cast_signed.result) ≡ c.cast_signed.result = grind (arith, ints, to_z-of_z) in
    back ∙ (c.cast_signed.ensures ∙ low_of c.args.z c.low_unsigned.result c.low_unsigned.ensures)
