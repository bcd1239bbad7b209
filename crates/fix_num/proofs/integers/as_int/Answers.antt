-- Goals of `integers::as_int`.
use Rattle.std.proofs.Common.{FitsSigned, w32, ◌∙◌}
use Rattle.std.proofs.lemmas.Int.{to_z-of_z}
use Rattle.fix_num.proofs.Words.{int_of}
use Rattle.fix_num.proofs.integers.as_int.Goals as goal

pub returns : goal.returns
returns c =
    let rf : FitsSigned w32 c.cast_signed.result = record { sfits = c.cast_signed.type_inv } in
    to_z-of_z w32 c.cast_signed.result rf ∙ c.cast_signed.ensures ∙ int_of c.args.n c.ranges.n.fits
