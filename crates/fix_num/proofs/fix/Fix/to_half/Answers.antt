-- Goals of `fix::Fix::to_half`.
use Rattle.std.proofs.Common.{◌≡◌, ℤ, ◌*◌, ◌^◌, ◌≤◌, unsigned_abs, FitsSigned, to_z, of_z, subst, ◌∙◌, w64, arith}
use Rattle.std.proofs.lemmas.Int.{ints, to_z-of_z}
use Rattle.fix_num.specs.declared.TheConstants.{FRACTION}
use Rattle.fix_num.specs.declared.halves.TheConstants.{UNIT}
use Rattle.fix_num.specs.Half.{IsNearestHalf}
use Rattle.fix_num.proofs.Near.{size_most}
use Rattle.fix_num.proofs.Choice.{half_is}
use Rattle.fix_num.proofs.fix.Fix.to_half.Goals as goal

pub from_raw-requires : goal.from_raw-requires
from_raw-requires c =
    let h : ℤ = c.nearest_half.result in
    let hf : FitsSigned w64 h = record { sfits = c.nearest_half.type_inv } in
    let b : unsigned_abs h ≤ 2047 * (2 ^ 29 * UNIT) = size_most UNIT (unsigned_abs h) c.nearest_half.ensures.half in
    (omega (arith, ints), omega (arith, ints))

pub returns : goal.returns
returns c =
    let h : ℤ = c.nearest_half.result in
    let z : ℤ = c.raw.result in
    let hf : FitsSigned w64 h = record { sfits = c.nearest_half.type_inv } in
    let zf : FitsSigned w64 z = record { sfits = c.raw.type_inv } in
    let e : to_z w64 (of_z w64 z) ≡ c.args.self = to_z-of_z w64 z zf ∙ c.raw.ensures in
    let n : IsNearestHalf UNIT c.args.self h = subst (λ (y : ℤ). IsNearestHalf UNIT y h) e c.nearest_half.ensures in
    c.from_raw.ensures ∙ to_z-of_z w64 h hf ∙ half_is FRACTION c.args.self h n
