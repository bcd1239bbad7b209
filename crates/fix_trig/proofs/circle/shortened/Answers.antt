-- Goals of `circle::shortened`.
use Rattle.std.proofs.Common.{◌≡◌, ℤ, pos, negsuc, neg_ℤ, ◌≤ℤ◌, ◌-◌, ◌^◌, ◌<◌, unsigned_abs, FitsSigned, to_z, of_z, ap, sym, ◌∙◌, subst, arith}
use Rattle.std.specs.Int.{w128, w64}
use Rattle.std.proofs.lemmas.Int.{ints, to_z-of_z, fits_signed_from_abs}
use Rattle.fix_num.specs.declared.TheConstants.{FRACTION}
use Rattle.fix_num.specs.Fixed.{IsRaw, rnd, RoundingKeepsBounds}
use Rattle.fix_trig.proofs.Steps.{same}
use Rattle.fix_trig.proofs.circle.shortened.Goals as goal

-- the number as the code computes it, and its size
shortened_size : RoundingKeepsBounds → (part : ℤ) → unsigned_abs part < 2 ^ 64 → unsigned_abs (rnd part (pos (2 ^ (62 - FRACTION)))) < 2 ^ 63
shortened_size law part h =
    let r : (neg_ℤ (pos (2 ^ 40)) ≤ℤ rnd part (pos (2 ^ (62 - FRACTION)))) × (rnd part (pos (2 ^ (62 - FRACTION))) ≤ℤ pos (2 ^ 40)) =
    law part (pos (2 ^ (62 - FRACTION))) (neg_ℤ (pos (2 ^ 40))) (pos (2 ^ 40)) (omega (arith, ints)) (omega (arith, ints)) (omega (arith, ints)) in
    omega (arith, ints, r.0, r.1)

shortened_is : (part r : ℤ) → unsigned_abs part < 2 ^ 64 → r ≡ rnd (to_z w128 (of_z w128 part)) (pos (2 ^ (62 - FRACTION))) → r ≡ rnd part (pos (2 ^ (62 - FRACTION)))
shortened_is part r h e = e ∙ ap (λ (z : ℤ). rnd z (pos (2 ^ (62 - FRACTION)))) (same part h)

pub overflow_cast-rnd_shift : goal.overflow_cast-rnd_shift
overflow_cast-rnd_shift c =
    let e : c.rnd_shift.result ≡ rnd c.args.part (pos (2 ^ (62 - FRACTION))) = shortened_is c.args.part c.rnd_shift.result c.requires c.rnd_shift.ensures in
    let s : unsigned_abs c.rnd_shift.result < 2 ^ 63 = subst (λ (z : ℤ). unsigned_abs z < 2 ^ 63) (sym e) (shortened_size c.rounding_keeps_bounds.ensures c.args.part c.requires) in
    subst (λ (z : ℤ). FitsSigned w64 z) (sym (same c.rnd_shift.result (omega arith))) (fits_signed_from_abs w64 c.rnd_shift.result s)

back : (r : ℤ) → unsigned_abs r < 2 ^ 63 → to_z w64 (of_z w64 (to_z w128 (of_z w128 r))) ≡ r
back r s = ap (λ (z : ℤ). to_z w64 (of_z w64 z)) (same r (omega arith)) ∙ to_z-of_z w64 r (fits_signed_from_abs w64 r s)

is_raw : (r : ℤ) → unsigned_abs r < 2 ^ 63 → IsRaw r
is_raw (pos n) s = (omega (arith, ints), omega (arith, ints))
is_raw (negsuc n) s = (omega (arith, ints), omega (arith, ints))

pub from_raw-requires : goal.from_raw-requires
from_raw-requires c =
    let e : c.rnd_shift.result ≡ rnd c.args.part (pos (2 ^ (62 - FRACTION))) = shortened_is c.args.part c.rnd_shift.result c.requires c.rnd_shift.ensures in
    let s : unsigned_abs c.rnd_shift.result < 2 ^ 63 = subst (λ (z : ℤ). unsigned_abs z < 2 ^ 63) (sym e) (shortened_size c.rounding_keeps_bounds.ensures c.args.part c.requires) in
    subst (λ (z : ℤ). IsRaw z) (sym (back c.rnd_shift.result s)) (is_raw c.rnd_shift.result s)

pub returns : goal.returns
returns c =
    let e : c.rnd_shift.result ≡ rnd c.args.part (pos (2 ^ (62 - FRACTION))) = shortened_is c.args.part c.rnd_shift.result c.requires c.rnd_shift.ensures in
    let s : unsigned_abs c.rnd_shift.result < 2 ^ 63 = subst (λ (z : ℤ). unsigned_abs z < 2 ^ 63) (sym e) (shortened_size c.rounding_keeps_bounds.ensures c.args.part c.requires) in
    c.from_raw.ensures ∙ back c.rnd_shift.result s ∙ e
