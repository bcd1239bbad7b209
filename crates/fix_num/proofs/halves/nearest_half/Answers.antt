-- Goals of `halves::nearest_half`.
use Rattle.std.proofs.Common.{◌≡◌, ℕ, ℤ, pos, neg_ℤ, ◌-ℤ◌, ◌*◌, ◌^◌, ◌≤◌, FitsSigned, to_z, of_z, ap, sym, subst, ◌∙◌, w64, arith}
use Rattle.std.proofs.lemmas.Int.{ints, to_z-of_z, to_z_pos}
use Rattle.fix_num.specs.declared.halves.TheConstants.{UNIT}
use Rattle.fix_num.specs.Half.{IsNearestHalf}
use Rattle.fix_num.proofs.Near.{size_most, nearest_pos, nearest_neg}
use Rattle.fix_num.proofs.halves.nearest_half.Goals as goal

neg_fits : (s : ℕ) → s ≤ 2 ^ 62 → FitsSigned w64 (pos 0 -ℤ pos s)
neg_fits s h = grind (arith, ints)

pub overflow_sub-result : goal.overflow_sub-result
overflow_sub-result c =
    let s : ℕ = c.nearest_size-size.result in
    let b : s ≤ 2047 * (2 ^ 29 * UNIT) = size_most UNIT s c.nearest_size-size.ensures.size in
    let t : to_z w64 s ≡ pos s = to_z_pos w64 s (omega (arith, b)) in
    subst (λ (z : ℤ). FitsSigned w64 (pos 0 -ℤ z)) (sym t) (neg_fits s (omega (arith, b)))

pub returns-then-raw-lt0 : goal.returns-then-raw-lt0
returns-then-raw-lt0 c =
    let s : ℕ = c.nearest_size-size.result in
    let n : ℕ = c.unsigned_abs.result in
    let b : s ≤ 2047 * (2 ^ 29 * UNIT) = size_most UNIT s c.nearest_size-size.ensures.size in
    let t : to_z w64 s ≡ pos s = to_z_pos w64 s (omega (arith, b)) in
    let f : FitsSigned w64 (pos 0 -ℤ pos s) = neg_fits s (omega (arith, b)) in
    let m : pos 0 -ℤ pos s ≡ neg_ℤ (pos s) = omega (arith, ints) in
    let v : to_z w64 (of_z w64 (pos 0 -ℤ to_z w64 s)) ≡ neg_ℤ (pos s) = ap (λ (z : ℤ). to_z w64 (of_z w64 (pos 0 -ℤ z))) t ∙ to_z-of_z w64 (pos 0 -ℤ pos s) f ∙ m in
    let r : c.args.raw ≡ neg_ℤ (pos n) = grind (arith, ints, to_z-of_z, c.unsigned_abs.ensures.value, c.if-raw-lt0.true) in
    subst (λ (z : ℤ). IsNearestHalf UNIT z (to_z w64 (of_z w64 (pos 0 -ℤ to_z w64 s)))) (sym r) (subst (λ (z : ℤ). IsNearestHalf UNIT (neg_ℤ (pos n)) z) (sym v) (nearest_neg UNIT n s c.nearest_size-size.ensures))

pub returns-else-raw-lt0 : goal.returns-else-raw-lt0
returns-else-raw-lt0 c =
    let s : ℕ = c.nearest_size-size.result in
    let n : ℕ = c.unsigned_abs.result in
    let b : s ≤ 2047 * (2 ^ 29 * UNIT) = size_most UNIT s c.nearest_size-size.ensures.size in
    let t : to_z w64 s ≡ pos s = to_z_pos w64 s (omega (arith, b)) in
    let r : c.args.raw ≡ pos n = grind (arith, ints, to_z-of_z, c.unsigned_abs.ensures.value, c.if-raw-lt0.false) in
    subst (λ (z : ℤ). IsNearestHalf UNIT z (to_z w64 s)) (sym r) (subst (λ (z : ℤ). IsNearestHalf UNIT (pos n) z) (sym t) (nearest_pos UNIT n s c.nearest_size-size.ensures))
