-- Goals of `spelling::split_parts`.
use Rattle.std.proofs.Common.{◌≡◌, ℕ, ℤ, ◌+◌, ◌<◌, Option, List, [], length, Bool, true, false, eqb, ap, sym, subst, ◌∙◌, FitsSigned, arith, rules}
use Rattle.std.proofs.lemmas.Bool.Decides.{nat_tests}
use Rattle.std.proofs.lemmas.Int.{to_z-of_z}
use Rattle.std.specs.Int.{w128}
use Rattle.fix_num.specs.Decimal.{SpellsExponent, exponent_or_zero}
use Rattle.fix_num.specs.Cutting.{after_sign, digits_in_front, after_digits, after_point, is_negative}
use Rattle.fix_num.proofs.Cut.{IsCut, spelt_cut, spelt_from, has_point}
use Rattle.fix_num.proofs.spelling.split_parts.Goals as goal
use Rattle.fix_num.proofs.spelling.split_parts.Goals.{else-is_empty-via-then-is_empty+else-is_empty-2, else-is_empty-via-else-is_empty}

-- a list is found to be empty
found_empty : (b : Bool) (xs : List ℕ) → b ≡ eqb (length xs) 0 → b ≡ true → length xs ≡ 0
found_empty b xs e t = grind (arith, nat_tests)

found_some : (xs ys : List ℕ) (b : Bool) → b ≡ eqb (length ys) 0 → b ≡ false → 0 < length xs + length ys
found_some xs ys b e t = grind (arith, nat_tests)

pub returns-then-is_empty-2 : goal.returns-then-is_empty-2
returns-then-is_empty-2 c = λ d h.
    let text : List ℕ = c.args.text.now in
    let k : IsCut text d.whole d.part h.scale d.negative d.point = spelt_cut text d h in
    let w : c.split_digits.result.0.now ≡ d.whole = c.split_digits.ensures.digits ∙ ap digits_in_front c.split_sign-negative.ensures.rest ∙ k.whole_is in
    let r : c.split_digits.result.1.now ≡ after_digits (after_sign text) = c.split_digits.ensures.rest ∙ ap after_digits c.split_sign-negative.ensures.rest in
    let p : c.split_digits-2.result.0.now ≡ d.part = c.split_digits-2.ensures.digits ∙ ap digits_in_front (c.skip_point.ensures ∙ ap after_point r) ∙ k.part_is in
    let a : length d.whole ≡ 0 = sym (ap length w) ∙ found_empty c.is_empty.result c.split_digits.result.0.now c.is_empty.ensures c.if-is_empty.true in
    let b : length d.part ≡ 0 = sym (ap length p) ∙ found_empty c.is_empty-then-is_empty.result c.split_digits-2.result.0.now c.is_empty-then-is_empty.ensures c.if-is_empty-2.true in
    omega (arith, h.some)

pub returns-in_err-exponent : goal.returns-in_err-exponent
returns-in_err-exponent c =
    let text : List ℕ = c.args.text.now in
    let r : c.split_digits.result.1.now ≡ after_digits (after_sign text) = c.split_digits.ensures.rest ∙ ap after_digits c.split_sign-negative.ensures.rest in
    let s : c.split_digits-2.result.1.now ≡ after_digits (after_point (after_digits (after_sign text))) = c.split_digits-2.ensures.rest ∙ ap after_digits (c.skip_point.ensures ∙ ap after_point r) in
    rw c.from_residual.ensures (λ d h.
    let k : IsCut text d.whole d.part h.scale d.negative d.point = spelt_cut text d h in
    c.in_err-exponent.ensures d.exponent (subst (λ (x : List ℕ). SpellsExponent x d.exponent) (sym (s ∙ k.scale_is)) h.is_scale))

pub returns : goal.returns
returns c =
    let text : List ℕ = c.args.text.now in
    let z : ℤ = c.in_ok-exponent.exponent in
    let f : FitsSigned w128 z = search rules in
    let w : c.split_digits.result.0.now ≡ digits_in_front (after_sign text) = c.split_digits.ensures.digits ∙ ap digits_in_front c.split_sign-negative.ensures.rest in
    let r : c.split_digits.result.1.now ≡ after_digits (after_sign text) = c.split_digits.ensures.rest ∙ ap after_digits c.split_sign-negative.ensures.rest in
    let t : c.skip_point.result.now ≡ after_point (after_digits (after_sign text)) = c.skip_point.ensures ∙ ap after_point r in
    let p : c.split_digits-2.result.0.now ≡ digits_in_front (after_point (after_digits (after_sign text))) = c.split_digits-2.ensures.digits ∙ ap digits_in_front t in
    let s : c.split_digits-2.result.1.now ≡ after_digits (after_point (after_digits (after_sign text))) = c.split_digits-2.ensures.rest ∙ ap after_digits t in
    let x : (e : Option ℤ) × SpellsExponent c.split_digits-2.result.1.now e × (exponent_or_zero e ≡ z) = c.in_ok-exponent.ensures in
    let some : 0 < length c.split_digits.result.0.now + length c.split_digits-2.result.0.now =
    elim c.else-is_empty.branch as (λ _. 0 < length c.split_digits.result.0.now + length c.split_digits-2.result.0.now) [
      | else-is_empty-via-then-is_empty+else-is_empty-2 v ↦ found_some c.split_digits.result.0.now c.split_digits-2.result.0.now v.is_empty-then-is_empty.result v.is_empty-then-is_empty.ensures v.if-is_empty-2.false
      | else-is_empty-via-else-is_empty v ↦ omega (arith, found_some [] c.split_digits.result.0.now c.is_empty.result c.is_empty.ensures v.if-is_empty.false)
    ] in
    record {
      decimal = record { negative = is_negative text; whole = digits_in_front (after_sign text); point = has_point (after_digits (after_sign text)); part = digits_in_front (after_point (after_digits (after_sign text))); exponent = x.0 };
      spelt = spelt_from text x.0 (subst (λ (y : List ℕ). 0 < length y + length (digits_in_front (after_point (after_digits (after_sign text))))) w (subst (λ (y : List ℕ). 0 < length c.split_digits.result.0.now + length y) p some)) (subst (λ (y : List ℕ). SpellsExponent y x.0) s x.1);
      is_negative = sym c.split_sign-negative.ensures.negative;
      is_whole = sym w;
      is_part = sym p;
      is_exponent = x.2 ∙ sym (to_z-of_z w128 z f);
    }
