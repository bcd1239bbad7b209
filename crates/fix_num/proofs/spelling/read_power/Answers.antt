-- Goals of `spelling::read_power`.
use Rattle.std.proofs.Common.{◌≡◌, ℕ, ℤ, pos, neg_ℤ, to_z, of_z, Bool, true, false, ◌-ℤ◌, ◌<◌, ◌≤◌, ◌^◌, List, length, All, ap, sym, subst, ◌∙◌, arith}
use Rattle.std.proofs.lemmas.Bool.Decides.{nat_tests}
use Rattle.std.proofs.lemmas.Int.{ints}
use Rattle.std.specs.Int.{w128}
use Rattle.fix_num.specs.Decimal.{IsDigit, number, signed}
use Rattle.fix_num.specs.Cutting.{after_sign, digits_in_front, after_digits, is_negative}
use Rattle.fix_num.proofs.Cut.{front_digits, IsPower, power_cut, power_from}
use Rattle.fix_num.proofs.Number.{few_small}
use Rattle.fix_num.proofs.spelling.read_power.Goals as goal
use Rattle.fix_num.proofs.spelling.read_power.Goals.{then-is_empty-via-then-is_empty, then-is_empty-via-else-is_empty+then-digits-gt4, then-is_empty-via-else-is_empty+else-digits-gt4+then-not-is_empty}

pub more_digits-requires-clause-are_digits : goal.more_digits-requires-clause-are_digits
more_digits-requires-clause-are_digits c = subst (All IsDigit) (sym c.split_digits.ensures.digits) (front_digits c.split_sign-negative.result.1.now)

pub returns-then-is_empty : goal.returns-then-is_empty
returns-then-is_empty c = λ z h.
    let text : List ℕ = c.args.text.now in
    let digits : List ℕ = c.split_digits.result.0.now in
    let rest : List ℕ = c.split_digits.result.1.now in
    let d : digits ≡ digits_in_front (after_sign text) = c.split_digits.ensures.digits ∙ ap digits_in_front c.split_sign-negative.ensures.rest in
    let r : rest ≡ after_digits (after_sign text) = c.split_digits.ensures.rest ∙ ap after_digits c.split_sign-negative.ensures.rest in
    let p : IsPower text h.digits h.negative = power_cut text z h in
    let some : 0 < length digits = subst (λ (x : List ℕ). 0 < length x) (sym (d ∙ p.digits_are)) h.some in
    let few : length digits ≤ 4 = subst (λ (x : List ℕ). length x ≤ 4) (sym (d ∙ p.digits_are)) h.few in
    let none : length rest ≡ 0 = ap length (r ∙ p.rest_is) in
    elim c.then-is_empty.branch as (λ _. ⊥) [
      | then-is_empty-via-then-is_empty w ↦ grind (arith, nat_tests)
      | then-is_empty-via-else-is_empty+then-digits-gt4 w ↦ omega arith
      | then-is_empty-via-else-is_empty+else-digits-gt4+then-not-is_empty w ↦ grind (arith, nat_tests)
    ]

pub returns-in_err-size : goal.returns-in_err-size
returns-in_err-size c =
    let h : number c.split_digits.result.0.now < 10 ^ 4 = few_small c.split_digits.result.0.now (subst (All IsDigit) (sym c.split_digits.ensures.digits) (front_digits c.split_sign-negative.result.1.now)) c.if-digits-gt4.false in
    absurd (omega (arith, c.in_err-size.ensures))

pub returns-then-negative : goal.returns-then-negative
returns-then-negative c =
    let text : List ℕ = c.args.text.now in
    let digits : List ℕ = c.split_digits.result.0.now in
    let rest : List ℕ = c.split_digits.result.1.now in
    let n : ℕ = c.in_ok-size.field-0 in
    let v : n ≡ number digits = c.in_ok-size.ensures.0 in
    let low : n < 10 ^ 25 = c.in_ok-size.ensures.1 in
    let z : ℤ = to_z w128 (of_z w128 (pos 0 -ℤ to_z w128 n)) in
    let is : is_negative text ≡ true = sym c.split_sign-negative.ensures.negative ∙ c.if-negative.true in
    let e : z ≡ neg_ℤ (pos (number digits)) = omega (arith, ints) in
    power_from text digits rest z
    (c.split_digits.ensures.digits ∙ ap digits_in_front c.split_sign-negative.ensures.rest)
    (c.split_digits.ensures.rest ∙ ap after_digits c.split_sign-negative.ensures.rest)
    (grind (arith, nat_tests))
    c.if-digits-gt4.false
    (grind (arith, nat_tests))
    (subst (λ (b : Bool). z ≡ signed b (pos (number digits))) (sym is) e)

pub returns-else-negative : goal.returns-else-negative
returns-else-negative c =
    let text : List ℕ = c.args.text.now in
    let digits : List ℕ = c.split_digits.result.0.now in
    let rest : List ℕ = c.split_digits.result.1.now in
    let n : ℕ = c.in_ok-size.field-0 in
    let v : n ≡ number digits = c.in_ok-size.ensures.0 in
    let low : n < 10 ^ 25 = c.in_ok-size.ensures.1 in
    let z : ℤ = to_z w128 n in
    let is : is_negative text ≡ false = sym c.split_sign-negative.ensures.negative ∙ c.if-negative.false in
    let e : z ≡ pos (number digits) = omega (arith, ints) in
    power_from text digits rest z
    (c.split_digits.ensures.digits ∙ ap digits_in_front c.split_sign-negative.ensures.rest)
    (c.split_digits.ensures.rest ∙ ap after_digits c.split_sign-negative.ensures.rest)
    (grind (arith, nat_tests))
    c.if-digits-gt4.false
    (grind (arith, nat_tests))
    (subst (λ (b : Bool). z ≡ signed b (pos (number digits))) (sym is) e)
