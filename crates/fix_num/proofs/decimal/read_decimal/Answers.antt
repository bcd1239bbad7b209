-- Goals of `decimal::read_decimal`.
use Rattle.std.proofs.Common.{◌≡◌, ℕ, ℤ, pos, neg_ℤ, ◌-ℤ◌, ◌*ℤ◌, ◌*◌, ◌^◌, ◌<◌, ◌≤◌, unsigned_abs, Bool, length, to_z, of_z, ap, sym, ◌∙◌, arith}
use Rattle.std.proofs.lemmas.Int.{ints}
use Rattle.std.specs.Int.{w128}
use Rattle.fix_num.specs.declared.TheConstants.{FRACTION}
use Rattle.fix_num.specs.Fixed.{sat}
use Rattle.fix_num.specs.Decimal.{Decimal, number, number_from, digits_of, significant, signed, nearest, exponent_or_zero, decimal_raw}
use Rattle.fix_num.specs.Cutting.{Says}
use Rattle.fix_num.proofs.Cut.{says_small, said_number, said_digits}
use Rattle.fix_num.proofs.Number.{significant_above, significant_at_most}
use Rattle.fix_num.proofs.decimal.read_decimal.Goals as goal
use Rattle.fix_num.proofs.decimal.read_decimal.Goals.{then-parts, else-parts}

pub returns-in_default-number_of : goal.returns-in_default-number_of
returns-in_default-number_of c =
    let s : Says c.args.text.now c.in-Some.parts.negative c.in-Some.parts.whole.now c.in-Some.parts.part.now c.in-Some.parts.exponent = c.in-Some.ensures in
    let n : number_from (number c.in-Some.parts.whole.now) c.in-Some.parts.part.now ≡ number (digits_of s.decimal) = said_number _ _ _ _ _ s in
    let g : 10 ^ 25 ≤ number_from (number c.in-Some.parts.whole.now) c.in-Some.parts.part.now = c.in_default-number_of.ensures in
    (s.decimal, s.spelt, significant_above 25 (digits_of s.decimal) (said_digits c.args.text.now s.decimal s.spelt) (omega arith))

pub overflow_sub-power : goal.overflow_sub-power
overflow_sub-power c =
    let s : Says c.args.text.now c.in-Some.parts.negative c.in-Some.parts.whole.now c.in-Some.parts.part.now c.in-Some.parts.exponent = c.in-Some.ensures in
    let e : unsigned_abs c.in-Some.parts.exponent < 10 ^ 4 = says_small _ _ _ _ _ s in
    omega (arith, ints)

-- what the code hands on is the number of the definition
handed : (d : Decimal) (result n power : ℤ) → result ≡ sat (nearest n power) → n ≡ signed d.negative (pos (number (digits_of d) * 2 ^ FRACTION)) → power ≡ exponent_or_zero d.exponent -ℤ pos (length d.part) → result ≡ decimal_raw FRACTION d
unfolding decimal_raw
handed d result n power e f g = e ∙ ap (λ (x : ℤ). sat (nearest x power)) f ∙ ap (λ (x : ℤ). sat (nearest (signed d.negative (pos (number (digits_of d) * 2 ^ FRACTION))) x)) g

negated : (n : ℕ) → n < 10 ^ 25 → to_z w128 (of_z w128 (pos 0 -ℤ to_z w128 (of_z w128 (to_z w128 n *ℤ pos (2 ^ FRACTION))))) ≡ neg_ℤ (pos (n * 2 ^ FRACTION))
negated n small = omega (arith, ints)

plain : (n : ℕ) → n < 10 ^ 25 → to_z w128 (of_z w128 (to_z w128 n *ℤ pos (2 ^ FRACTION))) ≡ pos (n * 2 ^ FRACTION)
plain n small = omega (arith, ints)

pub returns : goal.returns
returns c =
    let s : Says c.args.text.now c.in-Some.parts.negative c.in-Some.parts.whole.now c.in-Some.parts.part.now c.in-Some.parts.exponent = c.in-Some.ensures in
    let n : ℕ = c.in-Some-number_of.digits in
    let v : n ≡ number (digits_of s.decimal) = c.in-Some-number_of.ensures.0 ∙ said_number _ _ _ _ _ s in
    let small : n < 10 ^ 25 = c.in-Some-number_of.ensures.1 in
    let e : unsigned_abs c.in-Some.parts.exponent < 10 ^ 4 = says_small _ _ _ _ _ s in
    let p : length c.in-Some.parts.part.now ≡ length s.decimal.part = ap length (sym s.is_part) in
    let x : exponent_or_zero s.decimal.exponent ≡ c.in-Some.parts.exponent = s.is_exponent in
    let few : significant (digits_of s.decimal) ≤ 25 = significant_at_most 25 (digits_of s.decimal) (said_digits c.args.text.now s.decimal s.spelt) (omega arith) in
    let z : ℤ = to_z w128 c.if-parts.scaled-bits in
    let is : z ≡ signed s.decimal.negative (pos (number (digits_of s.decimal) * 2 ^ FRACTION)) =
    elim c.if-parts.branch as (λ _. z ≡ signed s.decimal.negative (pos (number (digits_of s.decimal) * 2 ^ FRACTION))) [
      | then-parts w ↦ w.scaled-is ∙ negated n small ∙ ap (λ (m : ℕ). neg_ℤ (pos (m * 2 ^ FRACTION))) v ∙ ap (λ (b : Bool). signed b (pos (number (digits_of s.decimal) * 2 ^ FRACTION))) (sym w.if-parts.true ∙ sym s.is_negative)
      | else-parts w ↦ w.scaled-is ∙ plain n small ∙ ap (λ (m : ℕ). pos (m * 2 ^ FRACTION)) v ∙ ap (λ (b : Bool). signed b (pos (number (digits_of s.decimal) * 2 ^ FRACTION))) (sym w.if-parts.false ∙ sym s.is_negative)
    ] in
    (s.decimal, s.spelt, few, handed s.decimal c.scaled.result z _ c.scaled.ensures is (omega (arith, ints)))
