-- Goals of `integers::whole_int`.
use Rattle.std.proofs.Common.{◌≡◌, ℕ, ℤ, pos, ◌≤◌, ◌^◌, ◌*◌, ◌%◌, bit_and, bit_or, unsigned_abs, ◌==◌, FitsSigned, to_z, of_z, w32, ap, ◌∙◌, arith}
use Rattle.std.proofs.lemmas.Int.{ints, to_z-of_z, wrapping_add_is, wrapping_sub_is}
use Rattle.std.specs.Prelude.{bit_xor, int_div}
use Rattle.fix_num.specs.Whole.{word, as_int}
use Rattle.fix_num.proofs.Floor.{quotient_small}
use Rattle.fix_num.proofs.Words.{of_word, bits_int, int_at, shift_int, some_divisor, if_false}
use Rattle.std.proofs.lemmas.Nat.{or_lt, xor_lt}
use Rattle.std.specs.Int.Bits.{and_lt}
use Rattle.fix_num.proofs.integers.whole_int.Goals as goal

pub returns-in-Add : goal.returns-in-Add
returns-in-Add c = rw c.in-Add.is (wrapping_add_is w32 c.args.a c.args.b c.ranges.a c.ranges.b)

pub returns-in-Sub : goal.returns-in-Sub
returns-in-Sub c = rw c.in-Sub.is (wrapping_sub_is w32 c.args.a c.args.b c.ranges.a c.ranges.b)

pub returns-else-b-eq0 : goal.returns-else-b-eq0
returns-else-b-eq0 c =
    let a : ℤ = c.args.a in
    let b : ℤ = c.args.b in
    let af : FitsSigned w32 a = c.ranges.a in
    let bf : FitsSigned w32 b = c.ranges.b in
    let rf : FitsSigned w32 c.wrapping_div.result = record { sfits = c.wrapping_div.type_inv } in
    let q : unsigned_abs (int_div a b) ≤ unsigned_abs a = quotient_small a b in
    let small : unsigned_abs a ≤ 2 ^ 31 = omega (arith, ints) in
    let d = simp to_z-of_z at c.wrapping_div.ensures in
    let v : to_z w32 (of_z w32 (int_div a b)) ≡ as_int (int_div a b) = int_at (int_div a b) (omega arith) in
    rw c.in-Div.is (if_false (unsigned_abs b == 0) (to_z w32 (of_z w32 c.wrapping_div.result)) (pos 0) (as_int (int_div a b)) (some_divisor b c.if-b-eq0.false) (to_z-of_z w32 c.wrapping_div.result rf ∙ d ∙ v))

pub returns-in-And : goal.returns-in-And
returns-in-And c = rw c.in-And.is (bits_int bit_and (and_lt 32) c.args.a c.args.b c.ranges.a c.ranges.b)

pub returns-in-Or : goal.returns-in-Or
returns-in-Or c = rw c.in-Or.is (bits_int bit_or (or_lt 32) c.args.a c.args.b c.ranges.a c.ranges.b)

pub returns-in-Xor : goal.returns-in-Xor
returns-in-Xor c = rw c.in-Xor.is (bits_int bit_xor (xor_lt 32) c.args.a c.args.b c.ranges.a c.ranges.b)

pub returns-in-Shl : goal.returns-in-Shl
returns-in-Shl c =
    let a : ℤ = c.args.a in
    let b : ℤ = c.args.b in
    let af : FitsSigned w32 a = c.ranges.a in
    let bf : FitsSigned w32 b = c.ranges.b in
    let rf : FitsSigned w32 c.wrapping_shl.result = record { sfits = c.wrapping_shl.type_inv } in
    let x = simp to_z-of_z at c.cast_unsigned.ensures in
    let y = simp to_z-of_z at c.wrapping_shl.ensures in
    let k : c.cast_unsigned.result ≡ word b = x ∙ of_word b bf in
    rw c.in-Shl.is (to_z-of_z w32 c.wrapping_shl.result rf ∙ y ∙ ap (λ (n : ℕ). to_z w32 (of_z w32 a * 2 ^ (n % 32) % 2 ^ 32)) k ∙ shift_int a (2 ^ (word b % 32)) af)
