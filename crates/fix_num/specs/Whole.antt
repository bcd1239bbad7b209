-- Whole numbers of 32 bits: an int is from -2^31 to 2^31 - 1, an unsigned from 0 to 2^32 - 1. Conversions between the kinds of number.
use Rattle.std.specs.Prelude.{ℕ, ℤ, pos, ◌+ℤ◌, ◌-ℤ◌, ◌*ℤ◌, ◌≤ℤ◌, ◌<ℤ◌, neg_ℤ, ◌^◌, ◌%◌, Bool, true, false, if◌then◌else◌, ◌==◌, int_lt, nat_lt, int_div, int_rem, unsigned_abs, bit_and, bit_or, bit_xor}
use Rattle.std.specs.Int.{int_wrap, w32, int_div_euclid, int_rem_euclid}
use Rattle.fix_num.specs.Fixed.{one, sat}
use Rattle.fix_num.specs.Half.{half}
use Rattle.fix_num.specs.declared.integers.WholeOp.{WholeOp}
use Rattle.fix_num.specs.declared.integers.WholeOp.TheVariants.{Add, Sub, Mul, Div, Rem, And, Or, Xor, Shl, Shr}

-- z is an int, or else an unsigned
abbrev pub IsWhole : Bool → ℤ → Type 0
IsWhole true z = (neg_ℤ (pos (2 ^ 31)) ≤ℤ z) × (z <ℤ pos (2 ^ 31))
IsWhole false z = (pos 0 ≤ℤ z) × (z <ℤ pos (2 ^ 32))

-- the int that differs from z by a multiple of 2^32
abbrev pub as_int : ℤ → ℤ
as_int z = int_wrap w32 z

-- the unsigned that differs from z by a multiple of 2^32
abbrev pub as_unsigned : ℤ → ℤ
as_unsigned z = int_rem_euclid z (pos (2 ^ 32))

-- the int where `signed` is true, else the unsigned
abbrev pub as_whole : Bool → ℤ → ℤ
as_whole true z = as_int z
as_whole false z = as_unsigned z

-- the 32 bits of z, as a number
abbrev pub word : ℤ → ℕ
word z = unsigned_abs (as_unsigned z)

-- what an operation gives, of two ints where `signed` is true, else of two unsigned
abbrev pub whole : WholeOp → Bool → ℤ → ℤ → ℤ
whole Add signed a b = as_whole signed (a +ℤ b)
whole Sub signed a b = as_whole signed (a -ℤ b)
whole Mul signed a b = as_whole signed (a *ℤ b)
-- toward zero, and 0 by zero
whole Div signed a b = if unsigned_abs b == 0 then pos 0 else as_whole signed (int_div a b)
-- of the sign of a, and 0 by zero
whole Rem signed a b = if unsigned_abs b == 0 then pos 0 else int_rem a b
whole And signed a b = as_whole signed (pos (bit_and (word a) (word b)))
whole Or signed a b = as_whole signed (pos (bit_or (word a) (word b)))
whole Xor signed a b = as_whole signed (pos (bit_xor (word a) (word b)))
-- a count is taken modulo 32
whole Shl signed a b = as_whole signed (a *ℤ pos (2 ^ (word b % 32)))
-- downwards, so that the sign stays
whole Shr signed a b = int_div_euclid a (pos (2 ^ (word b % 32)))

-- the raw, at F fraction bits, of a whole number
abbrev pub from_whole : ℕ → ℤ → ℤ
from_whole F n = sat (n *ℤ one F)

-- the raw of the half of a whole number
abbrev pub half_from_whole : ℕ → ℤ → ℤ
half_from_whole F n = half F (from_whole F n)

-- the int of a raw, toward zero
abbrev pub to_int : ℕ → ℤ → ℤ
to_int F r = int_div r (one F)

-- the unsigned of a raw, toward zero, and 0 where it is negative
abbrev pub to_unsigned : ℕ → ℤ → ℤ
to_unsigned F r = if int_lt r (pos 0) then pos 0 else int_div r (one F)

-- whether a number, whole or a raw, is not 0
abbrev pub truth : ℤ → Bool
truth z = nat_lt 0 (unsigned_abs z)

-- a bool as a whole number
abbrev pub of_bool : Bool → ℤ
of_bool true = pos 1
of_bool false = pos 0
