-- The results of all calls are in the range of their kind. F is the number of fraction bits.
use Rattle.std.specs.Prelude.{ℕ, ℤ, pos, ◌^◌, ◌≤◌, ◌≤ℤ◌, ◌<ℤ◌, ◌<◌, Bool, true, false}
use Rattle.fix_num.specs.declared.integers.WholeOp.{WholeOp}
use Rattle.fix_num.specs.Fixed.{IsRaw, one, fix_add, fix_sub, fix_mul, fix_div, fix_neg, fix_abs, fix_floor, fix_times, fix_sqrt, code_in, code_out}
use Rattle.fix_num.specs.Half.{IsHalf, half, half_unit}
use Rattle.fix_num.specs.Decimal.{Decimal, decimal_raw}
use Rattle.fix_num.specs.Whole.{IsWhole, whole, as_whole, from_whole, half_from_whole, to_int, to_unsigned, of_bool}

-- the arithmetic gives raws; a size is not negative
pub record ArithmeticInRange (F : ℕ) : Type 0 where
  pub sum : (a b : ℤ) → IsRaw (fix_add a b)
  pub difference : (a b : ℤ) → IsRaw (fix_sub a b)
  pub product : (a b : ℤ) → IsRaw (fix_mul F a b)
  pub quotient : (a b : ℤ) → IsRaw (fix_div F a b)
  pub negative : (a : ℤ) → IsRaw a → IsRaw (fix_neg a)
  pub size : (a : ℤ) → IsRaw a → IsRaw (fix_abs a) × (pos 0 ≤ℤ fix_abs a)
  pub floor : (a : ℤ) → IsRaw (fix_floor F a)
  pub times : (a : ℤ) (n : ℕ) → IsRaw (fix_times a n)
  pub root : (a : ℤ) → IsRaw a → IsRaw (fix_sqrt F a) × (pos 0 ≤ℤ fix_sqrt F a)
  pub decimal : (d : Decimal) → IsRaw (decimal_raw F d)

abbrev pub ArithmeticStaysInRange : Type 0
ArithmeticStaysInRange = (F : ℕ) → F ≤ 40 → ArithmeticInRange F

-- a half is one of the halves, which are raws
pub record HalvesInRange (F : ℕ) : Type 0 where
  pub half : (r : ℤ) → IsHalf (half_unit F) (half F r)
  pub raw : (h : ℤ) → IsHalf (half_unit F) h → IsRaw h

abbrev pub HalvesStayInRange : Type 0
HalvesStayInRange = (F : ℕ) → F ≤ 40 → HalvesInRange F

-- operations on whole numbers and conversions give numbers of the kind that they are to give
pub record WholesInRange (F : ℕ) : Type 0 where
  pub operation : (op : WholeOp) (signed : Bool) (a b : ℤ) → IsWhole signed a → IsWhole signed b → IsWhole signed (whole op signed a b)
  pub wrapped : (signed : Bool) (z : ℤ) → IsWhole signed (as_whole signed z)
  pub bool : (signed : Bool) (b : Bool) → IsWhole signed (of_bool b)
  pub int : (r : ℤ) → IsRaw r → IsWhole true (to_int F r)
  pub unsigned : (r : ℤ) → IsRaw r → IsWhole false (to_unsigned F r)
  pub number : (n : ℤ) → IsRaw (from_whole F n)
  pub half : (n : ℤ) → IsHalf (half_unit F) (half_from_whole F n)

abbrev pub WholesStayInRange : Type 0
WholesStayInRange = (F : ℕ) → 32 ≤ F → F ≤ 40 → WholesInRange F

-- a code that is written has its bits, and a code that is read is from 0.0 to 1.0
pub record CodesInRange (F : ℕ) : Type 0 where
  pub written : (r : ℤ) (b : ℕ) → (pos 0 ≤ℤ code_out F r b) × (code_out F r b <ℤ pos (2 ^ b))
  pub read : (c b : ℕ) → 0 < b → c < 2 ^ b → (pos 0 ≤ℤ code_in F c b) × (code_in F c b ≤ℤ one F)

abbrev pub CodesStayInRange : Type 0
CodesStayInRange = (F : ℕ) → CodesInRange F
