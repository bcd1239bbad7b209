-- The constants of the library are in the ranges of their kinds.
use Rattle.std.proofs.Common.{◌≡◌, ℤ, pos, neg_ℤ, ◌-ℤ◌, ◌^◌, ◌*◌, ◌≤ℤ◌, Bool, true, false, ◌==◌, int_lt, unsigned_abs, ap, refl, arith, inr}
use Rattle.std.proofs.lemmas.Int.{ints}
use Rattle.fix_num.specs.declared.TheConstants.{FRACTION}
use Rattle.fix_num.specs.Fixed.{IsRaw, max_raw, one}
use Rattle.fix_num.specs.Half.{half_unit, IsHalf, HalfKeeps}
use Rattle.fix_num.specs.Ranges.{ArithmeticStaysInRange}
use Rattle.ctl_base.specs.declared.kind.ScalarKind.TheVariants as kind
use Rattle.ctl_stdlib.specs.declared.constants.LibraryConstant.{LibraryConstant}
use Rattle.ctl_stdlib.specs.declared.constants.LibraryConstant.TheVariants.{Pi, Euler, HalfMax, FloatMax, IntMax, IntMin, UnsignedMax}
use Rattle.ctl_stdlib.specs.Constants.{constant}
use Rattle.ctl_types.specs.Scalars.{is_within, in_range}

no_less : (a b : ℤ) → b ≤ℤ a → int_lt a b ≡ false
no_less a b h = by (int_lt a b) refl where
  by : (t : Bool) → int_lt a b ≡ t → int_lt a b ≡ false
  by false e = e
  by true e = absurd (omega (arith, ints))

within : (low high z : ℤ) → low ≤ℤ z → z ≤ℤ high → is_within low high z ≡ true
within low high z a b =
    rw (no_less z low a, no_less high z b) refl

pub raw_within : (z : ℤ) → IsRaw z → in_range FRACTION kind.Float z ≡ true
raw_within z r = within (neg_ℤ (pos max_raw)) (pos max_raw) z r.0 r.1

is_half : IsHalf (half_unit FRACTION) (pos (65504 * 2 ^ FRACTION))
is_half = (2047, 29, record { value = refl; few = omega arith; range = omega arith; full = inr (omega arith) })

half_within : HalfKeeps → in_range FRACTION kind.Half (pos (65504 * 2 ^ FRACTION)) ≡ true
half_within keeps = ap (λ z. unsigned_abs (z -ℤ pos (65504 * 2 ^ FRACTION)) == 0) (keeps FRACTION _ is_half)

pub constant_in_range : HalfKeeps → ArithmeticStaysInRange → (c : LibraryConstant) → in_range FRACTION (constant c).kind ((constant c).word FRACTION) ≡ true
constant_in_range keeps stays Pi = raw_within _ ((stays FRACTION (omega arith)).times (one FRACTION) 3141592653589793238)
constant_in_range keeps stays Euler = raw_within _ ((stays FRACTION (omega arith)).times (one FRACTION) 2718281828459045235)
constant_in_range keeps stays HalfMax = half_within keeps
constant_in_range keeps stays FloatMax = refl
constant_in_range keeps stays IntMax = refl
constant_in_range keeps stays IntMin = refl
constant_in_range keeps stays UnsignedMax = refl
