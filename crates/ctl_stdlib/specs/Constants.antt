-- The constants of the library: name, kind, and value as a word. F is the number of fraction bits.
use Rattle.std.specs.Prelude.{◌≡◌, ℕ, ℤ, pos, neg_ℤ, ◌-◌, ◌*◌, ◌^◌, List, codes}
use Rattle.ctl_base.specs.declared.kind.ScalarKind.{ScalarKind}
use Rattle.ctl_base.specs.declared.kind.ScalarKind.TheVariants.{Int, Unsigned, Half, Float}
use Rattle.fix_num.specs.Fixed.{one, max_raw, fix_times}
use Rattle.ctl_stdlib.specs.declared.constants.LibraryConstant.{LibraryConstant}
use Rattle.ctl_stdlib.specs.declared.constants.LibraryConstant.TheVariants.{Pi, Euler, HalfMax, FloatMax, IntMax, IntMin, UnsignedMax}

-- A constant. The word of a half or a float is its raw, and that of a whole number is the number.
pub record ConstantRow : Type 0 where
  pub name : List ℕ
  pub kind : ScalarKind
  pub word : ℕ → ℤ

-- the row of each constant; the decimals have 18 places
abbrev pub constant : LibraryConstant → ConstantRow
constant Pi = record { name = codes "M_PI"; kind = Float; word = λ F. fix_times (one F) 3141592653589793238 }
constant Euler = record { name = codes "M_E"; kind = Float; word = λ F. fix_times (one F) 2718281828459045235 }
constant HalfMax = record { name = codes "HALF_MAX"; kind = Half; word = λ F. pos (65504 * 2 ^ F) }
constant FloatMax = record { name = codes "FLT_MAX"; kind = Float; word = λ F. pos max_raw }
constant IntMax = record { name = codes "INT_MAX"; kind = Int; word = λ F. pos (2 ^ 31 - 1) }
constant IntMin = record { name = codes "INT_MIN"; kind = Int; word = λ F. neg_ℤ (pos (2 ^ 31)) }
constant UnsignedMax = record { name = codes "UINT_MAX"; kind = Unsigned; word = λ F. pos (2 ^ 32 - 1) }

-- no constant has this name
abbrev pub NoConstant : List ℕ → Type 0
NoConstant name = (c : LibraryConstant) → (constant c).name ≡ name → ⊥
