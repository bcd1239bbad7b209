-- How a spelling is cut into its parts, from the front.
use Rattle.std.specs.Prelude.{◌≡◌, ℕ, ℤ, Bool, false, List, [], ◌∷◌, take, drop, if◌then◌else◌, ◌==◌}
use Rattle.std.specs.List.{prefix_len}
use Rattle.std.specs.Char.{is_ascii_digit}
use Rattle.fix_num.specs.Decimal.{Decimal, Spells, exponent_or_zero}

-- whether a text begins with a minus
abbrev pub is_negative : List ℕ → Bool
is_negative [] = false
is_negative (b ∷ bytes) = b == 45

-- what follows an optional sign
abbrev pub after_sign : List ℕ → List ℕ
after_sign [] = []
after_sign (b ∷ bytes) = if b == 45 then bytes else (if b == 43 then bytes else b ∷ bytes)

-- the digits in front
abbrev pub digits_in_front : List ℕ → List ℕ
digits_in_front text = take (prefix_len is_ascii_digit text) text

-- what follows the digits in front
abbrev pub after_digits : List ℕ → List ℕ
after_digits text = drop (prefix_len is_ascii_digit text) text

-- what follows an optional point
abbrev pub after_point : List ℕ → List ℕ
after_point [] = []
after_point (b ∷ bytes) = if b == 46 then bytes else b ∷ bytes

-- the text spells a number with these parts
pub record Says (text : List ℕ) (negative : Bool) (whole part : List ℕ) (exponent : ℤ) : Type 0 where
  pub decimal : Decimal
  pub spelt : Spells text decimal
  pub is_negative : decimal.negative ≡ negative
  pub is_whole : decimal.whole ≡ whole
  pub is_part : decimal.part ≡ part
  pub is_exponent : exponent_or_zero decimal.exponent ≡ exponent
