-- The spelling of a decimal number, and the raw of the number that it spells.
use Rattle.std.specs.Prelude.{◌≡◌, ℕ, ℤ, pos, negsuc, neg_ℤ, ◌-ℤ◌, ◌*ℤ◌, ◌+◌, ◌-◌, ◌*◌, ◌^◌, ◌<◌, ◌≤◌, Bool, true, false, List, [], ◌∷◌, ◌++◌, length, fold, Option, Some, None, Result, Ok, Err, All, if◌then◌else◌, ◌==◌, ◌⊎◌}
use Rattle.fix_num.specs.declared.decimal.LiteralFault.{LiteralFault}
use Rattle.fix_num.specs.declared.decimal.LiteralFault.TheVariants.{NotANumber, TooManyDigits}
use Rattle.fix_num.specs.Fixed.{rnd, sat}

-- What a decimal spelling says.
pub record Decimal : Type 0 where
  -- whether a minus stands in front
  pub negative : Bool
  -- the digits before the point
  pub whole : List ℕ
  -- whether there is a point
  pub point : Bool
  -- the digits after the point
  pub part : List ℕ
  -- the exponent, where one is given
  pub exponent : Option ℤ

-- a byte from 0 to 9
abbrev pub IsDigit : ℕ → Type 0
IsDigit b = (48 ≤ b) × (b ≤ 57)

-- the number that digits spell after those that spell n
abbrev pub number_from : ℕ → List ℕ → ℕ
number_from n digits = fold (λ m b. 10 * m + (b - 48)) n digits

-- the number that digits spell
abbrev pub number : List ℕ → ℕ
number digits = number_from 0 digits

-- -z or z
abbrev pub signed : Bool → ℤ → ℤ
signed true z = neg_ℤ z
signed false z = z

-- nothing, + or -
abbrev pub SpellsSign : List ℕ → Bool → Type 0
SpellsSign [] negative = negative ≡ false
SpellsSign (b ∷ []) negative = ((b ≡ 43) × (negative ≡ false)) ⊎ ((b ≡ 45) × (negative ≡ true))
SpellsSign (a ∷ b ∷ bytes) negative = ⊥

-- an optional sign and one to four digits
pub record SpellsPower (bytes : List ℕ) (power : ℤ) : Type 0 where
  pub negative : Bool
  pub sign : List ℕ
  pub digits : List ℕ
  pub joined : bytes ≡ sign ++ digits
  pub is_sign : SpellsSign sign negative
  pub are_digits : All IsDigit digits
  pub some : 0 < length digits
  pub few : length digits ≤ 4
  pub value : power ≡ signed negative (pos (number digits))

-- nothing, or e or E and a power
abbrev pub SpellsExponent : List ℕ → Option ℤ → Type 0
SpellsExponent [] exponent = exponent ≡ None
SpellsExponent (mark ∷ bytes) None = ⊥
SpellsExponent (mark ∷ bytes) (Some power) = ((mark ≡ 101) ⊎ (mark ≡ 69)) × SpellsPower bytes power

-- an optional sign, digits with at most one point among or beside them and at least one digit, an optional exponent
pub record Spells (text : List ℕ) (d : Decimal) : Type 0 where
  pub sign : List ℕ
  pub scale : List ℕ
  pub joined : text ≡ sign ++ (d.whole ++ ((if d.point then 46 ∷ d.part else []) ++ scale))
  pub is_sign : SpellsSign sign d.negative
  pub whole_digits : All IsDigit d.whole
  pub part_digits : All IsDigit d.part
  pub pointed : d.point ≡ false → d.part ≡ []
  pub some : 0 < length d.whole + length d.part
  pub is_scale : SpellsExponent scale d.exponent

-- a text spells at most one number
abbrev pub SpellsOnce : Type 0
SpellsOnce = (text : List ℕ) (d e : Decimal) → Spells text d → Spells text e → d ≡ e

-- more digits make no number less
abbrev pub DigitsGrow : Type 0
DigitsGrow = (n : ℕ) (digits more : List ℕ) → number_from n digits ≤ number_from n (digits ++ more)

-- how many digits there are from the first that is not 0
abbrev pub significant : List ℕ → ℕ
significant [] = 0
significant (b ∷ digits) = if b == 48 then significant digits else length digits + 1

-- the most significant digits of a number that is read
abbrev pub most_digits : ℕ
most_digits = 25

-- the digits before and after the point
abbrev pub digits_of : Decimal → List ℕ
digits_of d = d.whole ++ d.part

-- the exponent, 0 where none is given
abbrev pub exponent_or_zero : Option ℤ → ℤ
exponent_or_zero None = pos 0
exponent_or_zero (Some power) = power

-- z * 10^power rounded to the nearest whole number, halves upwards
abbrev pub nearest : ℤ → ℤ → ℤ
nearest z (pos power) = rnd (z *ℤ pos (10 ^ power)) (pos 1)
nearest z (negsuc power) = rnd z (pos (10 ^ (power + 1)))

-- the raw, at F fraction bits, of the number that a spelling says
unfoldable pub decimal_raw : ℕ → Decimal → ℤ
decimal_raw F d =
    sat (nearest (signed d.negative (pos (number (digits_of d) * 2 ^ F))) (exponent_or_zero d.exponent -ℤ pos (length d.part)))

-- what reading a text answers: the raw at F fraction bits of the number that the text spells with at most 25 significant digits,
-- NotANumber where it spells none, TooManyDigits where it spells one with more digits
abbrev pub Reads : ℕ → List ℕ → Result ℤ LiteralFault → Type 0
Reads F text (Ok raw) = (d : Decimal) × Spells text d × (significant (digits_of d) ≤ most_digits) × (raw ≡ decimal_raw F d)
Reads F text (Err NotANumber) = (d : Decimal) → Spells text d → ⊥
Reads F text (Err TooManyDigits) = (d : Decimal) × Spells text d × (most_digits < significant (digits_of d))
