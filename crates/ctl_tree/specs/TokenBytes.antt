-- How the bytes of a token are written. F is the number of fraction bits.
-- Past the end of a list of bytes `slice_index` gives 0, which no test here passes.
use Rattle.std.specs.Prelude.{◌≡◌, ℕ, zero, suc, ℤ, ◌+◌, ◌-◌, ◌*◌, ◌^◌, ◌<◌, ◌≤◌, ◌&&◌, ◌||◌, ◌⊎◌, ◌==◌, not, Bool, true, false, List, ◌∷◌, length, take, slice_index, nat_le, fold, All, IsSome, if◌then◌else◌}
use Rattle.fix_num.specs.Decimal.{Decimal, Spells, IsDigit, number, significant, digits_of, most_digits, decimal_raw}
use Rattle.fix_num.specs.Half.{half}
use Rattle.ctl_tree.specs.declared.keyword.Keyword.{Keyword}
use Rattle.ctl_tree.specs.declared.sign.Sign.{Sign}
use Rattle.ctl_tree.specs.declared.token.TokenKind.{TokenKind}
use Rattle.ctl_tree.specs.declared.token.TokenKind.TheVariants.{Word, Name, Whole, Point, HalfPoint, Text, Sign as SignKind}
use Rattle.ctl_tree.specs.Spelling.{keyword_bytes, sign_bytes}

-- Bytes

-- a tab, a line feed, a vertical tab, a form feed, a carriage return or a space
abbrev pub is_blank : ℕ → Bool
is_blank b = (nat_le 9 b && nat_le b 13) || b == 32

-- A to Z, a to z
abbrev pub is_letter : ℕ → Bool
is_letter b = (nat_le 65 b && nat_le b 90) || (nat_le 97 b && nat_le b 122)

-- 0 to 9
abbrev pub is_digit : ℕ → Bool
is_digit b = nat_le 48 b && nat_le b 57

-- a letter or _
abbrev pub begins_name : ℕ → Bool
begins_name b = is_letter b || b == 95

-- a letter, _ or a digit
abbrev pub in_name : ℕ → Bool
in_name b = begins_name b || is_digit b

-- Names

-- a letter or _, then letters, digits and _
pub record IsName (bytes : List ℕ) : Type 0 where
  pub some : 0 < length bytes
  pub begins : begins_name (slice_index bytes 0) ≡ true
  pub goes_on : (i : ℕ) → 0 < i → i < length bytes → in_name (slice_index bytes i) ≡ true

-- the bytes are those of a keyword
abbrev pub IsKeyword : List ℕ → Type 0
IsKeyword bytes = (keyword : Keyword) × (bytes ≡ keyword_bytes keyword)

-- Signs

-- the bytes are those of a sign
abbrev pub IsSign : List ℕ → Type 0
IsSign bytes = (sign : Sign) × (bytes ≡ sign_bytes sign)

-- Texts

-- a byte is escaped where a backslash that is not itself escaped stands before it
abbrev pub is_escaped : List ℕ → ℕ → Bool
is_escaped bytes zero = false
is_escaped bytes (suc i) = slice_index bytes i == 92 && not (is_escaped bytes i)

-- a text that begins with the bytes ends with the one at this place: it is a quote and not escaped
abbrev pub ends_text : List ℕ → ℕ → Bool
ends_text bytes i = slice_index bytes i == 34 && not (is_escaped bytes i)

-- a quote, then bytes that are no line feed and do not end it, then a quote that ends it
pub record IsText (bytes : List ℕ) : Type 0 where
  pub some : 1 < length bytes
  pub begins : slice_index bytes 0 ≡ 34
  pub goes_on : (i : ℕ) → 0 < i → i + 1 < length bytes → ends_text bytes i ≡ false
  pub one_line : (i : ℕ) → i < length bytes → (slice_index bytes i == 10) ≡ false
  pub ends : ends_text bytes (length bytes - 1) ≡ true

-- Numbers

-- a digit, or a point and a digit
abbrev pub begins_number : List ℕ → Bool
begins_number bytes = is_digit (slice_index bytes 0) || (slice_index bytes 0 == 46 && is_digit (slice_index bytes 1))

-- 0x or 0X
abbrev pub begins_hexadecimal : List ℕ → Bool
begins_hexadecimal bytes = slice_index bytes 0 == 48 && (slice_index bytes 1 == 120 || slice_index bytes 1 == 88)

-- whether a number spelling goes on over a byte: over a letter, a digit, _ or a point, and over a + or - directly after
-- e or E where it is not hexadecimal
abbrev pub in_number : Bool → ℕ → ℕ → Bool
in_number hexadecimal before b = in_name b || (b == 46 || ((b == 43 || b == 45) && ((before == 101 || before == 69) && not hexadecimal)))

-- whether a number spelling goes on over its byte at a place other than the first
abbrev pub goes_on_at : List ℕ → ℕ → Bool
goes_on_at bytes i = in_number (begins_hexadecimal bytes) (slice_index bytes (i - 1)) (slice_index bytes i)

-- the bytes of a number spelling, whether or not they spell a number
pub record IsNumberSpelling (bytes : List ℕ) : Type 0 where
  pub some : 0 < length bytes
  pub begins : begins_number bytes ≡ true
  pub goes_on : (i : ℕ) → 0 < i → i < length bytes → goes_on_at bytes i ≡ true

-- a byte from 0 to 9, A to F or a to f
abbrev pub IsHexadecimalDigit : ℕ → Type 0
IsHexadecimalDigit b = IsDigit b ⊎ (((65 ≤ b) × (b ≤ 70)) ⊎ ((97 ≤ b) × (b ≤ 102)))

-- what a hexadecimal digit counts
abbrev pub hexadecimal_digit : ℕ → ℕ
hexadecimal_digit b = if nat_le b 57 then b - 48 else (if nat_le b 70 then b - 55 else b - 87)

-- the number that hexadecimal digits spell
abbrev pub hexadecimal_number : List ℕ → ℕ
hexadecimal_number digits = fold (λ n b. 16 * n + hexadecimal_digit b) 0 digits

-- digits that spell a number below 2^32
pub record IsDigits (bytes : List ℕ) (n : ℕ) : Type 0 where
  pub some : 0 < length bytes
  pub digits : All IsDigit bytes
  pub value : n ≡ number bytes
  pub fits : n < 2 ^ 32

-- 0x or 0X and one to eight hexadecimal digits, which spell a number below 2^32
pub record IsHexadecimal (bytes : List ℕ) (n : ℕ) : Type 0 where
  pub mark : ℕ
  pub digits : List ℕ
  pub joined : bytes ≡ 48 ∷ mark ∷ digits
  pub is_mark : (mark ≡ 120) ⊎ (mark ≡ 88)
  pub are_digits : All IsHexadecimalDigit digits
  pub some : 0 < length digits
  pub few : length digits ≤ 8
  pub value : n ≡ hexadecimal_number digits
  pub fits : n < 2 ^ 32

-- the bytes spell a whole number
abbrev pub IsWhole : List ℕ → ℕ → Type 0
IsWhole bytes n = IsDigits bytes n ⊎ IsHexadecimal bytes n

-- the last byte
abbrev pub last_byte : List ℕ → ℕ
last_byte bytes = slice_index bytes (length bytes - 1)

-- all bytes but the last
abbrev pub but_last : List ℕ → List ℕ
but_last bytes = take (length bytes - 1) bytes

-- the last byte is one of two
abbrev pub ends_with : ℕ → ℕ → List ℕ → Bool
ends_with lower upper bytes = last_byte bytes == lower || last_byte bytes == upper

-- the bytes without an f or F at their end
abbrev pub without_f : List ℕ → List ℕ
without_f bytes = if ends_with 102 70 bytes then but_last bytes else bytes

-- the bytes spell a point number with this raw: a decimal number with a point or an exponent and at most 25 significant
-- digits, and nothing or f or F after it.
-- It has no sign, since a number spelling begins with a digit or a point
pub record IsPoint (F : ℕ) (bytes : List ℕ) (raw : ℤ) : Type 0 where
  pub decimal : Decimal
  pub whole : IsNumberSpelling bytes
  pub spelled : Spells (without_f bytes) decimal
  pub pointed : (decimal.point ≡ true) ⊎ IsSome decimal.exponent
  pub few : significant (digits_of decimal) ≤ most_digits
  pub value : raw ≡ decimal_raw F decimal

-- the bytes spell a half number with this raw: a decimal number of at most 25 significant digits, and h or H after it.
-- Its value is the half nearest to the decimal's float
pub record IsHalfPoint (F : ℕ) (bytes : List ℕ) (raw : ℤ) : Type 0 where
  pub decimal : Decimal
  pub whole : IsNumberSpelling bytes
  pub suffixed : ends_with 104 72 bytes ≡ true
  pub spelled : Spells (but_last bytes) decimal
  pub few : significant (digits_of decimal) ≤ most_digits
  pub value : raw ≡ half F (decimal_raw F decimal)

-- Tokens

-- the bytes spell a token of the kind
abbrev pub SpellsKind : ℕ → TokenKind → List ℕ → Type 0
SpellsKind F (Word keyword) bytes = bytes ≡ keyword_bytes keyword
SpellsKind F Name bytes = IsName bytes × (IsKeyword bytes → ⊥)
SpellsKind F (Whole n) bytes = IsWhole bytes n
SpellsKind F (Point raw) bytes = IsPoint F bytes raw
SpellsKind F (HalfPoint raw) bytes = IsHalfPoint F bytes raw
SpellsKind F Text bytes = IsText bytes
SpellsKind F (SignKind sign) bytes = bytes ≡ sign_bytes sign

-- the bytes of a token before its kind is looked at: a name or keyword, a number spelling, a sign or a text
abbrev pub IsTokenBytes : List ℕ → Type 0
IsTokenBytes bytes = IsName bytes ⊎ (IsNumberSpelling bytes ⊎ (IsSign bytes ⊎ IsText bytes))
