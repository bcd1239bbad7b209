-- Which kind of token bytes spell is decided: keywords, signs and numbers.
use Rattle.std.proofs.Common.{◌≡◌, ℕ, ℤ, ◌+◌, ◌^◌, ◌<◌, ◌≤◌, ◌⊎◌, inl, inr, Bool, true, false, ◌&&◌, ◌||◌, eqb, List, [], ◌∷◌, length, drop, All, refl, ap, sym, subst, ◌∙◌, arith}
use Rattle.std.specs.Prelude.{nat_le, slice_index}
use Rattle.std.specs.Str.{bytes_eq}
use Rattle.std.proofs.lemmas.Bool.{cases_Bool, cases_lt, false≢true, and_parts, and_from, eqb-true}
use Rattle.std.proofs.lemmas.Bool.Decides.{nat_tests}
use Rattle.std.proofs.lemmas.Slice.Eq.{bytes_eq-Decides}
use Rattle.std.proofs.lemmas.List.Elements.{All-nil, All-cons, All-head, All-tail}
use Rattle.fix_num.specs.Decimal.{Decimal, Spells, number, significant, digits_of, most_digits, decimal_raw, SpellsOnce}
use Rattle.fix_num.specs.Half.{half}
use Rattle.ctl_tree.specs.declared.sign.Sign.{Sign}
use Rattle.ctl_tree.specs.declared.token.TokenKind.{TokenKind}
use Rattle.ctl_tree.specs.declared.token.TokenKind.TheVariants.{Word, Name, Whole, Point, HalfPoint}
use Rattle.ctl_tree.specs.Spelling.{keyword_bytes, sign_bytes}
use Rattle.ctl_tree.specs.TokenBytes.{is_digit, IsHexadecimalDigit, hexadecimal_number, IsName, IsKeyword, IsNumberSpelling, IsDigits, IsHexadecimal, IsWhole, IsPoint, IsHalfPoint, but_last, without_f, ends_with, SpellsKind}
use Rattle.ctl_lexer.specs.Means.{NoKeyword, NoSign, NoWhole, NoPoint, NoHalfPoint, NoNumber}
use Rattle.ctl_lexer.proofs.OneList.{keyword_named, keyword_back, sign_named, sign_back}
use Rattle.ctl_lexer.proofs.Points.{marked, pointed, point_marked, too_many}
use Rattle.ctl_lexer.proofs.Decimals.{are_digits, digits_yes, digits_are, decimal_or_none}

-- keywords and signs

-- the bytes are those of this keyword where any keyword has them
keyword_there : (bytes : List ℕ) → IsKeyword bytes ⊎ NoKeyword bytes
keyword_there bytes = elim (cases_Bool (bytes_eq bytes (keyword_bytes (keyword_named bytes)))) [
  | inl passes ↦ inl (keyword_named bytes, (bytes_eq-Decides bytes (keyword_bytes (keyword_named bytes))).0 passes)
  | inr fails ↦ inr (λ h.
      let same : bytes ≡ keyword_bytes (keyword_named bytes) = h.1 ∙ ap keyword_bytes (sym (keyword_back h.0)) ∙ ap (λ w. keyword_bytes (keyword_named w)) (sym h.1) in
      false≢true (sym fails ∙ (bytes_eq-Decides bytes (keyword_bytes (keyword_named bytes))).1 same))
]

pub sign_there : (bytes : List ℕ) → ((sign : Sign) × (bytes ≡ sign_bytes sign)) ⊎ NoSign bytes
sign_there bytes = elim (cases_Bool (bytes_eq bytes (sign_bytes (sign_named bytes)))) [
  | inl passes ↦ inl (sign_named bytes, (bytes_eq-Decides bytes (sign_bytes (sign_named bytes))).0 passes)
  | inr fails ↦ inr (λ sign h.
      let same : bytes ≡ sign_bytes (sign_named bytes) = h ∙ ap sign_bytes (sym (sign_back sign)) ∙ ap (λ w. sign_bytes (sign_named w)) (sym h) in
      false≢true (sym fails ∙ (bytes_eq-Decides bytes (sign_bytes (sign_named bytes))).1 same))
]

-- a name spells a name or a keyword
pub word_there : (F : ℕ) (bytes : List ℕ) → IsName bytes → (kind : TokenKind) × SpellsKind F kind bytes
word_there F bytes name = elim (keyword_there bytes) [
  | inl keyword ↦ (Word keyword.0, keyword.1)
  | inr none ↦ (Name, (name, none))
]

-- whole numbers

digits_or_none : (bytes : List ℕ) → ((n : ℕ) × IsDigits bytes n) ⊎ ((n : ℕ) → IsDigits bytes n → ⊥)
digits_or_none bytes = elim (cases_Bool (are_digits bytes)) [
  | inr fails ↦ inr (λ n h. false≢true (sym fails ∙ digits_yes bytes h.digits))
  | inl passes ↦ elim (cases_lt 0 (length bytes)) [
    | inr none ↦ inr (λ n h. let some = h.some in omega arith)
    | inl some ↦ elim (cases_lt (number bytes) (2 ^ 32)) [
      | inl fits ↦ inl (number bytes, record { some = some; digits = digits_are bytes passes; value = refl; fits = fits })
      | inr large ↦ inr (λ n h. let fits = h.fits in let value = h.value in omega arith)
    ]
  ]
]

is_hexadecimal_digit : ℕ → Bool
is_hexadecimal_digit b = is_digit b || ((nat_le 65 b && nat_le b 70) || (nat_le 97 b && nat_le b 102))

hexadecimal_yes : (b : ℕ) → IsHexadecimalDigit b → is_hexadecimal_digit b ≡ true
unfolding is_hexadecimal_digit
hexadecimal_yes b (inl digit) = let low = digit.0 in let high = digit.1 in grind (arith, nat_tests)
hexadecimal_yes b (inr (inl upper)) = let low = upper.0 in let high = upper.1 in grind (arith, nat_tests)
hexadecimal_yes b (inr (inr lower)) = let low = lower.0 in let high = lower.1 in grind (arith, nat_tests)

hexadecimal_is : (b : ℕ) → is_hexadecimal_digit b ≡ true → IsHexadecimalDigit b
unfolding is_hexadecimal_digit
hexadecimal_is b h = elim (cases_Bool (is_digit b)) [
  | inl digit ↦ inl (grind (arith, nat_tests), grind (arith, nat_tests))
  | inr no_digit ↦ elim (cases_Bool (nat_le 65 b && nat_le b 70)) [
    | inl upper ↦ let both = and_parts (nat_le 65 b) (nat_le b 70) upper in let low = both.0 in let high = both.1 in inr (inl (grind (arith, nat_tests), grind (arith, nat_tests)))
    | inr no_upper ↦
        let lower : (nat_le 97 b && nat_le b 102) ≡ true = rw (no_digit, no_upper) at h in
        let both = and_parts (nat_le 97 b) (nat_le b 102) lower in let low = both.0 in let high = both.1 in inr (inr (grind (arith, nat_tests), grind (arith, nat_tests)))
  ]
]

are_hexadecimal : List ℕ → Bool
are_hexadecimal [] = true
are_hexadecimal (b ∷ bytes) = is_hexadecimal_digit b && are_hexadecimal bytes

all_hexadecimal : (bytes : List ℕ) → All IsHexadecimalDigit bytes → are_hexadecimal bytes ≡ true
unfolding are_hexadecimal
all_hexadecimal [] h = refl
all_hexadecimal (b ∷ bytes) h = and_from _ _ (hexadecimal_yes b (All-head IsHexadecimalDigit b bytes h)) (all_hexadecimal bytes (All-tail IsHexadecimalDigit b bytes h))

hexadecimal_all : (bytes : List ℕ) → are_hexadecimal bytes ≡ true → All IsHexadecimalDigit bytes
unfolding are_hexadecimal
hexadecimal_all [] h = All-nil IsHexadecimalDigit
hexadecimal_all (b ∷ bytes) h = let both = and_parts _ _ h in All-cons IsHexadecimalDigit b bytes (hexadecimal_is b both.0) (hexadecimal_all bytes both.1)

marked_or_none : (mark : ℕ) (digits : List ℕ) → (mark ≡ 120) ⊎ (mark ≡ 88) → ((n : ℕ) × IsHexadecimal (48 ∷ mark ∷ digits) n) ⊎ ((n : ℕ) → IsHexadecimal (48 ∷ mark ∷ digits) n → ⊥)
marked_or_none mark digits is_mark = elim (cases_Bool (are_hexadecimal digits)) [
  | inr fails ↦ inr (λ n h. let same : digits ≡ h.digits = ap (drop 2) h.joined in false≢true (sym fails ∙ ap are_hexadecimal same ∙ all_hexadecimal h.digits h.are_digits))
  | inl passes ↦ elim (cases_lt 0 (length digits)) [
    | inr none ↦ inr (λ n h. let same : length digits ≡ length h.digits = ap (λ w. length (drop 2 w)) h.joined in let some = h.some in omega arith)
    | inl some ↦ elim (cases_lt 8 (length digits)) [
      | inl many ↦ inr (λ n h. let same : length digits ≡ length h.digits = ap (λ w. length (drop 2 w)) h.joined in let few = h.few in omega arith)
      | inr few ↦ elim (cases_lt (hexadecimal_number digits) (2 ^ 32)) [
        | inl fits ↦ inl (hexadecimal_number digits, record { mark = mark; digits = digits; joined = refl; is_mark = is_mark; are_digits = hexadecimal_all digits passes; some = some; few = few; value = refl; fits = fits })
        | inr large ↦ inr (λ n h.
            let same : hexadecimal_number digits ≡ hexadecimal_number h.digits = ap (λ w. hexadecimal_number (drop 2 w)) h.joined in
            let fits = h.fits in let value = h.value in omega arith)
      ]
    ]
  ]
]

mark_of : (b c : ℕ) (bytes : List ℕ) (n : ℕ) → IsHexadecimal (b ∷ c ∷ bytes) n → (b ≡ 48) × ((c ≡ 120) ⊎ (c ≡ 88))
mark_of b c bytes n h =
    let e : c ≡ h.mark = ap (λ w. slice_index w 1) h.joined in
    let P : ℕ → Type 0 = λ k. (k ≡ 120) ⊎ (k ≡ 88) in
    (ap (λ w. slice_index w 0) h.joined, subst P (sym e) h.is_mark)

two_bytes : (bytes : List ℕ) (n : ℕ) → IsHexadecimal bytes n → 1 < length bytes
two_bytes bytes n h = let e : length bytes ≡ length h.digits + 2 = ap length h.joined ∙ (omega arith) in omega arith

hexadecimal_or_none : (bytes : List ℕ) → ((n : ℕ) × IsHexadecimal bytes n) ⊎ ((n : ℕ) → IsHexadecimal bytes n → ⊥)
hexadecimal_or_none [] = inr (λ n h. let two = two_bytes [] n h in omega arith)
hexadecimal_or_none (b ∷ []) = inr (λ n h. let two = two_bytes (b ∷ []) n h in omega arith)
hexadecimal_or_none (b ∷ c ∷ bytes) = elim (cases_Bool (eqb b 48)) [
  | inr fails ↦ inr (λ n h. false≢true (sym fails ∙ ap (λ k. eqb k 48) (mark_of b c bytes n h).0))
  | inl zero ↦
      let e : b ≡ 48 = eqb-true b 48 zero in
      let P : ℕ → Type 0 = λ k. ((n : ℕ) × IsHexadecimal (k ∷ c ∷ bytes) n) ⊎ ((n : ℕ) → IsHexadecimal (k ∷ c ∷ bytes) n → ⊥) in
      subst P (sym e) (elim (cases_Bool (eqb c 120)) [
        | inl low ↦ marked_or_none c bytes (inl (eqb-true c 120 low))
        | inr no_low ↦ elim (cases_Bool (eqb c 88)) [
          | inl high ↦ marked_or_none c bytes (inr (eqb-true c 88 high))
          | inr no_high ↦ inr (λ n h. no_mark c no_low no_high (mark_of 48 c bytes n h).1)
        ]
      ])
]
  where
    no_mark : (c : ℕ) → eqb c 120 ≡ false → eqb c 88 ≡ false → (c ≡ 120) ⊎ (c ≡ 88) → ⊥
    no_mark c no_low no_high (inl e) = false≢true (sym no_low ∙ ap (λ k. eqb k 120) e)
    no_mark c no_low no_high (inr e) = false≢true (sym no_high ∙ ap (λ k. eqb k 88) e)

no_whole : (bytes : List ℕ) → ((n : ℕ) → IsDigits bytes n → ⊥) → ((n : ℕ) → IsHexadecimal bytes n → ⊥) → NoWhole bytes
no_whole bytes no_digits no_hexadecimal n (inl digits) = no_digits n digits
no_whole bytes no_digits no_hexadecimal n (inr hexadecimal) = no_hexadecimal n hexadecimal

whole_or_none : (bytes : List ℕ) → ((n : ℕ) × IsWhole bytes n) ⊎ NoWhole bytes
whole_or_none bytes = elim (digits_or_none bytes) [
  | inl digits ↦ inl (digits.0, inl digits.1)
  | inr no_digits ↦ elim (hexadecimal_or_none bytes) [
    | inl hexadecimal ↦ inl (hexadecimal.0, inr hexadecimal.1)
    | inr no_hexadecimal ↦ inr (no_whole bytes no_digits no_hexadecimal)
  ]
]

-- numbers with a point and halves

-- a decimal number of few digits is spelt, or none is
record Few (bytes : List ℕ) : Type 0 where
  pub decimal : Decimal
  pub spelled : Spells bytes decimal
  pub few : significant (digits_of decimal) ≤ most_digits

few_or_none : SpellsOnce → (bytes : List ℕ) → Few bytes ⊎ ((d : Decimal) → Spells bytes d → significant (digits_of d) ≤ most_digits → ⊥)
few_or_none once bytes = elim (decimal_or_none bytes) [
  | inr none ↦ inr (λ d h few. none d h)
  | inl spelt ↦ elim (cases_lt most_digits (significant (digits_of spelt.0))) [
    | inl many ↦ inr (λ d h few. too_many once bytes d spelt.0 h spelt.1 few many)
    | inr few ↦ inl (record { decimal = spelt.0; spelled = spelt.1; few = few })
  ]
]

point_or_none : SpellsOnce → (F : ℕ) (bytes : List ℕ) → IsNumberSpelling bytes → ((raw : ℤ) × IsPoint F bytes raw) ⊎ NoPoint F bytes
point_or_none once F bytes spelling = elim (cases_Bool (marked (without_f bytes))) [
  | inr fails ↦ inr (λ raw h. false≢true (sym fails ∙ point_marked F bytes raw h))
  | inl mark ↦ elim (few_or_none once (without_f bytes)) [
    | inr none ↦ inr (λ raw h. none h.decimal h.spelled h.few)
    | inl found ↦ inl (decimal_raw F found.decimal, record { decimal = found.decimal; whole = spelling; spelled = found.spelled; pointed = pointed (without_f bytes) found.decimal found.spelled mark; few = found.few; value = refl })
  ]
]

half_or_none : SpellsOnce → (F : ℕ) (bytes : List ℕ) → IsNumberSpelling bytes → ((raw : ℤ) × IsHalfPoint F bytes raw) ⊎ NoHalfPoint F bytes
half_or_none once F bytes spelling = elim (cases_Bool (ends_with 104 72 bytes)) [
  | inr fails ↦ inr (λ raw h. false≢true (sym fails ∙ h.suffixed))
  | inl suffixed ↦ elim (few_or_none once (but_last bytes)) [
    | inr none ↦ inr (λ raw h. none h.decimal h.spelled h.few)
    | inl found ↦ inl (half F (decimal_raw F found.decimal), record { decimal = found.decimal; whole = spelling; suffixed = suffixed; spelled = found.spelled; few = found.few; value = refl })
  ]
]

-- a number spelling spells a number or none
pub number_there : SpellsOnce → (F : ℕ) (bytes : List ℕ) → IsNumberSpelling bytes → ((kind : TokenKind) × SpellsKind F kind bytes) ⊎ NoNumber F bytes
number_there once F bytes spelling = elim (whole_or_none bytes) [
  | inl whole ↦ inl (Whole whole.0, whole.1)
  | inr no_whole ↦ elim (point_or_none once F bytes spelling) [
    | inl point ↦ inl (Point point.0, point.1)
    | inr no_point ↦ elim (half_or_none once F bytes spelling) [
      | inl halved ↦ inl (HalfPoint halved.0, halved.1)
      | inr no_half ↦ inr (record { no_whole = no_whole; no_point = no_point; no_half = no_half })
    ]
  ]
]
