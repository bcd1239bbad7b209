-- When bytes spell a point number or a half number.
use Rattle.std.proofs.Common.{◌≡◌, ℕ, ℤ, ◌≤◌, ◌<◌, Bool, ◌||◌, true, false, List, [], ◌∷◌, ◌++◌, arith, sym, ap, subst, ◌∙◌, inl, inr, refl, Option, Some, None, Result, Ok, Err, All, ◌⊎◌, cond}
use Rattle.std.specs.Prelude.{IsSome, MatchOption}
use Rattle.std.specs.Result.{result_ok}
use Rattle.std.specs.List.{list_any}
use Rattle.std.proofs.lemmas.Bool.{false≢true, or_left}
use Rattle.std.proofs.lemmas.Bool.Decides.{nat_tests}
use Rattle.std.proofs.lemmas.List.Folds.{list_any-append, list_any_none}
use Rattle.fix_num.specs.Decimal.{Decimal, Spells, SpellsSign, SpellsExponent, IsDigit, significant, digits_of, most_digits, Reads, SpellsOnce}
use Rattle.fix_num.specs.declared.decimal.LiteralFault.{LiteralFault}
use Rattle.fix_num.specs.declared.decimal.LiteralFault.TheVariants.{NotANumber, TooManyDigits}
use Rattle.ctl_tree.specs.TokenBytes.{IsNumberSpelling, IsPoint, without_f, but_last}
use Rattle.ctl_lexer.specs.Means.{is_mark, NoPoint, NoHalfPoint}

-- whether one of the bytes is a point, e or E
abbrev pub marked : List ℕ → Bool
marked bytes = list_any is_mark bytes

digit_no_mark : (b : ℕ) → IsDigit b → is_mark b ≡ false
digit_no_mark b h = grind (arith, nat_tests)

pub digits_no_mark : (digits : List ℕ) → All IsDigit digits → marked digits ≡ false
digits_no_mark digits h = list_any_none is_mark digits (λ k d lt. digit_no_mark _ (h k d lt))

sign_no_mark : (sign : List ℕ) (negative : Bool) → SpellsSign sign negative → marked sign ≡ false
sign_no_mark [] negative h = refl
sign_no_mark (b ∷ []) negative (inl plus) = ap (λ k. is_mark k || false) plus.0
sign_no_mark (b ∷ []) negative (inr minus) = ap (λ k. is_mark k || false) minus.0
sign_no_mark (a ∷ b ∷ bytes) negative h = absurd h

-- the bytes of a point and what follows it
abbrev behind : Bool → List ℕ → List ℕ
behind point part = cond point (46 ∷ part) []

exponent_mark : (scale : List ℕ) (exponent : Option ℤ) → SpellsExponent scale exponent → IsSome exponent → marked scale ≡ true
exponent_mark [] exponent none some = absurd (false≢true (subst IsSome none some))
exponent_mark (mark ∷ bytes) None h some = absurd h
exponent_mark (mark ∷ bytes) (Some power) h some = or_left _ (marked bytes) (elim h.0 [
  | inl e ↦ ap is_mark e
  | inr e ↦ ap is_mark e
])

mark_exponent : (scale : List ℕ) (exponent : Option ℤ) → SpellsExponent scale exponent → marked scale ≡ true → IsSome exponent
mark_exponent [] exponent none mark = absurd (false≢true mark)
mark_exponent (m ∷ bytes) None h mark = absurd h
mark_exponent (m ∷ bytes) (Some power) h mark = refl

-- a mark stands in the spelling where one stands behind the first digits
pub marked_rest : (text : List ℕ) (d : Decimal) (h : Spells text d) → marked text ≡ marked (behind d.point d.part ++ h.scale)
marked_rest text d h =
    ap marked h.joined ∙ list_any-append is_mark h.sign (d.whole ++ (behind d.point d.part ++ h.scale))
    ∙ ap (λ t. t || marked (d.whole ++ (behind d.point d.part ++ h.scale))) (sign_no_mark h.sign d.negative h.is_sign)
    ∙ list_any-append is_mark d.whole (behind d.point d.part ++ h.scale)
    ∙ ap (λ t. t || marked (behind d.point d.part ++ h.scale)) (digits_no_mark d.whole h.whole_digits)

point_or_exponent : (point : Bool) (part scale : List ℕ) (exponent : Option ℤ) → SpellsExponent scale exponent → marked (behind point part ++ scale) ≡ true → (point ≡ true) ⊎ IsSome exponent
point_or_exponent true part scale exponent h mark = inl refl
point_or_exponent false part scale exponent h mark = inr (mark_exponent scale exponent h mark)

rest_marked : (point : Bool) (part scale : List ℕ) (exponent : Option ℤ) → SpellsExponent scale exponent → (point ≡ true) ⊎ IsSome exponent → marked (behind point part ++ scale) ≡ true
rest_marked true part scale exponent h some = refl
rest_marked false part scale exponent h (inl point) = absurd (false≢true point)
rest_marked false part scale exponent h (inr some) = exponent_mark scale exponent h some

pub pointed : (text : List ℕ) (d : Decimal) → Spells text d → marked text ≡ true → (d.point ≡ true) ⊎ IsSome d.exponent
pointed text d h mark = point_or_exponent d.point d.part h.scale d.exponent h.is_scale (sym (marked_rest text d h) ∙ mark)

-- a point number has a mark
pub point_marked : (F : ℕ) (bytes : List ℕ) (raw : ℤ) → IsPoint F bytes raw → marked (without_f bytes) ≡ true
point_marked F bytes raw p = marked_rest (without_f bytes) p.decimal p.spelled ∙ rest_marked p.decimal.point p.decimal.part p.spelled.scale p.decimal.exponent p.spelled.is_scale p.pointed

-- a text with too many digits is no text with few
pub too_many : SpellsOnce → (text : List ℕ) (d e : Decimal) → Spells text d → Spells text e → significant (digits_of d) ≤ most_digits → most_digits < significant (digits_of e) → ⊥
too_many once text d e h k few many =
    let P : Decimal → Type 0 = λ d. significant (digits_of d) ≤ most_digits in
    let f = subst P (once text d e h k) few in
    omega arith

-- what reading a number spelling with a mark says
pub read_point : SpellsOnce → (F : ℕ) (bytes : List ℕ) (r : Result ℤ LiteralFault) → IsNumberSpelling bytes → marked (without_f bytes) ≡ true → Reads F (without_f bytes) r
    → MatchOption (result_ok r) (NoPoint F bytes) (λ raw. IsPoint F bytes raw)
read_point once F bytes (Ok raw) spelling mark h = record { decimal = h.0; whole = spelling; spelled = h.1; pointed = pointed (without_f bytes) h.0 h.1 mark; few = h.2; value = h.3 }
read_point once F bytes (Err NotANumber) spelling mark h = λ raw p. h p.decimal p.spelled
read_point once F bytes (Err TooManyDigits) spelling mark h = λ raw p. too_many once (without_f bytes) p.decimal h.0 p.spelled h.1 p.few h.2

-- where reading all bytes but the last fails, there is no half number
pub no_half : SpellsOnce → (F : ℕ) (bytes : List ℕ) (r : Result ℤ LiteralFault) → Reads F (but_last bytes) r → result_ok r ≡ None → NoHalfPoint F bytes
no_half once F bytes (Ok raw) h none = absurd cc
no_half once F bytes (Err NotANumber) h none = λ raw p. h p.decimal p.spelled
no_half once F bytes (Err TooManyDigits) h none = λ raw p. too_many once (but_last bytes) p.decimal h.0 p.spelled h.1 p.few h.2
