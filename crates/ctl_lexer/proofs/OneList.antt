-- Bytes spell at most one token, and a text has at most one list.
use Rattle.std.proofs.Common.{◌≡◌, ℕ, suc, ℤ, ◌+◌, ◌-◌, ◌<◌, Bool, true, false, ◌||◌, List, [], ◌∷◌, ◌++◌, length, take, drop, slice_index, eqb, arith, sym, ap, subst, ◌∙◌, inl, inr, refl, cond, Option, Some, None, All, ◌⊎◌}
use Rattle.std.specs.List.{list_any}
use Rattle.std.specs.Str.{bytes_eq}
use Rattle.std.proofs.lemmas.Bool.{cases_Bool, false≢true, and_parts, or_from, not-true, or_right}
use Rattle.std.proofs.lemmas.Bool.Decides.{nat_tests}
use Rattle.std.proofs.lemmas.List.{get_or-take, length-take-le}
use Rattle.std.proofs.lemmas.List.Folds.{list_any-append, list_any_none, list_any_at}
use Rattle.fix_num.specs.Decimal.{Decimal, Spells, SpellsSign, SpellsPower, SpellsExponent, IsDigit, number, decimal_raw, SpellsOnce}
use Rattle.fix_num.specs.Half.{half}
use Rattle.ctl_tree.specs.declared.keyword.Keyword.{Keyword}
use Rattle.ctl_tree.specs.declared.keyword.Keyword.TheVariants.{Bool as BoolWord, Const as ConstWord, Ctlversion as CtlversionWord, Else as ElseWord, False as FalseWord, Float as FloatWord, For as ForWord, Half as HalfWord, If as IfWord, Import as ImportWord, Input as InputWord, Int as IntWord, Namespace as NamespaceWord, Output as OutputWord, Print as PrintWord, Return as ReturnWord, String as StringWord, Struct as StructWord, True as TrueWord, Uniform as UniformWord, Unsigned as UnsignedWord, Varying as VaryingWord, Void as VoidWord, While as WhileWord}
use Rattle.ctl_tree.specs.declared.sign.Sign.{Sign}
use Rattle.ctl_tree.specs.declared.sign.Sign.TheVariants.{Plus, Minus, Star, Slash, Percent, Ampersand, Bar, Caret, Tilde, ShiftLeft, ShiftRight, AndAnd, OrOr, Exclamation, EqualTo, NotEqualTo, LessThan, AtMost, GreaterThan, AtLeast, Assign, OpenRound, CloseRound, OpenSquare, CloseSquare, OpenCurly, CloseCurly, Comma, Semicolon, Dot, ColonColon}
use Rattle.ctl_tree.specs.declared.token.Token.{Token}
use Rattle.ctl_tree.specs.declared.token.TokenKind.{TokenKind}
use Rattle.ctl_tree.specs.declared.token.TokenKind.TheVariants.{Word, Name, Whole, Point, HalfPoint, Text, Sign as SignKind}
use Rattle.ctl_tree.specs.Spelling.{keyword_bytes, sign_bytes}
use Rattle.ctl_tree.specs.TokenBytes.{begins_name, begins_number, IsHexadecimalDigit, hexadecimal_number, IsDigits, IsHexadecimal, IsWhole, IsPoint, IsHalfPoint, last_byte, but_last, ends_with, without_f, SpellsKind}
use Rattle.ctl_tree.specs.Tokens.{IsToken, StandsIn, CoversFrom}
use Rattle.ctl_lexer.specs.Laws.{OneList}
use Rattle.ctl_tree.specs.Lines.{line_at}
use Rattle.ctl_lexer.proofs.Longest.{signlike, sign_is}
use Rattle.ctl_lexer.proofs.Exits.{keyword_first, name_no_number, sign_no_number}
use Rattle.ctl_lexer.proofs.Points.{marked, digits_no_mark, point_marked}
use Rattle.ctl_lexer.proofs.Spaces.{end_blocked, same_place}
use Rattle.ctl_lexer.proofs.Cover.{token_blocked, token_some, same_len}

-- the keyword with these bytes
pub keyword_named : List ℕ → Keyword
keyword_named w = cond (bytes_eq w (keyword_bytes BoolWord)) BoolWord (
    cond (bytes_eq w (keyword_bytes ConstWord)) ConstWord (
    cond (bytes_eq w (keyword_bytes CtlversionWord)) CtlversionWord (
    cond (bytes_eq w (keyword_bytes ElseWord)) ElseWord (
    cond (bytes_eq w (keyword_bytes FalseWord)) FalseWord (
    cond (bytes_eq w (keyword_bytes FloatWord)) FloatWord (
    cond (bytes_eq w (keyword_bytes ForWord)) ForWord (
    cond (bytes_eq w (keyword_bytes HalfWord)) HalfWord (
    cond (bytes_eq w (keyword_bytes IfWord)) IfWord (
    cond (bytes_eq w (keyword_bytes ImportWord)) ImportWord (
    cond (bytes_eq w (keyword_bytes InputWord)) InputWord (
    cond (bytes_eq w (keyword_bytes IntWord)) IntWord (
    cond (bytes_eq w (keyword_bytes NamespaceWord)) NamespaceWord (
    cond (bytes_eq w (keyword_bytes OutputWord)) OutputWord (
    cond (bytes_eq w (keyword_bytes PrintWord)) PrintWord (
    cond (bytes_eq w (keyword_bytes ReturnWord)) ReturnWord (
    cond (bytes_eq w (keyword_bytes StringWord)) StringWord (
    cond (bytes_eq w (keyword_bytes StructWord)) StructWord (
    cond (bytes_eq w (keyword_bytes TrueWord)) TrueWord (
    cond (bytes_eq w (keyword_bytes UniformWord)) UniformWord (
    cond (bytes_eq w (keyword_bytes UnsignedWord)) UnsignedWord (
    cond (bytes_eq w (keyword_bytes VaryingWord)) VaryingWord (
    cond (bytes_eq w (keyword_bytes VoidWord)) VoidWord (
    WhileWord)))))))))))))))))))))))

pub keyword_back : (keyword : Keyword) → keyword_named (keyword_bytes keyword) ≡ keyword
unfolding keyword_named
keyword_back BoolWord = refl
keyword_back ConstWord = refl
keyword_back CtlversionWord = refl
keyword_back ElseWord = refl
keyword_back FalseWord = refl
keyword_back FloatWord = refl
keyword_back ForWord = refl
keyword_back HalfWord = refl
keyword_back IfWord = refl
keyword_back ImportWord = refl
keyword_back InputWord = refl
keyword_back IntWord = refl
keyword_back NamespaceWord = refl
keyword_back OutputWord = refl
keyword_back PrintWord = refl
keyword_back ReturnWord = refl
keyword_back StringWord = refl
keyword_back StructWord = refl
keyword_back TrueWord = refl
keyword_back UniformWord = refl
keyword_back UnsignedWord = refl
keyword_back VaryingWord = refl
keyword_back VoidWord = refl
keyword_back WhileWord = refl

-- the sign with these bytes
pub sign_named : List ℕ → Sign
sign_named w = cond (bytes_eq w (sign_bytes Plus)) Plus (
    cond (bytes_eq w (sign_bytes Minus)) Minus (
    cond (bytes_eq w (sign_bytes Star)) Star (
    cond (bytes_eq w (sign_bytes Slash)) Slash (
    cond (bytes_eq w (sign_bytes Percent)) Percent (
    cond (bytes_eq w (sign_bytes Ampersand)) Ampersand (
    cond (bytes_eq w (sign_bytes Bar)) Bar (
    cond (bytes_eq w (sign_bytes Caret)) Caret (
    cond (bytes_eq w (sign_bytes Tilde)) Tilde (
    cond (bytes_eq w (sign_bytes ShiftLeft)) ShiftLeft (
    cond (bytes_eq w (sign_bytes ShiftRight)) ShiftRight (
    cond (bytes_eq w (sign_bytes AndAnd)) AndAnd (
    cond (bytes_eq w (sign_bytes OrOr)) OrOr (
    cond (bytes_eq w (sign_bytes Exclamation)) Exclamation (
    cond (bytes_eq w (sign_bytes EqualTo)) EqualTo (
    cond (bytes_eq w (sign_bytes NotEqualTo)) NotEqualTo (
    cond (bytes_eq w (sign_bytes LessThan)) LessThan (
    cond (bytes_eq w (sign_bytes AtMost)) AtMost (
    cond (bytes_eq w (sign_bytes GreaterThan)) GreaterThan (
    cond (bytes_eq w (sign_bytes AtLeast)) AtLeast (
    cond (bytes_eq w (sign_bytes Assign)) Assign (
    cond (bytes_eq w (sign_bytes OpenRound)) OpenRound (
    cond (bytes_eq w (sign_bytes CloseRound)) CloseRound (
    cond (bytes_eq w (sign_bytes OpenSquare)) OpenSquare (
    cond (bytes_eq w (sign_bytes CloseSquare)) CloseSquare (
    cond (bytes_eq w (sign_bytes OpenCurly)) OpenCurly (
    cond (bytes_eq w (sign_bytes CloseCurly)) CloseCurly (
    cond (bytes_eq w (sign_bytes Comma)) Comma (
    cond (bytes_eq w (sign_bytes Semicolon)) Semicolon (
    cond (bytes_eq w (sign_bytes Dot)) Dot (
    ColonColon))))))))))))))))))))))))))))))

pub sign_back : (sign : Sign) → sign_named (sign_bytes sign) ≡ sign
unfolding sign_named
sign_back Plus = refl
sign_back Minus = refl
sign_back Star = refl
sign_back Slash = refl
sign_back Percent = refl
sign_back Ampersand = refl
sign_back Bar = refl
sign_back Caret = refl
sign_back Tilde = refl
sign_back ShiftLeft = refl
sign_back ShiftRight = refl
sign_back AndAnd = refl
sign_back OrOr = refl
sign_back Exclamation = refl
sign_back EqualTo = refl
sign_back NotEqualTo = refl
sign_back LessThan = refl
sign_back AtMost = refl
sign_back GreaterThan = refl
sign_back AtLeast = refl
sign_back Assign = refl
sign_back OpenRound = refl
sign_back CloseRound = refl
sign_back OpenSquare = refl
sign_back CloseSquare = refl
sign_back OpenCurly = refl
sign_back CloseCurly = refl
sign_back Comma = refl
sign_back Semicolon = refl
sign_back Dot = refl
sign_back ColonColon = refl

-- x, X, h or H, which stand in no decimal number
abbrev foreign : ℕ → Bool
foreign b = (eqb b 120 || eqb b 88) || (eqb b 104 || eqb b 72)

digits_plain : (digits : List ℕ) → All IsDigit digits → list_any foreign digits ≡ false
digits_plain digits h = list_any_none foreign digits (λ k d lt. let l = h k d lt in grind (arith, nat_tests))

sign_plain : (sign : List ℕ) (negative : Bool) → SpellsSign sign negative → list_any foreign sign ≡ false
sign_plain [] negative h = refl
sign_plain (b ∷ []) negative (inl plus) = ap (λ k. foreign k || false) plus.0
sign_plain (b ∷ []) negative (inr minus) = ap (λ k. foreign k || false) minus.0
sign_plain (a ∷ b ∷ bytes) negative h = absurd h

power_plain : (bytes : List ℕ) (power : ℤ) → SpellsPower bytes power → list_any foreign bytes ≡ false
power_plain bytes power h = ap (list_any foreign) h.joined ∙ list_any-append foreign h.sign h.digits ∙ or_from _ _ (sign_plain h.sign h.negative h.is_sign) (digits_plain h.digits h.are_digits)

mark_plain : (mark : ℕ) → (mark ≡ 101) ⊎ (mark ≡ 69) → foreign mark ≡ false
mark_plain mark (inl e) = ap foreign e
mark_plain mark (inr e) = ap foreign e

scale_plain : (scale : List ℕ) (exponent : Option ℤ) → SpellsExponent scale exponent → list_any foreign scale ≡ false
scale_plain [] exponent h = refl
scale_plain (mark ∷ bytes) None h = absurd h
scale_plain (mark ∷ bytes) (Some power) h = or_from _ _ (mark_plain mark h.0) (power_plain bytes power h.1)

part_plain : (point : Bool) (part : List ℕ) → All IsDigit part → list_any foreign (cond point (46 ∷ part) []) ≡ false
part_plain true part h = digits_plain part h
part_plain false part h = refl

spelt_plain : (text : List ℕ) (d : Decimal) → Spells text d → list_any foreign text ≡ false
spelt_plain text d h =
    ap (list_any foreign) h.joined ∙ list_any-append foreign h.sign (d.whole ++ (cond d.point (46 ∷ d.part) [] ++ h.scale))
    ∙ or_from _ _ (sign_plain h.sign d.negative h.is_sign)
    (list_any-append foreign d.whole (cond d.point (46 ∷ d.part) [] ++ h.scale)
    ∙ or_from _ _ (digits_plain d.whole h.whole_digits)
    (list_any-append foreign (cond d.point (46 ∷ d.part) []) h.scale ∙ or_from _ _ (part_plain d.point d.part h.part_digits) (scale_plain h.scale d.exponent h.is_scale)))

-- no foreign byte stands in a decimal number
no_foreign : (text : List ℕ) (d : Decimal) (i : ℕ) → Spells text d → i < length text → foreign (slice_index text i) ≡ true → ⊥
no_foreign text d i h lt f = false≢true (sym (spelt_plain text d h) ∙ list_any_at foreign text i 0 lt f)

-- whole numbers

same_hexadecimal : (w : List ℕ) (n m : ℕ) → IsHexadecimal w n → IsHexadecimal w m → n ≡ m
same_hexadecimal w n m h k =
    let e : h.digits ≡ k.digits = ap (drop 2) (sym h.joined ∙ k.joined) in
    h.value ∙ ap hexadecimal_number e ∙ sym k.value

mark_at : (w : List ℕ) (n : ℕ) (h : IsHexadecimal w n) → slice_index w 1 ≡ h.mark
mark_at w n h = ap (λ v. slice_index v 1) h.joined

hexadecimal_long : (w : List ℕ) (n : ℕ) → IsHexadecimal w n → 2 < length w
hexadecimal_long w n h = let some = h.some in let e : length w ≡ length (48 ∷ h.mark ∷ h.digits) = ap length h.joined in omega arith

digits_no_hexadecimal : (w : List ℕ) (n m : ℕ) → IsDigits w n → IsHexadecimal w m → ⊥
digits_no_hexadecimal w n m h k =
    let l = h.digits 1 0 (let long = hexadecimal_long w m k in omega arith) in
    let e = mark_at w m k in
    elim k.is_mark [
      | inl x ↦ omega arith
      | inr x ↦ omega arith
    ]

same_whole : (w : List ℕ) (n m : ℕ) → IsWhole w n → IsWhole w m → n ≡ m
same_whole w n m (inl a) (inl b) = a.value ∙ sym b.value
same_whole w n m (inl a) (inr b) = absurd (digits_no_hexadecimal w n m a b)
same_whole w n m (inr a) (inl b) = absurd (digits_no_hexadecimal w m n b a)
same_whole w n m (inr a) (inr b) = same_hexadecimal w n m a b

-- a whole number ends in a digit
hexadecimal_last : (w : List ℕ) (n : ℕ) → IsHexadecimal w n → IsHexadecimalDigit (last_byte w)
hexadecimal_last w n h =
    let some = h.some in
    let P : List ℕ → Type 0 = λ v. IsHexadecimalDigit (slice_index v (length v - 1)) in
    let Q : ℕ → Type 0 = λ k. IsHexadecimalDigit (slice_index (48 ∷ h.mark ∷ h.digits) k) in
    let e : suc (suc (length h.digits - 1)) ≡ length (48 ∷ h.mark ∷ h.digits) - 1 = omega arith in
    subst P (sym h.joined) (subst Q e (h.are_digits (length h.digits - 1) 0 (omega arith)))

hexadecimal_no_half : (b : ℕ) → IsHexadecimalDigit b → (eqb b 104 || eqb b 72) ≡ false
hexadecimal_no_half b (inl d) = grind (arith, nat_tests)
hexadecimal_no_half b (inr (inl d)) = grind (arith, nat_tests)
hexadecimal_no_half b (inr (inr d)) = grind (arith, nat_tests)

whole_half : (F : ℕ) (w : List ℕ) (n : ℕ) (raw : ℤ) → IsWhole w n → IsHalfPoint F w raw → ⊥
whole_half F w n raw (inl a) p =
    let some = a.some in
    let l = a.digits (length w - 1) 0 (omega arith) in
    false≢true (sym (hexadecimal_no_half (last_byte w) (inl l)) ∙ p.suffixed)
whole_half F w n raw (inr a) p = false≢true (sym (hexadecimal_no_half (last_byte w) (hexadecimal_last w n a)) ∙ p.suffixed)

digit_no_f : (b : ℕ) → IsDigit b → (eqb b 102 || eqb b 70) ≡ false
digit_no_f b h = grind (arith, nat_tests)

without_none : (w : List ℕ) → ends_with 102 70 w ≡ false → without_f w ≡ w
without_none w e = rw e refl

-- all bytes or all but the last of three or more have the second
second_kept : (w : List ℕ) → 2 < length w → (1 < length (without_f w)) × (slice_index (without_f w) 1 ≡ slice_index w 1)
second_kept w long = elim (cases_Bool (ends_with 102 70 w)) [
  | inl f ↦
      let e : without_f w ≡ but_last w = rw f refl in
      let l : length (but_last w) ≡ length w - 1 = length-take-le (length w - 1) w (omega arith) in
      let P : List ℕ → Type 0 = λ v. (1 < length v) × (slice_index v 1 ≡ slice_index w 1) in
      subst P (sym e) ((omega arith), get_or-take (length w - 1) w 1 0 (omega arith))
  | inr none ↦
      let P : List ℕ → Type 0 = λ v. (1 < length v) × (slice_index v 1 ≡ slice_index w 1) in
      subst P (sym (without_none w none)) ((omega arith), refl)
]

foreign_mark : (b mark : ℕ) → b ≡ mark → (mark ≡ 120) ⊎ (mark ≡ 88) → foreign b ≡ true
foreign_mark b mark e (inl x) = ap foreign (e ∙ x)
foreign_mark b mark e (inr x) = ap foreign (e ∙ x)

whole_point : (F : ℕ) (w : List ℕ) (n : ℕ) (raw : ℤ) → IsWhole w n → IsPoint F w raw → ⊥
whole_point F w n raw (inl a) p =
    let some = a.some in
    let e : without_f w ≡ w = without_none w (digit_no_f (last_byte w) (a.digits (length w - 1) 0 (omega arith))) in
    false≢true (sym (digits_no_mark w a.digits) ∙ ap marked (sym e) ∙ point_marked F w raw p)
whole_point F w n raw (inr a) p =
    let k = second_kept w (hexadecimal_long w n a) in
    no_foreign (without_f w) p.decimal 1 p.spelled k.0 (foreign_mark _ a.mark (k.1 ∙ mark_at w n a) a.is_mark)

h_no_f : (b : ℕ) → (eqb b 104 || eqb b 72) ≡ true → (eqb b 102 || eqb b 70) ≡ false
h_no_f b h = grind (arith, nat_tests)

h_foreign : (b : ℕ) → (eqb b 104 || eqb b 72) ≡ true → foreign b ≡ true
h_foreign b h = or_right _ _ h

point_half : (F : ℕ) (w : List ℕ) (raw other : ℤ) → IsPoint F w raw → IsHalfPoint F w other → ⊥
point_half F w raw other p q =
    let some = q.whole.some in
    let e : without_f w ≡ w = without_none w (h_no_f (last_byte w) q.suffixed) in
    let P : List ℕ → Type 0 = λ v. Spells v p.decimal in
    no_foreign w p.decimal (length w - 1) (subst P e p.spelled) (omega arith) (h_foreign (last_byte w) q.suffixed)

same_point : SpellsOnce → (F : ℕ) (w : List ℕ) (a b : ℤ) → IsPoint F w a → IsPoint F w b → a ≡ b
same_point once F w a b p q = p.value ∙ ap (decimal_raw F) (once (without_f w) p.decimal q.decimal p.spelled q.spelled) ∙ sym q.value

same_half : SpellsOnce → (F : ℕ) (w : List ℕ) (a b : ℤ) → IsHalfPoint F w a → IsHalfPoint F w b → a ≡ b
same_half once F w a b p q = p.value ∙ ap (λ d. half F (decimal_raw F d)) (once (but_last w) p.decimal q.decimal p.spelled q.spelled) ∙ sym q.value

-- the kinds of token by their first bytes: names and keywords, numbers, texts, signs

class_of : TokenKind → ℕ
class_of (Word keyword) = 0
class_of Name = 0
class_of (Whole n) = 1
class_of (Point raw) = 1
class_of (HalfPoint raw) = 1
class_of Text = 2
class_of (SignKind sign) = 3

class_at : List ℕ → ℕ
class_at w = cond (begins_name (slice_index w 0)) 0 (cond (begins_number w) 1 (cond (eqb (slice_index w 0) 34) 2 3))

class_name : (w : List ℕ) → begins_name (slice_index w 0) ≡ true → class_at w ≡ 0
unfolding class_at
class_name w h = rw h refl

class_number : (w : List ℕ) → begins_number w ≡ true → class_at w ≡ 1
unfolding class_at
class_number w h = elim (cases_Bool (begins_name (slice_index w 0))) [
  | inl name ↦ absurd (name_no_number w name h)
  | inr none ↦ rw (none, h) refl
]

class_text : (w : List ℕ) → slice_index w 0 ≡ 34 → class_at w ≡ 2
unfolding class_at
class_text w h = rw h refl

class_sign : (w : List ℕ) (sign : Sign) → w ≡ sign_bytes sign → class_at w ≡ 3
unfolding class_at
class_sign w sign e =
    let k : signlike w ≡ true = ap signlike e ∙ sign_is sign in
    let a : begins_name (slice_index w 0) ≡ false = not-true _ (and_parts _ _ (and_parts _ _ (and_parts _ _ k).0).0).0 in
    let b : eqb (slice_index w 0) 34 ≡ false = not-true _ (and_parts _ _ (and_parts _ _ (and_parts _ _ (and_parts _ _ k).0).1).0).0 in
    elim (cases_Bool (begins_number w)) [
      | inl number ↦ absurd (sign_no_number w sign e number)
      | inr none ↦ rw (a, none, b) refl
    ]

digit_begins : (w : List ℕ) → IsDigit (slice_index w 0) → begins_number w ≡ true
digit_begins w h = grind (arith, nat_tests)

whole_begins : (w : List ℕ) (n : ℕ) → IsWhole w n → begins_number w ≡ true
whole_begins w n (inl a) = digit_begins w (a.digits 0 0 a.some)
whole_begins w n (inr a) = ap begins_number a.joined

kind_class : (F : ℕ) (w : List ℕ) (kind : TokenKind) → SpellsKind F kind w → class_at w ≡ class_of kind
unfolding class_of
kind_class F w (Word keyword) s = class_name w (keyword_first w keyword s)
kind_class F w Name s = class_name w s.0.begins
kind_class F w (Whole n) s = class_number w (whole_begins w n s)
kind_class F w (Point raw) s = class_number w s.whole.begins
kind_class F w (HalfPoint raw) s = class_number w s.whole.begins
kind_class F w Text s = class_text w s.begins
kind_class F w (SignKind sign) s = class_sign w sign s

apart_class : (F : ℕ) (w : List ℕ) (kind other : TokenKind) → SpellsKind F kind w → SpellsKind F other w → class_of kind ≡ class_of other
apart_class F w kind other h k = sym (kind_class F w kind h) ∙ kind_class F w other k

pub same_kind : SpellsOnce → (F : ℕ) (w : List ℕ) (kind other : TokenKind) → SpellsKind F kind w → SpellsKind F other w → kind ≡ other
unfolding class_of
same_kind once F w (Word a) (Word b) h k = ap Word (sym (keyword_back a) ∙ ap keyword_named (sym h ∙ k) ∙ keyword_back b)
same_kind once F w (Word a) Name h k = absurd (k.1 (a, h))
same_kind once F w (Word a) (Whole b) h k = absurd (let e = apart_class F w (Word a) (Whole b) h k in omega arith)
same_kind once F w (Word a) (Point b) h k = absurd (let e = apart_class F w (Word a) (Point b) h k in omega arith)
same_kind once F w (Word a) (HalfPoint b) h k = absurd (let e = apart_class F w (Word a) (HalfPoint b) h k in omega arith)
same_kind once F w (Word a) Text h k = absurd (let e = apart_class F w (Word a) Text h k in omega arith)
same_kind once F w (Word a) (SignKind b) h k = absurd (let e = apart_class F w (Word a) (SignKind b) h k in omega arith)
same_kind once F w Name (Word b) h k = absurd (h.1 (b, k))
same_kind once F w Name Name h k = refl
same_kind once F w Name (Whole b) h k = absurd (let e = apart_class F w Name (Whole b) h k in omega arith)
same_kind once F w Name (Point b) h k = absurd (let e = apart_class F w Name (Point b) h k in omega arith)
same_kind once F w Name (HalfPoint b) h k = absurd (let e = apart_class F w Name (HalfPoint b) h k in omega arith)
same_kind once F w Name Text h k = absurd (let e = apart_class F w Name Text h k in omega arith)
same_kind once F w Name (SignKind b) h k = absurd (let e = apart_class F w Name (SignKind b) h k in omega arith)
same_kind once F w (Whole a) (Word b) h k = absurd (let e = apart_class F w (Whole a) (Word b) h k in omega arith)
same_kind once F w (Whole a) Name h k = absurd (let e = apart_class F w (Whole a) Name h k in omega arith)
same_kind once F w (Whole a) (Whole b) h k = ap Whole (same_whole w a b h k)
same_kind once F w (Whole a) (Point b) h k = absurd (whole_point F w a b h k)
same_kind once F w (Whole a) (HalfPoint b) h k = absurd (whole_half F w a b h k)
same_kind once F w (Whole a) Text h k = absurd (let e = apart_class F w (Whole a) Text h k in omega arith)
same_kind once F w (Whole a) (SignKind b) h k = absurd (let e = apart_class F w (Whole a) (SignKind b) h k in omega arith)
same_kind once F w (Point a) (Word b) h k = absurd (let e = apart_class F w (Point a) (Word b) h k in omega arith)
same_kind once F w (Point a) Name h k = absurd (let e = apart_class F w (Point a) Name h k in omega arith)
same_kind once F w (Point a) (Whole b) h k = absurd (whole_point F w b a k h)
same_kind once F w (Point a) (Point b) h k = ap Point (same_point once F w a b h k)
same_kind once F w (Point a) (HalfPoint b) h k = absurd (point_half F w a b h k)
same_kind once F w (Point a) Text h k = absurd (let e = apart_class F w (Point a) Text h k in omega arith)
same_kind once F w (Point a) (SignKind b) h k = absurd (let e = apart_class F w (Point a) (SignKind b) h k in omega arith)
same_kind once F w (HalfPoint a) (Word b) h k = absurd (let e = apart_class F w (HalfPoint a) (Word b) h k in omega arith)
same_kind once F w (HalfPoint a) Name h k = absurd (let e = apart_class F w (HalfPoint a) Name h k in omega arith)
same_kind once F w (HalfPoint a) (Whole b) h k = absurd (whole_half F w b a k h)
same_kind once F w (HalfPoint a) (Point b) h k = absurd (point_half F w b a k h)
same_kind once F w (HalfPoint a) (HalfPoint b) h k = ap HalfPoint (same_half once F w a b h k)
same_kind once F w (HalfPoint a) Text h k = absurd (let e = apart_class F w (HalfPoint a) Text h k in omega arith)
same_kind once F w (HalfPoint a) (SignKind b) h k = absurd (let e = apart_class F w (HalfPoint a) (SignKind b) h k in omega arith)
same_kind once F w Text (Word b) h k = absurd (let e = apart_class F w Text (Word b) h k in omega arith)
same_kind once F w Text Name h k = absurd (let e = apart_class F w Text Name h k in omega arith)
same_kind once F w Text (Whole b) h k = absurd (let e = apart_class F w Text (Whole b) h k in omega arith)
same_kind once F w Text (Point b) h k = absurd (let e = apart_class F w Text (Point b) h k in omega arith)
same_kind once F w Text (HalfPoint b) h k = absurd (let e = apart_class F w Text (HalfPoint b) h k in omega arith)
same_kind once F w Text Text h k = refl
same_kind once F w Text (SignKind b) h k = absurd (let e = apart_class F w Text (SignKind b) h k in omega arith)
same_kind once F w (SignKind a) (Word b) h k = absurd (let e = apart_class F w (SignKind a) (Word b) h k in omega arith)
same_kind once F w (SignKind a) Name h k = absurd (let e = apart_class F w (SignKind a) Name h k in omega arith)
same_kind once F w (SignKind a) (Whole b) h k = absurd (let e = apart_class F w (SignKind a) (Whole b) h k in omega arith)
same_kind once F w (SignKind a) (Point b) h k = absurd (let e = apart_class F w (SignKind a) (Point b) h k in omega arith)
same_kind once F w (SignKind a) (HalfPoint b) h k = absurd (let e = apart_class F w (SignKind a) (HalfPoint b) h k in omega arith)
same_kind once F w (SignKind a) Text h k = absurd (let e = apart_class F w (SignKind a) Text h k in omega arith)
same_kind once F w (SignKind a) (SignKind b) h k = ap SignKind (sym (sign_back a) ∙ ap sign_named (sym h ∙ k) ∙ sign_back b)

-- tokens that stand at one place are the same
same_token : SpellsOnce → (F : ℕ) (text : List ℕ) (t u : Token) → t.at ≡ u.at → StandsIn F text t → StandsIn F text u → t ≡ u
same_token once F text t u e s r =
    let l : t.len ≡ u.len = same_len F text t u e s r in
    let P : ℕ → Type 0 = λ at. IsToken F u.kind (drop at text) u.len in
    let there = subst P (sym e) r.spelled in
    let S : ℕ → Type 0 = λ k. SpellsKind F u.kind (take k (drop t.at text)) in
    let kind = same_kind once F (take t.len (drop t.at text)) t.kind u.kind s.spelled.spells (subst S (sym l) there.spells) in
    let line : t.line ≡ u.line = s.line ∙ ap (line_at text) e ∙ sym r.line in
    λ i. record { kind = kind i; at = e i; len = l i; line = line i }

same_cover : SpellsOnce → (F : ℕ) (text : List ℕ) (from : ℕ) (ts us : List Token) → CoversFrom F text from ts (length text) → CoversFrom F text from us (length text) → ts ≡ us
same_cover once F text from [] [] c d = refl
same_cover once F text from [] (u ∷ us) c d =
    let e = same_place text from (length text) u.at c d.0 (end_blocked text) (token_blocked text u.at d.1.spelled) in
    let lt = token_some text u.at d.1.spelled in
    absurd (omega arith)
same_cover once F text from (t ∷ ts) [] c d =
    let e = same_place text from t.at (length text) c.0 d (token_blocked text t.at c.1.spelled) (end_blocked text) in
    let lt = token_some text t.at c.1.spelled in
    absurd (omega arith)
same_cover once F text from (t ∷ ts) (u ∷ us) c d =
    let e : t.at ≡ u.at = same_place text from t.at u.at c.0 d.0 (token_blocked text t.at c.1.spelled) (token_blocked text u.at d.1.spelled) in
    let same = same_token once F text t u e c.1 d.1 in
    let P : Token → Type 0 = λ v. CoversFrom F text (v.at + v.len) us (length text) in
    let others = same_cover once F text (t.at + t.len) ts us c.2 (subst P (sym same) d.2) in
    λ i. same i ∷ others i

pub one_list : SpellsOnce → OneList
one_list once F text tokens others c d = same_cover once F text 0 tokens others c d
