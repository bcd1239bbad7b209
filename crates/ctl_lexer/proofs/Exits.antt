-- What stands at the front of a list of bytes, and what is wrong where nothing does.
use Rattle.std.proofs.Common.{◌≡◌, ℕ, ◌<◌, ◌≤◌, true, false, List, [], ◌∷◌, length, take, slice_index, eqb, arith, sym, ap, subst, ◌∙◌, inl, inr, refl}
use Rattle.std.proofs.lemmas.Bool.{cases_lt, false≢true, and_parts, not-true, eqb-true, and_left, eq-eqb}
use Rattle.std.proofs.lemmas.Bool.Decides.{nat_tests}
use Rattle.std.proofs.lemmas.List.{get_or-take, length-take-le}
use Rattle.ctl_tree.specs.declared.keyword.Keyword.{Keyword}
use Rattle.ctl_tree.specs.declared.keyword.Keyword.TheVariants.{Bool as BoolWord, Const as ConstWord, Ctlversion as CtlversionWord, Else as ElseWord, False as FalseWord, Float as FloatWord, For as ForWord, Half as HalfWord, If as IfWord, Import as ImportWord, Input as InputWord, Int as IntWord, Namespace as NamespaceWord, Output as OutputWord, Print as PrintWord, Return as ReturnWord, String as StringWord, Struct as StructWord, True as TrueWord, Uniform as UniformWord, Unsigned as UnsignedWord, Varying as VaryingWord, Void as VoidWord, While as WhileWord}
use Rattle.ctl_tree.specs.declared.sign.Sign.{Sign}
use Rattle.ctl_tree.specs.declared.token.TokenKind.{TokenKind}
use Rattle.ctl_tree.specs.declared.token.TokenKind.TheVariants.{Word, Name, Whole, Point, HalfPoint, Text, Sign as SignKind}
use Rattle.ctl_tree.specs.Spelling.{keyword_bytes, sign_bytes}
use Rattle.ctl_tree.specs.TokenBytes.{is_digit, is_blank, begins_name, in_name, begins_number, goes_on_at, IsName, IsNumberSpelling, IsSign, IsText, IsTokenBytes, SpellsKind}
use Rattle.ctl_tree.specs.Tokens.{begins_comment, IsToken, IsComment, IsBlockComment, NothingBegins}
use Rattle.ctl_lexer.specs.Means.{NoNumber, NoSign, NoDouble, IsDouble}
use Rattle.ctl_lexer.proofs.Longest.{plain, name_front, number_front, sign_front, text_front, name_longest, number_longest, sign_longest, text_longest, same_longest, longest_some, sign_short, sign_is, signlike, neither}
use Rattle.ctl_lexer.proofs.Spaces.{comment_begins}

-- a keyword's first byte begins a name
pub keyword_begins : (keyword : Keyword) → begins_name (slice_index (keyword_bytes keyword) 0) ≡ true
keyword_begins BoolWord = refl
keyword_begins ConstWord = refl
keyword_begins CtlversionWord = refl
keyword_begins ElseWord = refl
keyword_begins FalseWord = refl
keyword_begins FloatWord = refl
keyword_begins ForWord = refl
keyword_begins HalfWord = refl
keyword_begins IfWord = refl
keyword_begins ImportWord = refl
keyword_begins InputWord = refl
keyword_begins IntWord = refl
keyword_begins NamespaceWord = refl
keyword_begins OutputWord = refl
keyword_begins PrintWord = refl
keyword_begins ReturnWord = refl
keyword_begins StringWord = refl
keyword_begins StructWord = refl
keyword_begins TrueWord = refl
keyword_begins UniformWord = refl
keyword_begins UnsignedWord = refl
keyword_begins VaryingWord = refl
keyword_begins VoidWord = refl
keyword_begins WhileWord = refl

-- names

pub name_token : (F : ℕ) (bytes : List ℕ) (n : ℕ) (kind : TokenKind) → 0 < length bytes → begins_comment bytes ≡ false → begins_name (slice_index bytes 0) ≡ true → n ≤ length bytes
    → ((i : ℕ) → i < n → in_name (slice_index bytes i) ≡ true) → (n < length bytes → in_name (slice_index bytes n) ≡ false) → SpellsKind F kind (take n bytes) → IsToken F kind bytes n
name_token F bytes n kind more apart begins within pass stops spells = record {
  whole = name_longest bytes n more begins within pass stops;
  spells = spells;
  apart = apart;
}

-- the bytes up to where a name ends are a name
pub name_is : (bytes : List ℕ) (n : ℕ) → 0 < length bytes → begins_name (slice_index bytes 0) ≡ true → n ≤ length bytes
    → ((i : ℕ) → i < n → in_name (slice_index bytes i) ≡ true) → (n < length bytes → in_name (slice_index bytes n) ≡ false) → IsName (take n bytes)
name_is bytes n more begins within pass stops =
    let h = name_longest bytes n more begins within pass stops in
    let some = longest_some bytes n h in
    let e : length (take n bytes) ≡ n = length-take-le n bytes within in
    record {
      some = omega arith;
      begins = ap begins_name (get_or-take n bytes 0 0 some) ∙ begins;
      goes_on = λ i pos lt. let l : i < n = omega arith in ap in_name (get_or-take n bytes i 0 l) ∙ pass i l;
    }

-- texts

quote_apart : (bytes : List ℕ) → slice_index bytes 0 ≡ 34 → begins_comment bytes ≡ false
quote_apart bytes q = and_left _ _ (ap (λ b. eqb b 47) q)

pub text_token : (F : ℕ) (bytes : List ℕ) (n : ℕ) → slice_index bytes 0 ≡ 34 → n ≤ length bytes → IsText (take n bytes) → IsToken F Text bytes n
text_token F bytes n q le h = record { whole = text_longest bytes n le h; spells = h; apart = quote_apart bytes q }

open_bytes : (bytes : List ℕ) (n : ℕ) → slice_index bytes 0 ≡ 34 → ((m : ℕ) → m ≤ length bytes → IsText (take m bytes) → ⊥) → n ≤ length bytes → IsTokenBytes (take n bytes) → ⊥
open_bytes bytes n q none le (inl name) = let k = name_front bytes n le name in grind (arith, nat_tests)
open_bytes bytes n q none le (inr (inl number)) = let k = number_front bytes n le number in grind (arith, nat_tests)
open_bytes bytes n q none le (inr (inr (inl sign))) = let k = ap plain (sym q) ∙ sign_front bytes n le sign in false≢true k
open_bytes bytes n q none le (inr (inr (inr text))) = none n le text

pub open_text : (F : ℕ) (bytes : List ℕ) → 0 < length bytes → slice_index bytes 0 ≡ 34 → ((n : ℕ) → n ≤ length bytes → IsText (take n bytes) → ⊥) → NothingBegins F bytes
open_text F bytes more q none = record {
  more = more;
  no_blank = ap is_blank q;
  no_comment = λ n c. false≢true (sym (quote_apart bytes q) ∙ comment_begins bytes n c);
  no_token = λ kind n t. open_bytes bytes n q none t.whole.within t.whole.written;
}

-- comments

slash : (bytes : List ℕ) → begins_comment bytes ≡ true → slice_index bytes 0 ≡ 47
slash bytes c = eqb-true _ 47 (and_parts _ _ c).0

open_no_comment : (bytes : List ℕ) → (slice_index bytes 1 ≡ 47 → ⊥) → ((n : ℕ) → IsBlockComment bytes n → ⊥) → (n : ℕ) → IsComment bytes n → ⊥
open_no_comment bytes other none n (inl line) = other line.second
open_no_comment bytes other none n (inr block) = none n block

pub open_comment : (F : ℕ) (bytes : List ℕ) → 0 < length bytes → begins_comment bytes ≡ true → (slice_index bytes 1 ≡ 47 → ⊥) → ((n : ℕ) → IsBlockComment bytes n → ⊥) → NothingBegins F bytes
open_comment F bytes more c other none = record {
  more = more;
  no_blank = ap is_blank (slash bytes c);
  no_comment = λ n h. open_no_comment bytes other none n h;
  no_token = λ kind n t. false≢true (sym t.apart ∙ c);
}

-- numbers

pub number_token : (F : ℕ) (bytes : List ℕ) (n : ℕ) (kind : TokenKind) → begins_comment bytes ≡ false → begins_number bytes ≡ true → 0 < n → n ≤ length bytes → IsNumberSpelling (take n bytes)
    → (n < length bytes → goes_on_at bytes n ≡ false) → SpellsKind F kind (take n bytes) → IsToken F kind bytes n
number_token F bytes n kind apart begins pos within spelling stops spells = record {
  whole = number_longest bytes n begins pos within spelling stops;
  spells = spells;
  apart = apart;
}

pub name_no_number : (w : List ℕ) → begins_name (slice_index w 0) ≡ true → begins_number w ≡ true → ⊥
name_no_number w h k = grind (arith, nat_tests)

pub keyword_first : (w : List ℕ) (keyword : Keyword) → w ≡ keyword_bytes keyword → begins_name (slice_index w 0) ≡ true
keyword_first w keyword e = ap (λ v. begins_name (slice_index v 0)) e ∙ keyword_begins keyword

pub sign_no_number : (w : List ℕ) (sign : Sign) → w ≡ sign_bytes sign → begins_number w ≡ true → ⊥
sign_no_number w sign e begins =
    let k : signlike w ≡ true = ap signlike e ∙ sign_is sign in
    let a : is_digit (slice_index w 0) ≡ false = not-true _ (and_parts _ _ (and_parts _ _ (and_parts _ _ k).0).0).1 in
    let b : is_digit (slice_index w 1) ≡ false = not-true _ (and_parts _ _ (and_parts _ _ k).1).0 in
    neither (is_digit (slice_index w 0)) (eqb (slice_index w 0) 46) (is_digit (slice_index w 1)) a b begins

no_number_kind : (F : ℕ) (w : List ℕ) → IsNumberSpelling w → NoNumber F w → (kind : TokenKind) → SpellsKind F kind w → ⊥
no_number_kind F w h none (Word keyword) s = name_no_number w (keyword_first w keyword s) h.begins
no_number_kind F w h none Name s = name_no_number w s.0.begins h.begins
no_number_kind F w h none (Whole n) s = none.no_whole n s
no_number_kind F w h none (Point raw) s = none.no_point raw s
no_number_kind F w h none (HalfPoint raw) s = none.no_half raw s
no_number_kind F w h none Text s = let q = s.begins in let k = h.begins in grind (arith, nat_tests)
no_number_kind F w h none (SignKind sign) s = sign_no_number w sign s h.begins

number_no_blank : (bytes : List ℕ) → begins_number bytes ≡ true → is_blank (slice_index bytes 0) ≡ false
number_no_blank bytes h = grind (arith, nat_tests)

pub bad_number : (F : ℕ) (bytes : List ℕ) (n : ℕ) → 0 < length bytes → begins_comment bytes ≡ false → begins_number bytes ≡ true → 0 < n → n ≤ length bytes → IsNumberSpelling (take n bytes)
    → (n < length bytes → goes_on_at bytes n ≡ false) → NoNumber F (take n bytes) → NothingBegins F bytes
bad_number F bytes n more apart begins pos within spelling stops none = record {
  more = more;
  no_blank = number_no_blank bytes begins;
  no_comment = λ m c. false≢true (sym apart ∙ comment_begins bytes m c);
  no_token = λ kind m t.
      let e = same_longest bytes n m (number_longest bytes n begins pos within spelling stops) t.whole in
      let P : ℕ → Type 0 = λ k. SpellsKind F kind (take k bytes) in
      no_number_kind F (take n bytes) spelling none kind (subst P (sym e) t.spells);
}

-- signs

take_one : (bytes : List ℕ) → 0 < length bytes → take 1 bytes ≡ slice_index bytes 0 ∷ []
take_one [] more = absurd (omega arith)
take_one (b ∷ bytes) more = refl

take_two : (bytes : List ℕ) → 1 < length bytes → take 2 bytes ≡ slice_index bytes 0 ∷ slice_index bytes 1 ∷ []
take_two [] more = absurd (omega arith)
take_two (b ∷ []) more = absurd (omega arith)
take_two (b ∷ c ∷ bytes) more = refl

no_quote : (bytes : List ℕ) → eqb (slice_index bytes 0) 34 ≡ false → slice_index bytes 0 ≡ 34 → ⊥
no_quote bytes h q = false≢true (sym h ∙ eq-eqb _ 34 q)

longer_double : (bytes : List ℕ) (k : ℕ) → 2 < k → k ≤ length bytes → IsSign (take k bytes) → ⊥
longer_double bytes k lt le sign = let s = sign_short (take k bytes) sign in omega (arith, length-take-le k bytes le)

pub double_token : (F : ℕ) (bytes : List ℕ) (sign : Sign) → begins_comment bytes ≡ false → eqb (slice_index bytes 0) 34 ≡ false → begins_name (slice_index bytes 0) ≡ false → begins_number bytes ≡ false
    → IsDouble bytes sign → IsToken F (SignKind sign) bytes 2
double_token F bytes sign apart no_text no_name no_number d =
    let more = d.0 in
    let e : take 2 bytes ≡ sign_bytes sign = take_two bytes d.0 ∙ d.1 in
    record {
      whole = sign_longest bytes 2 (omega arith) (no_quote bytes no_text) no_name no_number (sign, e) (λ k lt le s. longer_double bytes k lt le s);
      spells = e;
      apart = apart;
    }

no_two : (bytes : List ℕ) → NoDouble bytes → (k : ℕ) → 1 < k → k ≤ length bytes → IsSign (take k bytes) → ⊥
no_two bytes none k lt le s = elim (cases_lt 2 k) [
  | inl more ↦ longer_double bytes k more le s
  | inr no_more ↦
      let e : k ≡ 2 = omega arith in
      let l : 1 < length bytes = omega arith in
      none s.0 (l, sym (take_two bytes l) ∙ ap (λ m. take m bytes) (sym e) ∙ s.1)
]

pub single_token : (F : ℕ) (bytes : List ℕ) (sign : Sign) → 0 < length bytes → begins_comment bytes ≡ false → eqb (slice_index bytes 0) 34 ≡ false → begins_name (slice_index bytes 0) ≡ false
    → begins_number bytes ≡ false → NoDouble bytes → slice_index bytes 0 ∷ [] ≡ sign_bytes sign → IsToken F (SignKind sign) bytes 1
single_token F bytes sign more apart no_text no_name no_number none s =
    let e : take 1 bytes ≡ sign_bytes sign = take_one bytes more ∙ s in
    record {
      whole = sign_longest bytes 1 (omega arith) (no_quote bytes no_text) no_name no_number (sign, e) (λ k lt le h. no_two bytes none k lt le h);
      spells = e;
      apart = apart;
    }

no_one : (bytes : List ℕ) → 0 < length bytes → NoDouble bytes → NoSign (slice_index bytes 0 ∷ []) → (n : ℕ) → 0 < n → n ≤ length bytes → IsSign (take n bytes) → ⊥
no_one bytes more none single n pos le s = elim (cases_lt 1 n) [
  | inl longer ↦ no_two bytes none n longer le s
  | inr no_longer ↦
      let e : n ≡ 1 = omega arith in
      single s.0 (sym (take_one bytes more) ∙ ap (λ m. take m bytes) (sym e) ∙ s.1)
]

no_bytes : (bytes : List ℕ) (n : ℕ) → 0 < length bytes → eqb (slice_index bytes 0) 34 ≡ false → begins_name (slice_index bytes 0) ≡ false → begins_number bytes ≡ false
    → NoDouble bytes → NoSign (slice_index bytes 0 ∷ []) → 0 < n → n ≤ length bytes → IsTokenBytes (take n bytes) → ⊥
no_bytes bytes n more no_text no_name no_number none single pos le (inl name) = false≢true (sym no_name ∙ name_front bytes n le name)
no_bytes bytes n more no_text no_name no_number none single pos le (inr (inl number)) = false≢true (sym no_number ∙ number_front bytes n le number)
no_bytes bytes n more no_text no_name no_number none single pos le (inr (inr (inl sign))) = no_one bytes more none single n pos le sign
no_bytes bytes n more no_text no_name no_number none single pos le (inr (inr (inr text))) = no_quote bytes no_text (text_front bytes n le text)

pub no_token_here : (F : ℕ) (bytes : List ℕ) → 0 < length bytes → is_blank (slice_index bytes 0) ≡ false → begins_comment bytes ≡ false → eqb (slice_index bytes 0) 34 ≡ false
    → begins_name (slice_index bytes 0) ≡ false → begins_number bytes ≡ false → NoDouble bytes → NoSign (slice_index bytes 0 ∷ []) → NothingBegins F bytes
no_token_here F bytes more no_blank apart no_text no_name no_number none single = record {
  more = more;
  no_blank = no_blank;
  no_comment = λ m c. false≢true (sym apart ∙ comment_begins bytes m c);
  no_token = λ kind n t. no_bytes bytes n more no_text no_name no_number none single (longest_some bytes n t.whole) t.whole.within t.whole.written;
}
