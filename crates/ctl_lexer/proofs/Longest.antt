-- The longest bytes of a token at the front of a list.
use Rattle.std.proofs.Common.{◌≡◌, ℕ, suc, zero, ◌+◌, ◌-◌, ◌<◌, ◌≤◌, Bool, true, false, not, ◌&&◌, ◌||◌, List, [], ◌∷◌, length, take, slice_index, eqb, arith, sym, ap, subst, ◌∙◌, inl, inr, refl}
use Rattle.std.specs.Prelude.{nat_le}
use Rattle.std.proofs.lemmas.Bool.{cases_lt, false≢true, and_parts, or_left, or_right, not-true, and_from, eq-eqb}
use Rattle.std.proofs.lemmas.Bool.Decides.{nat_tests}
use Rattle.std.proofs.lemmas.List.{get_or-take, length-take-le}
use Rattle.ctl_tree.specs.declared.sign.Sign.{Sign}
use Rattle.ctl_tree.specs.declared.sign.Sign.TheVariants.{Plus, Minus, Star, Slash, Percent, Ampersand, Bar, Caret, Tilde, ShiftLeft, ShiftRight, AndAnd, OrOr, Exclamation, EqualTo, NotEqualTo, LessThan, AtMost, GreaterThan, AtLeast, Assign, OpenRound, CloseRound, OpenSquare, CloseSquare, OpenCurly, CloseCurly, Comma, Semicolon, Dot, ColonColon}
use Rattle.ctl_tree.specs.Spelling.{sign_bytes}
use Rattle.ctl_tree.specs.TokenBytes.{is_digit, is_blank, is_escaped, ends_text, begins_name, in_name, begins_number, begins_hexadecimal, goes_on_at, IsName, IsNumberSpelling, IsSign, IsText, IsTokenBytes}
use Rattle.ctl_tree.specs.Tokens.{IsLongest}

-- tests of one byte

name_goes_on : (b : ℕ) → begins_name b ≡ true → in_name b ≡ true
name_goes_on b h = ap (λ t. t || is_digit b) h

-- a byte that begins a sign
abbrev pub plain : ℕ → Bool
plain b = (not (begins_name b) && not (is_digit b)) && ((not (eqb b 34) && not (is_blank b)) && not (eqb b 0))

-- what holds of the bytes of every sign
abbrev pub signlike : List ℕ → Bool
signlike w = plain (slice_index w 0) && (not (is_digit (slice_index w 1)) && nat_le (length w) 2)

pub sign_is : (sign : Sign) → signlike (sign_bytes sign) ≡ true
sign_is Plus = refl
sign_is Minus = refl
sign_is Star = refl
sign_is Slash = refl
sign_is Percent = refl
sign_is Ampersand = refl
sign_is Bar = refl
sign_is Caret = refl
sign_is Tilde = refl
sign_is ShiftLeft = refl
sign_is ShiftRight = refl
sign_is AndAnd = refl
sign_is OrOr = refl
sign_is Exclamation = refl
sign_is EqualTo = refl
sign_is NotEqualTo = refl
sign_is LessThan = refl
sign_is AtMost = refl
sign_is GreaterThan = refl
sign_is AtLeast = refl
sign_is Assign = refl
sign_is OpenRound = refl
sign_is CloseRound = refl
sign_is OpenSquare = refl
sign_is CloseSquare = refl
sign_is OpenCurly = refl
sign_is CloseCurly = refl
sign_is Comma = refl
sign_is Semicolon = refl
sign_is Dot = refl
sign_is ColonColon = refl

sign_front_byte : (w : List ℕ) → IsSign w → plain (slice_index w 0) ≡ true
sign_front_byte w h = ap (λ v. plain (slice_index v 0)) h.1 ∙ (and_parts _ _ (sign_is h.0)).0

sign_second : (w : List ℕ) → IsSign w → not (is_digit (slice_index w 1)) ≡ true
sign_second w h = ap (λ v. not (is_digit (slice_index v 1))) h.1 ∙ (and_parts _ _ (and_parts _ _ (sign_is h.0)).1).0

pub sign_short : (w : List ℕ) → IsSign w → length w ≤ 2
sign_short w h =
    let k : nat_le (length w) 2 ≡ true = ap (λ v. nat_le (length v) 2) h.1 ∙ (and_parts _ _ (and_parts _ _ (sign_is h.0)).1).1 in
    grind (arith, nat_tests)

plain_no_name : (b : ℕ) → plain b ≡ true → begins_name b ≡ true → ⊥
plain_no_name b h k = false≢true (sym (not-true _ (and_parts _ _ (and_parts _ _ h).0).0) ∙ k)

plain_no_quote : (b : ℕ) → plain b ≡ true → b ≡ 34 → ⊥
plain_no_quote b h k = false≢true (sym (not-true _ (and_parts _ _ (and_parts _ _ (and_parts _ _ h).1).0).0) ∙ eq-eqb b 34 k)

plain_no_blank : (b : ℕ) → plain b ≡ true → is_blank b ≡ true → ⊥
plain_no_blank b h k = false≢true (sym (not-true _ (and_parts _ _ (and_parts _ _ (and_parts _ _ h).1).0).1) ∙ k)

plain_some : (b : ℕ) → plain b ≡ true → b ≡ 0 → ⊥
plain_some b h k = false≢true (sym (not-true _ (and_parts _ _ (and_parts _ _ h).1).1) ∙ eq-eqb b 0 k)

-- what the bytes of a token at the front say of all

pub long : (bytes : List ℕ) (m : ℕ) → m ≤ length bytes → 0 < length (take m bytes) → 0 < m
long bytes m le some = omega (arith, length-take-le m bytes le)

-- the first byte of some bytes at the front
first_of : (bytes : List ℕ) (m : ℕ) → 0 < m → slice_index (take m bytes) 0 ≡ slice_index bytes 0
first_of bytes m pos = get_or-take m bytes 0 0 pos

pub name_front : (bytes : List ℕ) (m : ℕ) → m ≤ length bytes → IsName (take m bytes) → begins_name (slice_index bytes 0) ≡ true
name_front bytes m le h = ap begins_name (sym (first_of bytes m (long bytes m le h.some))) ∙ h.begins

name_inside : (bytes : List ℕ) (m i : ℕ) → m ≤ length bytes → IsName (take m bytes) → 0 < i → i < m → in_name (slice_index bytes i) ≡ true
name_inside bytes m i le h pos lt = ap in_name (sym (get_or-take m bytes i 0 lt)) ∙ h.goes_on i pos (omega (arith, length-take-le m bytes le))

pub number_front : (bytes : List ℕ) (m : ℕ) → m ≤ length bytes → IsNumberSpelling (take m bytes) → begins_number bytes ≡ true
number_front [] zero le h = absurd (omega (arith, h.some))
number_front [] (suc m) le h = absurd (omega arith)
number_front (b ∷ bytes) zero le h = absurd (omega (arith, h.some))
number_front (b ∷ bytes) (suc zero) le h = let k = h.begins in grind (arith, nat_tests)
number_front (b ∷ []) (suc (suc m)) le h = absurd (omega arith)
number_front (b ∷ c ∷ bytes) (suc (suc m)) le h = h.begins

number_inside : (bytes : List ℕ) (m i : ℕ) → m ≤ length bytes → IsNumberSpelling (take m bytes) → 0 < i → i < m
    → goes_on_at bytes i ≡ true
number_inside bytes m i le h pos lt =
    let e : begins_hexadecimal (take m bytes) ≡ begins_hexadecimal bytes = rw (get_or-take m bytes 0 0 (omega arith), get_or-take m bytes 1 0 (omega arith)) refl in
    let k = h.goes_on i pos (omega (arith, length-take-le m bytes le)) in
    rw (e, get_or-take m bytes (i - 1) 0 (omega arith), get_or-take m bytes i 0 lt) at k

sign_some : (w : List ℕ) → IsSign w → 0 < length w
sign_some [] h = absurd (plain_some 0 (sign_front_byte [] h) refl)
sign_some (b ∷ w) h = omega arith

pub sign_front : (bytes : List ℕ) (m : ℕ) → m ≤ length bytes → IsSign (take m bytes) → plain (slice_index bytes 0) ≡ true
sign_front bytes m le h = ap plain (sym (first_of bytes m (long bytes m le (sign_some (take m bytes) h)))) ∙ sign_front_byte (take m bytes) h

pub text_front : (bytes : List ℕ) (m : ℕ) → m ≤ length bytes → IsText (take m bytes) → slice_index bytes 0 ≡ 34
text_front bytes m le h = let some = h.some in sym (first_of bytes m (long bytes m le (omega arith))) ∙ h.begins

-- the bytes before a place tell whether it is escaped
escaped_take : (bytes : List ℕ) (m i : ℕ) → i ≤ m → is_escaped (take m bytes) i ≡ is_escaped bytes i
escaped_take bytes m zero le = refl
escaped_take bytes m (suc i) le = rw (get_or-take m bytes i 0 (omega arith), escaped_take bytes m i (omega arith)) refl

pub ends_take : (bytes : List ℕ) (m i : ℕ) → i < m → ends_text (take m bytes) i ≡ ends_text bytes i
ends_take bytes m i lt = rw (get_or-take m bytes i 0 lt, escaped_take bytes m i (omega arith)) refl

pub same_longest : (bytes : List ℕ) (n m : ℕ) → IsLongest bytes n → IsLongest bytes m → n ≡ m
same_longest bytes n m h k = elim (cases_lt n m) [
  | inl less ↦ absurd (h.longest m less k.within k.written)
  | inr no_less ↦ elim (cases_lt m n) [
    | inl more ↦ absurd (k.longest n more h.within h.written)
    | inr equal ↦ omega arith
  ]
]

-- where a text can end

-- no text ends before a place before which no byte ends one
pub no_text_before : (bytes : List ℕ) (n m : ℕ) → ((i : ℕ) → 0 < i → i < n → ends_text bytes i ≡ false) → m ≤ n → m ≤ length bytes → IsText (take m bytes) → ⊥
no_text_before bytes n m goes_on le within h =
    let e : length (take m bytes) ≡ m = length-take-le m bytes within in
    let some = h.some in
    let P : ℕ → Type 0 = λ l. ends_text (take m bytes) (l - 1) ≡ true in
    let ends : ends_text (take m bytes) (m - 1) ≡ true = subst P e h.ends in
    false≢true (sym (goes_on (m - 1) (omega arith) (omega arith)) ∙ sym (ends_take bytes m (m - 1) (omega arith)) ∙ ends)

-- no text goes on over a line feed
pub no_text_over : (bytes : List ℕ) (n m : ℕ) → ((i : ℕ) → 0 < i → i < n → ends_text bytes i ≡ false) → slice_index bytes n ≡ 10 → m ≤ length bytes → IsText (take m bytes) → ⊥
no_text_over bytes n m goes_on feed within h = elim (cases_lt n m) [
  | inl past ↦
      let e : length (take m bytes) ≡ m = length-take-le m bytes within in
      false≢true (sym (h.one_line n (omega arith)) ∙ eq-eqb _ 10 (get_or-take m bytes n 0 past ∙ feed))
  | inr before ↦ no_text_before bytes n m goes_on (omega arith) within h
]

-- the text that ends at a place
pub text_here : (bytes : List ℕ) (n : ℕ) → 0 < n → n < length bytes → slice_index bytes 0 ≡ 34 → ((i : ℕ) → 0 < i → i < n → ends_text bytes i ≡ false)
    → ((i : ℕ) → i < n → eqb (slice_index bytes i) 10 ≡ false) → slice_index bytes n ≡ 34 → is_escaped bytes n ≡ false → IsText (take (n + 1) bytes)
text_here bytes n pos lt begins goes_on one_line quote plain_there =
    let e : length (take (n + 1) bytes) ≡ n + 1 = length-take-le (n + 1) bytes (omega arith) in
    let ends : ends_text bytes n ≡ true = and_from _ _ (eq-eqb _ 34 quote) (ap not plain_there) in
    let P : ℕ → Type 0 = λ k. ends_text (take (n + 1) bytes) k ≡ true in
    let f : n ≡ length (take (n + 1) bytes) - 1 = omega arith in
    record {
      some = omega arith;
      begins = get_or-take (n + 1) bytes 0 0 (omega arith) ∙ begins;
      goes_on = λ i low high. ends_take bytes (n + 1) i (omega arith) ∙ goes_on i low (omega arith);
      one_line = λ i high. ap (λ b. eqb b 10) (get_or-take (n + 1) bytes i 0 (omega arith)) ∙ elim (cases_lt i n) [
        | inl before ↦ one_line i before
        | inr here ↦ let g : n ≡ i = omega arith in let Q : ℕ → Type 0 = λ k. eqb (slice_index bytes k) 10 ≡ false in subst Q g (ap (λ b. eqb b 10) quote)
      ];
      ends = subst P f (ends_take bytes (n + 1) n (omega arith) ∙ ends);
    }

-- the longest of each of the four sorts

name_only : (bytes : List ℕ) (n m : ℕ) → begins_name (slice_index bytes 0) ≡ true → (n < length bytes → in_name (slice_index bytes n) ≡ false) → 0 < n → n < m → m ≤ length bytes
    → IsTokenBytes (take m bytes) → ⊥
name_only bytes n m begins stops pos lt le (inl name) = false≢true (sym (stops (omega arith)) ∙ name_inside bytes m n le name pos lt)
name_only bytes n m begins stops pos lt le (inr (inl number)) = let k = number_front bytes m le number in grind (arith, nat_tests)
name_only bytes n m begins stops pos lt le (inr (inr (inl sign))) = plain_no_name (slice_index bytes 0) (sign_front bytes m le sign) begins
name_only bytes n m begins stops pos lt le (inr (inr (inr text))) = let k = text_front bytes m le text in grind (arith, nat_tests)

pub name_longest : (bytes : List ℕ) (n : ℕ) → 0 < length bytes → begins_name (slice_index bytes 0) ≡ true → n ≤ length bytes
    → ((i : ℕ) → i < n → in_name (slice_index bytes i) ≡ true) → (n < length bytes → in_name (slice_index bytes n) ≡ false) → IsLongest bytes n
name_longest [] n more begins within pass stops = absurd (omega arith)
name_longest (b ∷ bytes) zero more begins within pass stops = absurd (false≢true (sym (stops (omega arith)) ∙ name_goes_on b begins))
name_longest (b ∷ bytes) (suc n) more begins within pass stops =
    let e : length (take (suc n) (b ∷ bytes)) ≡ suc n = length-take-le (suc n) (b ∷ bytes) within in
    record {
      within = within;
      written = inl record {
        some = omega arith;
        begins = begins;
        goes_on = λ i pos lt. let l : i < suc n = omega arith in ap in_name (get_or-take (suc n) (b ∷ bytes) i 0 l) ∙ pass i l;
      };
      longest = λ m lt le written. name_only (b ∷ bytes) (suc n) m begins stops (omega arith) lt le written;
    }

pub neither : (a e d : Bool) → a ≡ false → d ≡ false → (a || (e && d)) ≡ true → ⊥
neither true e d p q h = false≢true (sym p)
neither false true d p q h = false≢true (sym q ∙ h)
neither false false d p q h = false≢true h

number_sign : (bytes : List ℕ) (m : ℕ) → begins_number bytes ≡ true → 1 < m → m ≤ length bytes → IsSign (take m bytes) → ⊥
number_sign bytes m begins lt le sign =
    let k = sign_front bytes m le sign in
    let l : not (is_digit (slice_index bytes 1)) ≡ true = ap (λ b. not (is_digit b)) (sym (get_or-take m bytes 1 0 lt)) ∙ sign_second (take m bytes) sign in
    let a : is_digit (slice_index bytes 0) ≡ false = not-true _ (and_parts _ _ (and_parts _ _ k).0).1 in
    neither (is_digit (slice_index bytes 0)) (eqb (slice_index bytes 0) 46) (is_digit (slice_index bytes 1)) a (not-true _ l) begins

number_only : (bytes : List ℕ) (n m : ℕ) → begins_number bytes ≡ true
    → (n < length bytes → goes_on_at bytes n ≡ false) → 0 < n → n < m → m ≤ length bytes
    → IsTokenBytes (take m bytes) → ⊥
number_only bytes n m begins stops pos lt le (inl name) = let k = name_front bytes m le name in grind (arith, nat_tests)
number_only bytes n m begins stops pos lt le (inr (inl number)) = false≢true (sym (stops (omega arith)) ∙ number_inside bytes m n le number pos lt)
number_only bytes n m begins stops pos lt le (inr (inr (inl sign))) = number_sign bytes m begins (omega arith) le sign
number_only bytes n m begins stops pos lt le (inr (inr (inr text))) = let k = text_front bytes m le text in grind (arith, nat_tests)

first_alone : (d p e q : Bool) → (d || (p && e)) ≡ true → (e ≡ true → ⊥) → (d || (p && q)) ≡ true
first_alone true p e q h other = refl
first_alone false p e q h other = absurd (other (and_parts p e h).1)

-- the bytes up to where a number spelling ends begin it
number_begins : (bytes : List ℕ) (n : ℕ) → begins_number bytes ≡ true → 0 < n → n ≤ length bytes
    → (n < length bytes → goes_on_at bytes n ≡ false) → begins_number (take n bytes) ≡ true
number_begins bytes zero begins pos within stops = absurd (omega arith)
number_begins [] (suc n) begins pos within stops = absurd (omega arith)
number_begins (b ∷ []) (suc zero) begins pos within stops = begins
number_begins (b ∷ c ∷ bytes) (suc zero) begins pos within stops =
    first_alone (is_digit b) (eqb b 46) (is_digit c) false begins (λ digit. false≢true (sym (stops (omega arith)) ∙ or_left (in_name c) _ (or_right (begins_name c) (is_digit c) digit)))
number_begins (b ∷ []) (suc (suc n)) begins pos within stops = absurd (omega arith)
number_begins (b ∷ c ∷ bytes) (suc (suc n)) begins pos within stops = begins

hexadecimal_front : (bytes : List ℕ) (n : ℕ) → 1 < n → begins_hexadecimal (take n bytes) ≡ begins_hexadecimal bytes
hexadecimal_front bytes n lt = rw (get_or-take n bytes 0 0 (omega arith), get_or-take n bytes 1 0 lt) refl

pub number_spelling : (bytes : List ℕ) (n : ℕ) → begins_number bytes ≡ true → 0 < n → n ≤ length bytes
    → ((i : ℕ) → 0 < i → i < n → goes_on_at bytes i ≡ true)
    → (n < length bytes → goes_on_at bytes n ≡ false) → IsNumberSpelling (take n bytes)
number_spelling bytes n begins pos within pass stops =
    let e : length (take n bytes) ≡ n = length-take-le n bytes within in
    record {
      some = omega arith;
      begins = number_begins bytes n begins pos within stops;
      goes_on = λ i low high.
          let l : i < n = omega arith in
          rw (hexadecimal_front bytes n (omega arith), get_or-take n bytes (i - 1) 0 (omega arith), get_or-take n bytes i 0 l) (pass i low l);
    }

pub number_longest : (bytes : List ℕ) (n : ℕ) → begins_number bytes ≡ true → 0 < n → n ≤ length bytes → IsNumberSpelling (take n bytes)
    → (n < length bytes → goes_on_at bytes n ≡ false) → IsLongest bytes n
number_longest bytes n begins pos within spelling stops = record {
  within = within;
  written = inr (inl spelling);
  longest = λ m lt le written. number_only bytes n m begins stops pos lt le written;
}

sign_only : (bytes : List ℕ) (n m : ℕ) → (slice_index bytes 0 ≡ 34 → ⊥) → begins_name (slice_index bytes 0) ≡ false → begins_number bytes ≡ false
    → ((k : ℕ) → n < k → k ≤ length bytes → IsSign (take k bytes) → ⊥) → n < m → m ≤ length bytes → IsTokenBytes (take m bytes) → ⊥
sign_only bytes n m no_text no_name no_number longer lt le (inl name) = false≢true (sym no_name ∙ name_front bytes m le name)
sign_only bytes n m no_text no_name no_number longer lt le (inr (inl number)) = false≢true (sym no_number ∙ number_front bytes m le number)
sign_only bytes n m no_text no_name no_number longer lt le (inr (inr (inl sign))) = longer m lt le sign
sign_only bytes n m no_text no_name no_number longer lt le (inr (inr (inr text))) = no_text (text_front bytes m le text)

-- where neither a text nor a name nor a number begins, a sign is longest where no longer sign begins
pub sign_longest : (bytes : List ℕ) (n : ℕ) → n ≤ length bytes → (slice_index bytes 0 ≡ 34 → ⊥) → begins_name (slice_index bytes 0) ≡ false → begins_number bytes ≡ false → IsSign (take n bytes)
    → ((k : ℕ) → n < k → k ≤ length bytes → IsSign (take k bytes) → ⊥) → IsLongest bytes n
sign_longest bytes n le no_text no_name no_number sign longer = record {
  within = le;
  written = inr (inr (inl sign));
  longest = λ m lt within written. sign_only bytes n m no_text no_name no_number longer lt within written;
}

-- no text goes on after another
longer_text : (bytes : List ℕ) (n m : ℕ) → n ≤ length bytes → m ≤ length bytes → IsText (take n bytes) → n < m → IsText (take m bytes) → ⊥
longer_text bytes n m len le h lt k =
    let e : length (take n bytes) ≡ n = length-take-le n bytes len in
    let f : length (take m bytes) ≡ m = length-take-le m bytes le in
    let some = h.some in
    let P : ℕ → Type 0 = λ l. ends_text (take n bytes) (l - 1) ≡ true in
    let ends : ends_text (take n bytes) (n - 1) ≡ true = subst P e h.ends in
    false≢true (sym (k.goes_on (n - 1) (omega arith) (omega arith)) ∙ ends_take bytes m (n - 1) (omega arith) ∙ sym (ends_take bytes n (n - 1) (omega arith)) ∙ ends)

text_only : (bytes : List ℕ) (n m : ℕ) → n ≤ length bytes → IsText (take n bytes) → n < m → m ≤ length bytes → IsTokenBytes (take m bytes) → ⊥
text_only bytes n m len h lt le (inl name) = let q = text_front bytes n len h in let k = name_front bytes m le name in grind (arith, nat_tests)
text_only bytes n m len h lt le (inr (inl number)) = let q = text_front bytes n len h in let k = number_front bytes m le number in grind (arith, nat_tests)
text_only bytes n m len h lt le (inr (inr (inl sign))) = plain_no_quote (slice_index bytes 0) (sign_front bytes m le sign) (text_front bytes n len h)
text_only bytes n m len h lt le (inr (inr (inr text))) = longer_text bytes n m len le h lt text

pub text_longest : (bytes : List ℕ) (n : ℕ) → n ≤ length bytes → IsText (take n bytes) → IsLongest bytes n
text_longest bytes n le h = record {
  within = le;
  written = inr (inr (inr h));
  longest = λ m lt within written. text_only bytes n m le h lt within written;
}

-- a token has a byte, and its first is no blank

bytes_some : (bytes : List ℕ) → IsTokenBytes bytes → 0 < length bytes
bytes_some bytes (inl name) = name.some
bytes_some bytes (inr (inl number)) = number.some
bytes_some bytes (inr (inr (inl sign))) = sign_some bytes sign
bytes_some bytes (inr (inr (inr text))) = let some = text.some in omega arith

pub longest_some : (bytes : List ℕ) (n : ℕ) → IsLongest bytes n → 0 < n
longest_some bytes n h = long bytes n h.within (bytes_some (take n bytes) h.written)

bytes_no_blank : (bytes : List ℕ) (n : ℕ) → n ≤ length bytes → IsTokenBytes (take n bytes) → is_blank (slice_index bytes 0) ≡ true → ⊥
bytes_no_blank bytes n le (inl name) blank = let k = name_front bytes n le name in grind (arith, nat_tests)
bytes_no_blank bytes n le (inr (inl number)) blank = let k = number_front bytes n le number in grind (arith, nat_tests)
bytes_no_blank bytes n le (inr (inr (inl sign))) blank = plain_no_blank (slice_index bytes 0) (sign_front bytes n le sign) blank
bytes_no_blank bytes n le (inr (inr (inr text))) blank = let k = text_front bytes n le text in grind (arith, nat_tests)

pub longest_no_blank : (bytes : List ℕ) (n : ℕ) → IsLongest bytes n → is_blank (slice_index bytes 0) ≡ true → ⊥
longest_no_blank bytes n h blank = bytes_no_blank bytes n h.within h.written blank
