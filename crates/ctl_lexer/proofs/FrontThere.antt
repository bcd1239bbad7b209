-- At the front of bytes stands a blank, a comment or a token, or else a fault.
use Rattle.std.proofs.Common.{◌≡◌, ℕ, zero, suc, ◌+◌, ◌-◌, ◌<◌, ◌≤◌, ◌⊎◌, inl, inr, Bool, true, false, ◌||◌, not, eqb, List, [], ◌∷◌, length, take, slice_index, Result, Ok, Err, refl, ap, sym, subst, ◌∙◌, arith}
use Rattle.std.proofs.lemmas.Bool.{cases_Bool, cases_lt, false≢true, and_parts, not-true, eqb-true}
use Rattle.std.proofs.lemmas.List.{get_or_past}
use Rattle.fix_num.specs.Decimal.{SpellsOnce}
use Rattle.ctl_tree.specs.declared.fault.LexKind.{LexKind}
use Rattle.ctl_tree.specs.declared.fault.LexKind.TheVariants.{NoToken, OpenComment, OpenText, Literal, NotAscii}
use Rattle.ctl_tree.specs.declared.sign.Sign.{Sign}
use Rattle.ctl_tree.specs.declared.token.TokenKind.TheVariants.{Text, Sign as SignKind}
use Rattle.ctl_tree.specs.TokenBytes.{is_blank, begins_name, in_name, begins_number, goes_on_at, ends_text, is_escaped}
use Rattle.ctl_tree.specs.Tokens.{begins_comment, closes_at, IsLineComment, IsBlockComment}
use Rattle.ctl_lexer.specs.declared.front.Piece.{Piece}
use Rattle.ctl_lexer.specs.declared.front.Piece.TheVariants.{Space, Token as TokenPiece}
use Rattle.ctl_lexer.specs.Means.{IsFront, IsDouble, NoDouble}
use Rattle.ctl_lexer.proofs.Least.{first}
use Rattle.ctl_lexer.proofs.Longest.{no_text_before, no_text_over, text_here, number_spelling}
use Rattle.ctl_lexer.proofs.Exits.{name_is, name_token, text_token, open_text, open_comment, number_token, bad_number, double_token, single_token, no_token_here}
use Rattle.ctl_lexer.proofs.KindThere.{word_there, sign_there, number_there}

-- what stands at the front
abbrev pub Front : ℕ → List ℕ → Type 0
Front F bytes = (found : Result Piece LexKind) × IsFront F bytes found

-- a byte other than 0 stands before the end
there : (bytes : List ℕ) (i b : ℕ) → slice_index bytes i ≡ suc b → i < length bytes
there bytes i b e = elim (cases_lt i (length bytes)) [
  | inl lt ↦ lt
  | inr past ↦ let none : slice_index bytes i ≡ 0 = get_or_past bytes i 0 past in absurd (omega arith)
]

passes_not : (b : Bool) → not b ≡ false → b ≡ true
passes_not true h = refl
passes_not false h = absurd (false≢true (sym h))

neither_or : (a b : Bool) → (a || b) ≡ false → (a ≡ false) × (b ≡ false)
neither_or true b h = absurd (false≢true (sym h))
neither_or false b h = (refl, h)

-- comments

feed_behind : (bytes : List ℕ) (n : ℕ) → slice_index bytes 0 ≡ 47 → slice_index bytes 1 ≡ 47 → eqb (slice_index bytes n) 10 ≡ true → 2 ≤ n
feed_behind bytes zero slash second feed = absurd (false≢true (sym (ap (λ b. eqb b 10) slash) ∙ feed))
feed_behind bytes (suc zero) slash second feed = absurd (false≢true (sym (ap (λ b. eqb b 10) second) ∙ feed))
feed_behind bytes (suc (suc n)) slash second feed = omega arith

line_there : (bytes : List ℕ) → slice_index bytes 0 ≡ 47 → slice_index bytes 1 ≡ 47 → (n : ℕ) × IsLineComment bytes n
line_there bytes slash second = elim (first (λ i. eqb (slice_index bytes i) 10) (length bytes)) [
  | inl found ↦
      let lt = found.within in
      (found.place, record { within = omega arith; some = feed_behind bytes found.place slash second found.passes; first = slash; second = second; goes_on = found.before; ends = λ more. eqb-true _ 10 found.passes })
  | inr none ↦
      let long = there bytes 1 46 second in
      (length bytes, record { within = omega arith; some = omega arith; first = slash; second = second; goes_on = none; ends = λ more. absurd (omega arith) })
]

block_there : (bytes : List ℕ) → slice_index bytes 0 ≡ 47 → slice_index bytes 1 ≡ 42 → ((n : ℕ) × IsBlockComment bytes n) ⊎ ((n : ℕ) → IsBlockComment bytes n → ⊥)
block_there bytes slash second = elim (first (λ i. closes_at bytes (i + 2)) (length bytes - 3)) [
  | inl found ↦
      let lt = found.within in
      let P : ℕ → Type 0 = λ k. closes_at bytes k ≡ true in
      let e : found.place + 2 ≡ found.place + 4 - 2 = omega arith in
      inl (
        found.place + 4,
        record {
          within = omega arith;
          some = omega arith;
          first = slash;
          second = second;
          goes_on = λ i low high.
              let Q : ℕ → Type 0 = λ k. closes_at bytes k ≡ false in
              let back : i - 2 + 2 ≡ i = omega arith in
              subst Q back (found.before (i - 2) (omega arith));
          ends = subst P e found.passes;
        },
      )
  | inr none ↦ inr (λ n block.
      let some = block.some in
      let within = block.within in
      let P : ℕ → Type 0 = λ k. closes_at bytes k ≡ true in
      let e : n - 2 ≡ n - 4 + 2 = omega arith in
      false≢true (sym (none (n - 4) (omega arith)) ∙ subst P e block.ends))
]

comment_there : (F : ℕ) (bytes : List ℕ) → 0 < length bytes → begins_comment bytes ≡ true → Front F bytes
comment_there F bytes more begins =
    let both = and_parts (eqb (slice_index bytes 0) 47) (eqb (slice_index bytes 1) 47 || eqb (slice_index bytes 1) 42) begins in
    let slash = eqb-true (slice_index bytes 0) 47 both.0 in
    let marked : (eqb (slice_index bytes 1) 47 || eqb (slice_index bytes 1) 42) ≡ true = both.1 in
    elim (cases_Bool (eqb (slice_index bytes 1) 47)) [
      | inl line ↦ let comment = line_there bytes slash (eqb-true (slice_index bytes 1) 47 line) in (Ok (Space comment.0), inr (inl comment.1))
      | inr no_line ↦
          let star : eqb (slice_index bytes 1) 42 ≡ true = rw no_line at marked in
          elim (block_there bytes slash (eqb-true (slice_index bytes 1) 42 star)) [
            | inl block ↦ (Ok (Space block.0), inr (inr block.1))
            | inr none ↦ (Err OpenComment, (open_comment F bytes more begins (λ e. false≢true (sym no_line ∙ ap (λ b. eqb b 47) e)) none, begins))
          ]
    ]

-- texts

-- whether a text cannot go on over the byte behind a place
halts : List ℕ → ℕ → Bool
halts bytes i = eqb (slice_index bytes (suc i)) 10 || ends_text bytes (suc i)

clear : (bytes : List ℕ) (n : ℕ) → ((i : ℕ) → i < n → halts bytes i ≡ false) → (i : ℕ) → 0 < i → i < n + 1 → (eqb (slice_index bytes i) 10 ≡ false) × (ends_text bytes i ≡ false)
unfolding halts
clear bytes n before zero low high = absurd (omega arith)
clear bytes n before (suc i) low high = neither_or _ _ (before i (omega arith))

one_line : (bytes : List ℕ) (n : ℕ) → slice_index bytes 0 ≡ 34 → ((i : ℕ) → i < n → halts bytes i ≡ false) → (i : ℕ) → i < n + 1 → eqb (slice_index bytes i) 10 ≡ false
one_line bytes n quote before zero high = ap (λ b. eqb b 10) quote
one_line bytes n quote before (suc i) high = (clear bytes n before (suc i) (omega arith) high).0

text_at_end : (F : ℕ) (bytes : List ℕ) (n : ℕ) → 0 < length bytes → slice_index bytes 0 ≡ 34 → n < length bytes - 1 → ((i : ℕ) → i < n → halts bytes i ≡ false) → halts bytes n ≡ true → Front F bytes
unfolding halts
text_at_end F bytes n more quote lt before halt = elim (cases_Bool (eqb (slice_index bytes (suc n)) 10)) [
  | inl feed ↦
      (Err OpenText, (open_text F bytes more quote (λ m within text. no_text_over bytes (suc n) m (λ i low high. (clear bytes n before i low (omega arith)).1) (eqb-true (slice_index bytes (suc n)) 10 feed) within text), quote))
  | inr no_feed ↦
      let ends : ends_text bytes (suc n) ≡ true = rw no_feed at halt in
      let parts = and_parts (eqb (slice_index bytes (suc n)) 34) (not (is_escaped bytes (suc n))) ends in
      let text = text_here bytes (suc n) (omega arith) (omega arith) quote (λ i low high. (clear bytes n before i low (omega arith)).1) (λ i high. one_line bytes n quote before i (omega arith))
      (eqb-true (slice_index bytes (suc n)) 34 parts.0) (not-true _ parts.1) in
      (Ok (TokenPiece Text (suc n + 1)), text_token F bytes (suc n + 1) quote (omega arith) text)
]

text_there : (F : ℕ) (bytes : List ℕ) → 0 < length bytes → slice_index bytes 0 ≡ 34 → Front F bytes
text_there F bytes more quote = elim (first (halts bytes) (length bytes - 1)) [
  | inl found ↦ text_at_end F bytes found.place more quote found.within found.before found.passes
  | inr none ↦ (Err OpenText, (open_text F bytes more quote (λ m within text. no_text_before bytes (length bytes) m (λ i low high. (clear bytes (length bytes - 1) none i low (omega arith)).1) within within text), quote))
]

-- names

name_ends : (F : ℕ) (bytes : List ℕ) (n : ℕ) → 0 < length bytes → begins_comment bytes ≡ false → begins_name (slice_index bytes 0) ≡ true → n ≤ length bytes
    → ((i : ℕ) → i < n → not (in_name (slice_index bytes i)) ≡ false) → (n < length bytes → in_name (slice_index bytes n) ≡ false) → Front F bytes
name_ends F bytes n more apart begins within before stops =
    let pass : (i : ℕ) → i < n → in_name (slice_index bytes i) ≡ true = λ i lt. passes_not _ (before i lt) in
    let word = word_there F (take n bytes) (name_is bytes n more begins within pass stops) in
    (Ok (TokenPiece word.0 n), name_token F bytes n word.0 more apart begins within pass stops word.1)

name_there : (F : ℕ) (bytes : List ℕ) → 0 < length bytes → begins_comment bytes ≡ false → begins_name (slice_index bytes 0) ≡ true → Front F bytes
name_there F bytes more apart begins = elim (first (λ i. not (in_name (slice_index bytes i))) (length bytes)) [
  | inl found ↦ let lt = found.within in name_ends F bytes found.place more apart begins (omega arith) found.before (λ more. not-true _ found.passes)
  | inr none ↦ name_ends F bytes (length bytes) more apart begins (omega arith) none (λ more. absurd (omega arith))
]

-- numbers

went_on : (bytes : List ℕ) (n : ℕ) → ((i : ℕ) → i < n → not (goes_on_at bytes (suc i)) ≡ false) → (i : ℕ) → 0 < i → i < suc n → goes_on_at bytes i ≡ true
went_on bytes n before zero low high = absurd (omega arith)
went_on bytes n before (suc i) low high = passes_not _ (before i (omega arith))

number_ends : SpellsOnce → (F : ℕ) (bytes : List ℕ) (n : ℕ) → 0 < length bytes → begins_comment bytes ≡ false → begins_number bytes ≡ true → suc n ≤ length bytes
    → ((i : ℕ) → i < n → not (goes_on_at bytes (suc i)) ≡ false) → (suc n < length bytes → goes_on_at bytes (suc n) ≡ false) → Front F bytes
number_ends once F bytes n more apart begins within before stops =
    let spelling = number_spelling bytes (suc n) begins (omega arith) within (went_on bytes n before) stops in
    elim (number_there once F (take (suc n) bytes) spelling) [
      | inl number ↦ (Ok (TokenPiece number.0 (suc n)), number_token F bytes (suc n) number.0 apart begins (omega arith) within spelling stops number.1)
      | inr none ↦ (Err Literal, (bad_number F bytes (suc n) more apart begins (omega arith) within spelling stops none, begins))
    ]

number_at_front : SpellsOnce → (F : ℕ) (bytes : List ℕ) → 0 < length bytes → begins_comment bytes ≡ false → begins_number bytes ≡ true → Front F bytes
number_at_front once F bytes more apart begins = elim (first (λ i. not (goes_on_at bytes (suc i))) (length bytes - 1)) [
  | inl found ↦ let lt = found.within in number_ends once F bytes found.place more apart begins (omega arith) found.before (λ more. not-true _ found.passes)
  | inr none ↦ number_ends once F bytes (length bytes - 1) more apart begins (omega arith) none (λ more. absurd (omega arith))
]

-- signs

double_there : (bytes : List ℕ) → ((sign : Sign) × IsDouble bytes sign) ⊎ NoDouble bytes
double_there bytes = elim (cases_lt 1 (length bytes)) [
  | inr short ↦ inr (λ sign double. let long = double.0 in omega arith)
  | inl long ↦ elim (sign_there (slice_index bytes 0 ∷ slice_index bytes 1 ∷ [])) [
    | inl sign ↦ inl (sign.0, (long, sign.1))
    | inr none ↦ inr (λ sign double. none sign double.1)
  ]
]

sign_at_front : (F : ℕ) (bytes : List ℕ) → 0 < length bytes → is_blank (slice_index bytes 0) ≡ false → begins_comment bytes ≡ false → eqb (slice_index bytes 0) 34 ≡ false
    → begins_name (slice_index bytes 0) ≡ false → begins_number bytes ≡ false → Front F bytes
sign_at_front F bytes more no_blank apart no_text no_name no_number = elim (double_there bytes) [
  | inl double ↦ (Ok (TokenPiece (SignKind double.0) 2), double_token F bytes double.0 apart no_text no_name no_number double.1)
  | inr no_double ↦ elim (sign_there (slice_index bytes 0 ∷ [])) [
    | inl single ↦ (Ok (TokenPiece (SignKind single.0) 1), single_token F bytes single.0 more apart no_text no_name no_number no_double single.1)
    | inr no_single ↦
        let nothing = no_token_here F bytes more no_blank apart no_text no_name no_number no_double no_single in
        elim (cases_lt (slice_index bytes 0) 128) [
          | inl few ↦ (Err NoToken, (nothing, (apart, no_text, no_number, few)))
          | inr many ↦ (Err NotAscii, (nothing, many))
        ]
  ]
]

pub front_there : SpellsOnce → (F : ℕ) (bytes : List ℕ) → 0 < length bytes → Front F bytes
front_there once F bytes more = elim (cases_Bool (is_blank (slice_index bytes 0))) [
  | inl blank ↦ (Ok (Space 1), inl (refl, more, blank))
  | inr no_blank ↦ elim (cases_Bool (begins_comment bytes)) [
    | inl comment ↦ comment_there F bytes more comment
    | inr apart ↦ elim (cases_Bool (eqb (slice_index bytes 0) 34)) [
      | inl quote ↦ text_there F bytes more (eqb-true (slice_index bytes 0) 34 quote)
      | inr no_text ↦ elim (cases_Bool (begins_name (slice_index bytes 0))) [
        | inl name ↦ name_there F bytes more apart name
        | inr no_name ↦ elim (cases_Bool (begins_number bytes)) [
          | inl number ↦ number_at_front once F bytes more apart number
          | inr no_number ↦ sign_at_front F bytes more no_blank apart no_text no_name no_number
        ]
      ]
    ]
  ]
]
