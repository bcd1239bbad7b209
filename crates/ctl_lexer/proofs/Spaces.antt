-- Blanks and comments between tokens.
use Rattle.std.proofs.Common.{◌≡◌, ℕ, ◌+◌, ◌-◌, ◌<◌, ◌≤◌, true, List, length, drop, slice_index, get_or, arith, sym, ap, subst, ◌∙◌, inl, inr, add-zero}
use Rattle.std.proofs.lemmas.Bool.{cases_lt, false≢true, eq-eqb, and_from, or_left, or_right}
use Rattle.std.proofs.lemmas.Bool.Decides.{nat_tests}
use Rattle.std.proofs.lemmas.List.{get_or-drop}
use Rattle.ctl_tree.specs.TokenBytes.{is_blank}
use Rattle.ctl_tree.specs.Tokens.{begins_comment, IsLineComment, IsBlockComment, IsComment, IsGap, nothing, blank, comment}

pub front : (text : List ℕ) (at : ℕ) → slice_index (drop at text) 0 ≡ slice_index text at
front text at = get_or-drop at text 0 0 ∙ ap (λ k. get_or text k 0) (add-zero at)

-- comments

pub comment_long : (bytes : List ℕ) (n : ℕ) → IsComment bytes n → 2 ≤ n
comment_long bytes n (inl line) = line.some
comment_long bytes n (inr block) = let some = block.some in omega arith

pub comment_within : (bytes : List ℕ) (n : ℕ) → IsComment bytes n → n ≤ length bytes
comment_within bytes n (inl line) = line.within
comment_within bytes n (inr block) = block.within

pub comment_begins : (bytes : List ℕ) (n : ℕ) → IsComment bytes n → begins_comment bytes ≡ true
comment_begins bytes n (inl line) = and_from _ _ (eq-eqb _ 47 line.first) (or_left _ _ (eq-eqb _ 47 line.second))
comment_begins bytes n (inr block) = and_from _ _ (eq-eqb _ 47 block.first) (or_right _ _ (eq-eqb _ 42 block.second))

pub comment_no_blank : (bytes : List ℕ) (n : ℕ) → IsComment bytes n → is_blank (slice_index bytes 0) ≡ true → ⊥
comment_no_blank bytes n (inl line) b = let k = line.first in grind (arith, nat_tests)
comment_no_blank bytes n (inr block) b = let k = block.first in grind (arith, nat_tests)

longer_line : (bytes : List ℕ) (n m : ℕ) → IsLineComment bytes n → IsLineComment bytes m → n < m → ⊥
longer_line bytes n m h k lt =
    let within = k.within in
    false≢true (sym (k.goes_on n lt) ∙ eq-eqb _ 10 (h.ends (omega arith)))

longer_block : (bytes : List ℕ) (n m : ℕ) → IsBlockComment bytes n → IsBlockComment bytes m → n < m → ⊥
longer_block bytes n m h k lt =
    let some = h.some in
    false≢true (sym (k.goes_on (n - 2) (omega arith) (omega arith)) ∙ h.ends)

longer_comment : (bytes : List ℕ) (n m : ℕ) → IsComment bytes n → IsComment bytes m → n < m → ⊥
longer_comment bytes n m (inl line) (inl other) lt = longer_line bytes n m line other lt
longer_comment bytes n m (inl line) (inr other) lt = let a = line.second in let b = other.second in omega arith
longer_comment bytes n m (inr block) (inl other) lt = let a = block.second in let b = other.second in omega arith
longer_comment bytes n m (inr block) (inr other) lt = longer_block bytes n m block other lt

pub same_comment : (bytes : List ℕ) (n m : ℕ) → IsComment bytes n → IsComment bytes m → n ≡ m
same_comment bytes n m h k = elim (cases_lt n m) [
  | inl less ↦ absurd (longer_comment bytes n m h k less)
  | inr no_less ↦ elim (cases_lt m n) [
    | inl more ↦ absurd (longer_comment bytes m n k h more)
    | inr equal ↦ omega arith
  ]
]

-- gaps

pub gap_le : (text : List ℕ) (p q : ℕ) → IsGap text p q → p ≤ q
gap_le text p q (nothing within e) = omega arith
gap_le text p q (blank lt b g) = let le = gap_le text (p + 1) q g in omega arith
gap_le text p q (comment n c g) = let le = gap_le text (p + n) q g in omega arith

pub gap_within : (text : List ℕ) (p q : ℕ) → IsGap text p q → q ≤ length text
gap_within text p q (nothing within e) = omega arith
gap_within text p q (blank lt b g) = gap_within text (p + 1) q g
gap_within text p q (comment n c g) = gap_within text (p + n) q g

pub gap_join : (text : List ℕ) (p q r : ℕ) → IsGap text p q → IsGap text q r → IsGap text p r
gap_join text p q r (nothing within e) h = let P : ℕ → Type 0 = λ k. IsGap text k r in subst P (sym e) h
gap_join text p q r (blank lt b g) h = blank lt b (gap_join text (p + 1) q r g h)
gap_join text p q r (comment n c g) h = comment n c (gap_join text (p + n) q r g h)

-- no blank and no comment both begin at a place
apart : (text : List ℕ) (p n : ℕ) → is_blank (slice_index text p) ≡ true → IsComment (drop p text) n → ⊥
apart text p n b c = comment_no_blank (drop p text) n c (ap is_blank (front text p) ∙ b)

-- what is left of a longer gap
pub gap_rest : (text : List ℕ) (from p q : ℕ) → IsGap text from p → IsGap text from q → p ≤ q → IsGap text p q
gap_rest text from p q (nothing within e) h le = let P : ℕ → Type 0 = λ k. IsGap text k q in subst P e h
gap_rest text from p q (blank lt b g) (nothing within e) le = let k = gap_le text (from + 1) p g in absurd (omega arith)
gap_rest text from p q (blank lt b g) (blank lt' b' g') le = gap_rest text (from + 1) p q g g' le
gap_rest text from p q (blank lt b g) (comment n c g') le = absurd (apart text from n b c)
gap_rest text from p q (comment n c g) (nothing within e) le = let k = gap_le text (from + n) p g in let l = comment_long (drop from text) n c in absurd (omega arith)
gap_rest text from p q (comment n c g) (blank lt b g') le = absurd (apart text from n b c)
gap_rest text from p q (comment n c g) (comment m d g') le =
    let e = same_comment (drop from text) n m c d in
    let P : ℕ → Type 0 = λ k. IsGap text (from + k) q in
    gap_rest text (from + n) p q g (subst P (sym e) g') le

-- no gap but the empty one begins at the place
abbrev pub Blocked : List ℕ → ℕ → Type 0
Blocked text p = (q : ℕ) → IsGap text p q → q ≡ p

pub blocked : (text : List ℕ) (p : ℕ) → (is_blank (slice_index text p) ≡ true → ⊥) → ((n : ℕ) → IsComment (drop p text) n → ⊥) → Blocked text p
blocked text p no_blank no_comment q (nothing within e) = sym e
blocked text p no_blank no_comment q (blank lt b g) = absurd (no_blank b)
blocked text p no_blank no_comment q (comment n c g) = absurd (no_comment n c)

pub end_blocked : (text : List ℕ) → Blocked text (length text)
end_blocked text q g = let a = gap_le text (length text) q g in let b = gap_within text (length text) q g in omega arith

pub same_place : (text : List ℕ) (from p q : ℕ) → IsGap text from p → IsGap text from q → Blocked text p → Blocked text q → p ≡ q
same_place text from p q g h a b = elim (cases_lt p q) [
  | inl less ↦ sym (a q (gap_rest text from p q g h (omega arith)))
  | inr no_less ↦ b p (gap_rest text from q p h g (omega arith))
]
