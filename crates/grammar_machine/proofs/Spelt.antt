-- The tokens that complete a stack are such as bytes spell.
use Rattle.std.proofs.Common.{◌≡◌, ℕ, zero, suc, ◌+◌, ◌<◌, ◌==◌, ◌||◌, ◌&&◌, Bool, true, false, cond, List, [], ◌∷◌, ◌++◌, map, All, codes, sym, ap, subst, ◌∙◌, refl, inl, arith}
use Rattle.std.specs.Prelude.{slice_index}
use Rattle.std.proofs.lemmas.Bool.{true≢false, false≢true, and_parts, and_from, eqb-true}
use Rattle.std.proofs.lemmas.List.Elements.{All-cons}
use Rattle.fix_num.specs.Decimal.{IsDigit}
use Rattle.ctl_tree.specs.declared.keyword.Keyword.{Keyword}
use Rattle.ctl_tree.specs.declared.keyword.Keyword.TheVariants.{Bool as BoolWord}
use Rattle.ctl_tree.specs.declared.token.TokenKind.{TokenKind}
use Rattle.ctl_tree.specs.declared.token.TokenKind.TheVariants.{Word, Name, Whole, Text as TextToken, Sign as SignKind}
use Rattle.ctl_tree.specs.Lexemes.{IsSpelt}
use Rattle.ctl_tree.specs.Spelling.{keyword_bytes}
use Rattle.ctl_tree.specs.TokenBytes.{IsKeyword, IsName, IsText, IsWhole}
use Rattle.grammar_machine.specs.Machine.{Symbol}
use Rattle.grammar_machine.specs.Machine.Symbol.{TheName}
use Rattle.grammar_machine.proofs.Completion.{sample, complete, completes}

-- bytes of each kind

abbrev is_one : List ℕ → Bool
is_one (b ∷ []) = true
is_one _ = false

keyword_longer : (word : Keyword) → is_one (keyword_bytes word) ≡ false
keyword_longer BoolWord = refl
keyword_longer _ = refl

no_keyword : IsKeyword (codes "a") → ⊥
no_keyword h = true≢false (ap is_one h.1 ∙ keyword_longer h.0)

name_spelt : IsName (codes "a")
name_spelt = record { some = omega arith; begins = refl; goes_on = λ i more lt. absurd (omega arith) }

digit_spelt : (b n : ℕ) → b ≡ 48 + n → n < 10 → IsWhole (b ∷ []) n
digit_spelt b n e lt = inl (record {
  some = omega arith;
  digits = All-cons IsDigit b [] (omega arith, omega arith) (λ k d none. absurd (omega arith));
  value = omega arith;
  fits = omega arith;
})

whole_spelt : (n : ℕ) (b : Bool) → (n == 0) ≡ b → (b || n == 1) ≡ true → IsWhole (cond b (codes "0") (codes "1")) n
whole_spelt n true e h = subst (λ m. IsWhole (codes "0") m) (sym (eqb-true n 0 e)) (digit_spelt 48 0 refl (omega arith))
whole_spelt n false e h = subst (λ m. IsWhole (codes "1") m) (sym (eqb-true n 1 h)) (digit_spelt 49 1 refl (omega arith))

no_line_feed : (i : ℕ) → i < 2 → (slice_index (34 ∷ 34 ∷ []) i == 10) ≡ false
no_line_feed zero lt = refl
no_line_feed (suc zero) lt = refl
no_line_feed (suc (suc i)) lt = absurd (omega arith)

text_spelt : IsText (34 ∷ 34 ∷ [])
text_spelt = record { some = omega arith; begins = refl; goes_on = λ i more lt. absurd (omega arith); one_line = λ i lt. no_line_feed i lt; ends = refl }

-- tokens

abbrev has_sample : TokenKind → Bool
has_sample (Word word) = true
has_sample (SignKind sign) = true
has_sample Name = true
has_sample (Whole n) = n == 0 || n == 1
has_sample TextToken = true
has_sample _ = false

sample_spelt : (kind : TokenKind) → has_sample kind ≡ true → IsSpelt (sample kind)
sample_spelt (Word word) h = refl
sample_spelt (SignKind sign) h = refl
sample_spelt Name h = (name_spelt, no_keyword)
sample_spelt (Whole n) h = whole_spelt n (n == 0) refl h
sample_spelt TextToken h = text_spelt
sample_spelt _ h = absurd (false≢true h)

abbrev all_have : List TokenKind → Bool
all_have [] = true
all_have (kind ∷ kinds) = has_sample kind && all_have kinds

have_append : (xs ys : List TokenKind) → all_have xs ≡ true → all_have ys ≡ true → all_have (xs ++ ys) ≡ true
have_append [] ys h h' = h'
have_append (x ∷ xs) ys h h' = let parts = and_parts (has_sample x) (all_have xs) h in and_from _ _ parts.0 (have_append xs ys parts.1 h')

complete_have : (x : Symbol) → all_have (complete x) ≡ true
complete_have TheName = refl
complete_have _ = refl

completes_have : (stack : List Symbol) → all_have (completes stack) ≡ true
completes_have [] = refl
completes_have (x ∷ xs) = have_append (complete x) (completes xs) (complete_have x) (completes_have xs)

samples_spelt : (kinds : List TokenKind) → all_have kinds ≡ true → All IsSpelt (map sample kinds)
samples_spelt [] h = λ k d lt. absurd (omega arith)
samples_spelt (kind ∷ kinds) h =
    let parts = and_parts (has_sample kind) (all_have kinds) h in
    All-cons IsSpelt (sample kind) (map sample kinds) (sample_spelt kind parts.0) (samples_spelt kinds parts.1)

-- and those of a whole stack
pub completion_spelt : (stack : List Symbol) → All IsSpelt (map sample (completes stack))
completion_spelt stack = samples_spelt (completes stack) (completes_have stack)
