-- A text has no more tokens than bytes.
use Rattle.std.proofs.Common.{◌≡◌, ℕ, ◌+◌, ◌<◌, ◌≤◌, Bool, true, false, List, [], ◌∷◌, length, take, drop, arith, ap, ◌∙◌, refl, inl, inr, length-take-le}
use Rattle.std.proofs.lemmas.Bool.{false≢true}
use Rattle.ctl_tree.specs.declared.sign.Sign.{Sign}
use Rattle.ctl_tree.specs.declared.sign.Sign.TheVariants.{Plus}
use Rattle.ctl_tree.specs.declared.token.Token.{Token}
use Rattle.ctl_tree.specs.declared.token.TokenKind.{TokenKind}
use Rattle.ctl_tree.specs.Spelling.{sign_bytes}
use Rattle.ctl_tree.specs.TokenBytes.{IsTokenBytes}
use Rattle.ctl_tree.specs.Tokens.{IsGap, nothing, blank, comment, IsToken, CoversFrom, StandsFor}

gap_up : {text : List ℕ} {p q : ℕ} → IsGap text p q → p ≤ q
gap_up (nothing le e) = omega arith
gap_up (blank lt is g) = omega (arith, gap_up g)
gap_up (comment n c g) = omega (arith, gap_up g)

abbrev holds_some : List ℕ → Bool
holds_some [] = false
holds_some (b ∷ bytes) = true

sign_holds : (sign : Sign) → holds_some (sign_bytes sign) ≡ true
sign_holds Plus = refl
sign_holds _ = refl

holding : (bytes : List ℕ) → holds_some bytes ≡ true → 0 < length bytes
holding [] e = absurd (false≢true e)
holding (b ∷ bytes) e = omega arith

lexeme_some : (bytes : List ℕ) → IsTokenBytes bytes → 0 < length bytes
lexeme_some bytes (inl name) = name.some
lexeme_some bytes (inr (inl number)) = number.some
lexeme_some bytes (inr (inr (inl (sign, is)))) = holding bytes (ap holds_some is ∙ sign_holds sign)
lexeme_some bytes (inr (inr (inr text))) = omega (arith, text.some)

token_some : {F : ℕ} {kind : TokenKind} (bytes : List ℕ) (n : ℕ) → IsToken F kind bytes n → 0 < n
token_some bytes n t = omega (arith, length-take-le n bytes t.whole.within, lexeme_some (take n bytes) t.whole.written)

covers_few : (F : ℕ) (text : List ℕ) (from to : ℕ) (ts : List Token) → CoversFrom F text from ts to → from + length ts ≤ to
covers_few F text from to [] c = omega (arith, gap_up c)
covers_few F text from to (t ∷ ts) c =
    omega (arith, gap_up c.0, token_some (drop t.at text) t.len c.1.spelled, covers_few F text (t.at + t.len) to ts c.2)

pub stand_few : (F : ℕ) (text : List ℕ) (ts : List Token) → StandsFor F ts text → length ts ≤ length text
stand_few F text ts h = omega (arith, covers_few F text 0 (length text) ts h)
