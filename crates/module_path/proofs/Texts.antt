-- What is needed of a text before its unit is made.
use Rattle.std.proofs.Common.{◌≡◌, ℕ, zero, suc, ◌+◌, ◌<◌, ◌≤◌, Bool, true, false, List, [], ◌∷◌, length, take, drop, slice_index, All, Option, arith, ap, ◌∙◌, refl, inl, inr, length-take-le, IsUtf8}
use Rattle.std.proofs.lemmas.Bool.{false≢true}
use Rattle.std.proofs.lemmas.List.Elements.{All-nil, All-cons}
use Rattle.std.proofs.lemmas.Str.{IsUtf8-from_ascii}
use Rattle.ctl_tree.specs.declared.definition.Import.{Import}
use Rattle.ctl_tree.specs.declared.definition.Module.{Module}
use Rattle.ctl_tree.specs.declared.sign.Sign.{Sign}
use Rattle.ctl_tree.specs.declared.sign.Sign.TheVariants.{Plus}
use Rattle.ctl_tree.specs.declared.token.Token.{Token}
use Rattle.ctl_tree.specs.declared.token.TokenKind.{TokenKind}
use Rattle.ctl_tree.specs.Lexemes.{Lexeme}
use Rattle.ctl_tree.specs.Modules.{IsPrintable, AreImports, no_import, imports, IsModule, module_of}
use Rattle.ctl_tree.specs.Spelling.{sign_bytes}
use Rattle.ctl_tree.specs.TokenBytes.{IsTokenBytes}
use Rattle.ctl_tree.specs.Tokens.{IsGap, nothing, blank, comment, IsToken, CoversFrom, StandsFor}
use Rattle.module_path.specs.Means.{ArePrintable}

-- There are no more tokens than bytes.

gap_up : {text : List ℕ} {p q : ℕ} → IsGap text p q → p ≤ q
gap_up (nothing le e) = omega arith
gap_up (blank lt is g) = omega (arith, gap_up g)
gap_up (comment n c g) = omega (arith, gap_up g)

abbrev holds_some : List ℕ → Bool
holds_some [] = false
holds_some (b ∷ bytes) = true

sign_holds : (sign : Sign) → holds_some (sign_bytes sign) ≡ true
sign_holds Plus = refl
sign_holds _ = refl

holding : (bytes : List ℕ) → holds_some bytes ≡ true → 0 < length bytes
holding [] e = absurd (false≢true e)
holding (b ∷ bytes) e = omega arith

lexeme_some : (bytes : List ℕ) → IsTokenBytes bytes → 0 < length bytes
lexeme_some bytes (inl name) = name.some
lexeme_some bytes (inr (inl number)) = number.some
lexeme_some bytes (inr (inr (inl (sign, is)))) = holding bytes (ap holds_some is ∙ sign_holds sign)
lexeme_some bytes (inr (inr (inr text))) = omega (arith, text.some)

token_some : {F : ℕ} {kind : TokenKind} (bytes : List ℕ) (n : ℕ) → IsToken F kind bytes n → 0 < n
token_some bytes n t = omega (arith, length-take-le n bytes t.whole.within, lexeme_some (take n bytes) t.whole.written)

covers_few : (F : ℕ) (text : List ℕ) (from to : ℕ) (ts : List Token) → CoversFrom F text from ts to → from + length ts ≤ to
covers_few F text from to [] c = omega (arith, gap_up c)
covers_few F text from to (t ∷ ts) c =
    omega (arith, gap_up c.0, token_some (drop t.at text) t.len c.1.spelled, covers_few F text (t.at + t.len) to ts c.2)

pub stand_few : (F : ℕ) (text : List ℕ) (ts : List Token) → StandsFor F ts text → length ts ≤ length text
stand_few F text ts h = omega (arith, covers_few F text 0 (length text) ts h)

-- Import names are ASCII.

are_printable : {lexemes : List Lexeme} {i j : ℕ} {is : List Import} → AreImports lexemes i is j → ArePrintable is
are_printable (no_import lacks e) = All-nil (λ one. All IsPrintable one.name)
are_printable (imports sees text printable semicolon more) = All-cons (λ one. All IsPrintable one.name) _ _ printable (are_printable more)

pub module_printable : {lexemes : List Lexeme} {limit : Option ℕ} {m : Module} → IsModule lexemes limit m → ArePrintable m.imports
module_printable (module_of i j begins are others) = are_printable are

ascii : (bytes : List ℕ) → All IsPrintable bytes → (i : ℕ) → slice_index bytes i < 128
ascii [] h i = omega arith
ascii (b ∷ bytes) h zero = let p = h 0 0 (omega arith) in omega (arith, p.1)
ascii (b ∷ bytes) h (suc i) = ascii bytes (λ k d l. h (suc k) d (omega (arith, l))) i

pub printable_text : (bytes : List ℕ) → All IsPrintable bytes → IsUtf8 bytes
printable_text bytes h = IsUtf8-from_ascii bytes (ascii bytes h)
