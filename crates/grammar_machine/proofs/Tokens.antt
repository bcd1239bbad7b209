-- What a test of a token tells, and how a lookahead fails.
use Rattle.std.proofs.Common.{◌≡◌, ℕ, zero, suc, ◌+◌, Bool, true, false, ◌&&◌, List, [], ◌∷◌, ◌++◌, sym, ap, ◌∙◌, refl, Option, Some, All, nat_le, le_of_suc-le-suc, arith}
use Rattle.std.proofs.lemmas.Bool.{true≢false, false≢true, and_parts, leb-true}
use Rattle.ctl_tree.specs.declared.sign.Sign.{Sign}
use Rattle.ctl_tree.specs.declared.sign.Sign.TheVariants.{OpenRound, CloseRound, CloseSquare, OpenCurly, CloseCurly, Semicolon, Assign}
use Rattle.ctl_tree.specs.declared.token.TokenKind.{TokenKind}
use Rattle.ctl_tree.specs.declared.token.TokenKind.TheVariants.{Sign as SignKind}
use Rattle.ctl_tree.specs.Lexemes.{Lexeme, Within}
use Rattle.ctl_tree.specs.Modules.{IsPrintable}
use Rattle.grammar_machine.specs.Front.{is_sign, sees, all_printable}
use Rattle.grammar_machine.specs.Machine.{Symbol, Move, first_move}
use Rattle.grammar_machine.specs.Machine.Move.{Reads, Expands, Stops}
use Rattle.grammar_machine.proofs.Order.{is_ordered}
use Rattle.grammar_machine.proofs.Meaning.{Means, MeansFrom, Sound, fits}

-- a token at which a test fails is not one at which it passes
pub lacks : {a b c : Option TokenKind} (f : Option TokenKind → Bool) → a ≡ b → f b ≡ false → f c ≡ true → a ≡ c → ⊥
lacks f ab fails passes ac = true≢false (sym passes ∙ ap f (sym ac ∙ ab) ∙ fails)

-- the move reads the token
abbrev pub is_read : Move → Bool
is_read (Reads m symbols) = true
is_read (Expands m symbols) = false
is_read Stops = false

pub first_unread : (b : Bool) (m : ℕ) (symbols : List Symbol) → is_read (first_move b m symbols) ≡ false
first_unread true m symbols = refl
first_unread false m symbols = refl

pub sign_same : (a b : Sign) → is_sign a b ≡ true → a ≡ b
sign_same OpenRound OpenRound e = refl
sign_same CloseRound CloseRound e = refl
sign_same CloseSquare CloseSquare e = refl
sign_same OpenCurly OpenCurly e = refl
sign_same CloseCurly CloseCurly e = refl
sign_same Semicolon Semicolon e = refl
sign_same Assign Assign e = refl
sign_same _ _ e = absurd (false≢true e)

pub sees_sign : (sign : Sign) (k : Option TokenKind) → sees sign k ≡ true → k ≡ Some (SignKind sign)
sees_sign sign (Some (SignKind other)) e = ap (λ s. Some (SignKind s)) (sym (sign_same sign other e))
sees_sign sign _ e = absurd (false≢true e)

pub printable_all : (bytes : List ℕ) → all_printable bytes ≡ true → All IsPrintable bytes
printable_all [] e k d h = omega arith
printable_all (b ∷ bytes) e k d h = printable_each b bytes (and_parts _ _ e).0 (printable_all bytes (and_parts _ _ e).1) k d h
  where
    printable_each : (b : ℕ) (bytes : List ℕ) → (nat_le 32 b && nat_le b 126) ≡ true → All IsPrintable bytes → All IsPrintable (b ∷ bytes)
    printable_each b bytes e all zero d h = (leb-true 32 b (and_parts _ _ e).0, leb-true b 126 (and_parts _ _ e).1)
    printable_each b bytes e all (suc k) d h = all k d (le_of_suc-le-suc h)

-- three places after a place
pub after_three : (i : ℕ) → i + 1 + 1 + 1 ≡ i + 3
after_three i = omega arith

-- the first form of some that may be missing is looked for: what it stands for is right whether or not it is there
pub sound_first : (T : List Lexeme) (L : Option ℕ) (i m : ℕ) (x : Symbol) (symbols : List Symbol) (b : Bool) → (Within L m → (j : ℕ) → MeansFrom T L symbols i j → Means T L x i j)
    → ((below : List Symbol) → fits (x ∷ below) ≡ true → fits (symbols ++ below) ≡ true) → is_ordered x (Expands m symbols) ≡ true → Sound T L i x (first_move b m symbols)
sound_first T L i m x symbols true means kept ordered = (means, kept, ordered)
sound_first T L i m x symbols false means kept ordered = tt
