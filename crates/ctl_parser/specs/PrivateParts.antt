-- Parts of forms, as the parser reads them.
use Rattle.std.specs.Prelude.{◌≡◌, ◌≢◌, ℕ, ◌+◌, List, [], ◌∷◌, Bool, true, false, Option, Some, Result, Ok, Err}
use Rattle.ctl_base.specs.declared.limits.TheConstants.{NESTING}
use Rattle.ctl_tree.specs.declared.sign.Sign.TheVariants.{OpenSquare, OpenCurly, Dot, Semicolon, Assign, ColonColon}
use Rattle.ctl_tree.specs.declared.token.TokenKind.{TokenKind}
use Rattle.ctl_tree.specs.declared.token.TokenKind.TheVariants.{Name, Sign as SignKind}
use Rattle.ctl_tree.specs.declared.statement.Arm.{Arm}
use Rattle.ctl_tree.specs.declared.statement.If.{If, roll-If}
use Rattle.ctl_tree.specs.declared.statement.Statement.{Statement}
use Rattle.ctl_tree.specs.declared.statement.ForStart.{ForStart}
use Rattle.ctl_tree.specs.declared.statement.ForStart.TheVariants.{Variable, Assignment}
use Rattle.ctl_tree.specs.Lexemes.{Lexeme, SeesSign}
use Rattle.ctl_tree.specs.Declarations.{IsVariable}
use Rattle.ctl_tree.specs.Statements.{IsAssignment, IsArm, AreElses}
use Rattle.grammar_machine.specs.Front.{begins_word_shape}
use Rattle.grammar_machine.specs.Machine.{Symbol, TheSign, TheName, Steps, Expr, Move, Expands, Stops, variable_end}
use Rattle.ctl_parser_expr.specs.declared.fault.Fault.{Fault}
use Rattle.ctl_parser_expr.specs.Parses.{End, At, In}

-- a list of at least one: the first, and the others up to where the list is closed
pub data Several {A : Type 0} (First : ℕ → A → ℕ → Type 0) (More : ℕ → List A → ℕ → Type 0) : ℕ → List A → ℕ → Type 0 where
  several : {i j : ℕ} {first : A} {more : List A} (k : ℕ) → First i first k → More k more j → Several First More i (first ∷ more) j

-- all of an `if` after its keyword, which stands at the place
pub data AreArms (lexemes : List Lexeme) : ℕ → ℕ → If → ℕ → Type 0 where
  are_arms : {n i j : ℕ} {first : Arm} {arms : List Arm} {otherwise : Option Statement} (k : ℕ) → IsArm lexemes (Some NESTING) n (i + 1) first k
      → AreElses lexemes (Some NESTING) n k arms otherwise j → AreArms lexemes n i (roll-If (record { arms = first ∷ arms; otherwise = otherwise; token = i })) j

-- a token that goes on with a place, or assigns to it
abbrev pub goes_on_as_place : Option TokenKind → Bool
goes_on_as_place (Some (SignKind OpenSquare)) = true
goes_on_as_place (Some (SignKind Dot)) = true
goes_on_as_place (Some (SignKind Assign)) = true
goes_on_as_place _ = false

-- the move after the name of a variable's shape or of a place: by the next token one or the other goes on
abbrev pub after_name : ℕ → ℕ → Option TokenKind → Move
after_name n inner (Some Name) = Expands 0 (TheName ∷ variable_end n inner)
after_name n inner (Some (SignKind OpenSquare)) = Expands 0 (Steps n ∷ TheSign Assign ∷ Expr inner ∷ TheSign Semicolon ∷ [])
after_name n inner (Some (SignKind Dot)) = Expands 0 (Steps n ∷ TheSign Assign ∷ Expr inner ∷ TheSign Semicolon ∷ [])
after_name n inner (Some (SignKind Assign)) = Expands 0 (Steps n ∷ TheSign Assign ∷ Expr inner ∷ TheSign Semicolon ∷ [])
after_name n inner _ = Stops

-- variable | assign ";"
abbrev pub IsDeclaredOrAssigned : List Lexeme → Option ℕ → ℕ → ℕ → ℕ → ForStart → ℕ → Type 0
IsDeclaredOrAssigned lexemes limit n inner i (Variable variable) j = IsVariable lexemes limit n inner i variable j
IsDeclaredOrAssigned lexemes limit n inner i (Assignment assignment) j = (k : ℕ) × IsAssignment lexemes limit n inner i assignment k × SeesSign lexemes k Semicolon × (j ≡ k + 1)

-- a token with which no block, empty statement, name or shape begins
abbrev pub IsOther : Option TokenKind → Type 0
IsOther k = (begins_word_shape k ≡ false) × (k ≢ Some Name) × (k ≢ Some (SignKind ColonColon)) × (k ≢ Some (SignKind OpenCurly)) × (k ≢ Some (SignKind Semicolon))

-- the end that an answer without a form tells
abbrev pub end_at : List Symbol → Result ℕ Fault → End
end_at below (Ok j) = At below j
end_at below (Err fault) = In fault
