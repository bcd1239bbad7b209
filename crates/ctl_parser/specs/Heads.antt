-- What stands before the statement that a test or a `for` governs.
use Rattle.std.specs.Prelude.{◌≡◌, ℕ, ◌+◌, List, Some}
use Rattle.ctl_base.specs.declared.limits.TheConstants.{NESTING}
use Rattle.ctl_tree.specs.declared.sign.Sign.{Sign}
use Rattle.ctl_tree.specs.declared.sign.Sign.TheVariants.{OpenRound, CloseRound, Semicolon}
use Rattle.ctl_tree.specs.declared.expression.Expr.{Expr}
use Rattle.ctl_tree.specs.declared.statement.Assignment.{Assignment}
use Rattle.ctl_tree.specs.declared.statement.ForStart.{ForStart}
use Rattle.ctl_tree.specs.Lexemes.{Lexeme, SeesSign}
use Rattle.ctl_tree.specs.Expressions.{IsExpr}
use Rattle.ctl_tree.specs.Statements.{IsAssignment, IsForStart}
use Rattle.ctl_parser.specs.declared.heads.ForHead.{ForHead}
use Rattle.ctl_parser.specs.declared.heads.ForRest.{ForRest}

-- expr, and the sign after it
pub data IsExprBefore (lexemes : List Lexeme) (sign : Sign) : ℕ → ℕ → Expr → ℕ → Type 0 where
  expr_before : {n i j : ℕ} {test : Expr} (k : ℕ) → IsExpr lexemes (Some NESTING) n i test k → SeesSign lexemes k sign → j ≡ k + 1 → IsExprBefore lexemes sign n i test j

-- expr ";" assign ")"
pub data IsForRest (lexemes : List Lexeme) : ℕ → ℕ → ForRest → ℕ → Type 0 where
  for_rest : {n i j : ℕ} {test : Expr} {next : Assignment} (k m : ℕ) → IsExprBefore lexemes Semicolon (n + 1) i test k → IsAssignment lexemes (Some NESTING) n (n + 1) k next m
      → SeesSign lexemes m CloseRound → j ≡ m + 1 → IsForRest lexemes n i (record { test = test; next = next }) j

-- "(" ( variable | assign ";" ) expr ";" assign ")"
pub data IsForHead (lexemes : List Lexeme) : ℕ → ℕ → ForHead → ℕ → Type 0 where
  for_head : {n i j : ℕ} {start : ForStart} {test : Expr} {next : Assignment} (k : ℕ) → SeesSign lexemes i OpenRound → IsForStart lexemes (Some NESTING) n (i + 1) start k
      → IsForRest lexemes n k (record { test = test; next = next }) j → IsForHead lexemes n i (record { start = start; test = test; next = next }) j
