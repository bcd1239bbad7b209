-- What the checker accepts as the body of a function is well typed.
use Rattle.std.specs.Prelude.{◌≡◌, ℕ, List, [], ◌++◌, replicate, length, Option, None, Ok, Bool, true}
use Rattle.ctl_tree.specs.declared.statement.Block.{Block}
use Rattle.ctl_tree.specs.OwnTokens.{Below, block_tokens}
use Rattle.ctl_types.specs.declared.shape.Shape.{Shape}
use Rattle.ctl_types.specs.declared.statement.TypedStatement.{out-TypedStatement}
use Rattle.ctl_types.specs.Typing.{Typed, Variables, Scene, result_type}
use Rattle.ctl_types.specs.Definitions.{Defined}
use Rattle.ctl_types.specs.Scoping.{IsDefined, result_stands, scope_statement, is_block}
use Rattle.ctl_scope.specs.Scope.{ScopeForm}
use Rattle.ctl_scope.specs.Beside.{scene}
use Rattle.ctl_check_statement.specs.declared.stated.Stated.{Stated}
use Rattle.ctl_check_statement.specs.Leading.{Led}
use Rattle.ctl_check_statement.specs.Returning.{block_surely_returns}
use Rattle.ctl_check_statement.specs.Statements.{block_stated}
use Rattle.definition_laws.proofs.Standing.{Standing}

-- A block leaves the variables that were there, and more that are hidden. From as many variables more that are not declared yet
-- its typed form is well typed, declares each of them once, and returns and calls as the checker says.
pub record BlockIsWell (x : Scene) (result : Typed) (s : ScopeForm) (returns : Bool) (o : Led Stated) : Type 0 where
  pub more : Variables
  pub variables : o.scope.variables ≡ s.variables ++ more
  pub used : List ℕ
  pub declared : length used ≡ length more
  pub runs : scope_statement x result o.made.form (record { variables = s.variables ++ replicate (length more) None; used = [] })
      ≡ record { well = true; after = record { variables = o.scope.variables; used = used }; returns = returns; depth = o.made.depth }

-- what is accepted as the body of a function whose result stands, where n tokens are around
abbrev pub BlocksAreWell : Type 0
BlocksAreWell =
    (s : ScopeForm) (d : Defined) (n : ℕ) (result : Option Shape) (b : Block) (o : Led Stated) → IsDefined d → Standing d n s → result_stands (scene s d) result ≡ true
    → Below n (block_tokens b) → block_stated d result b s ≡ Ok o → BlockIsWell (scene s d) (result_type result) s (block_surely_returns b) o
