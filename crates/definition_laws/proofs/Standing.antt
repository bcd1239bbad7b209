-- What holds of the scope of a statement, beside the definitions so far.
use Rattle.std.specs.Prelude.{◌≡◌, ℕ, ◌<◌, List, [], ◌∷◌, length, get_or, Bool, true}
use Rattle.ctl_types.specs.Definitions.{Defined}
use Rattle.ctl_types.specs.Scoping.{IsDefined, tokens_of}
use Rattle.ctl_scope.specs.Scope.{ScopeForm, IsScope}
use Rattle.ctl_scope.specs.Beside.{Beside, scene}
use Rattle.ctl_check_laws.specs.Accepted.{variables_stand}

-- The scope of a form inside a function: its meanings are there, it numbers the definitions, which keep the rules; the unit
-- has n tokens; a block is around, and each variable that is visible has a shape that stands.
pub record Standing (d : Defined) (n : ℕ) (s : ScopeForm) : Type 0 where
  pub scope : IsScope s
  pub beside : Beside s d
  pub unit : get_or (tokens_of d.units) s.unit 0 ≡ n
  pub sees : s.sees_variables ≡ true
  pub inside : 0 < length s.blocks
  pub variables : variables_stand (scene s d) s.variables ≡ true
