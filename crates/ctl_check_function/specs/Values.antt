-- The values of constants outside functions and of defaults, which are evaluated when the program is checked.
use Rattle.std.specs.Prelude.{Result, Ok, Err}
use Rattle.ctl_base.specs.declared.limits.TheConstants.{TURNS}
use Rattle.ctl_types.specs.declared.statement.Initialiser.{Initialiser}
use Rattle.ctl_types.specs.declared.value.Value.{Value}
use Rattle.ctl_types.specs.Definitions.{Defined}
use Rattle.ctl_types.specs.Cost.{uncounted}
use Rattle.ctl_types.specs.Run.{Outcome, initial_value}
use Rattle.ctl_scope.specs.declared.kind.CheckKind.{CheckKind}
use Rattle.ctl_scope.specs.declared.kind.CheckKind.TheVariants.{ConstTrap}

-- the run of an initialiser, which sees the definitions so far and no variables
abbrev pub first_outcome : Defined → Initialiser → Outcome (Unit {0}) uncounted Value
first_outcome d i = initial_value (Unit {0}) uncounted d i TURNS tt

abbrev pub outcome_value : Outcome (Unit {0}) uncounted Value → Result Value CheckKind
outcome_value (Ok got) = Ok got.value
outcome_value (Err fault) = Err ConstTrap

-- the value of an initialiser, unless its run traps
abbrev pub first_value : Defined → Initialiser → Result Value CheckKind
first_value d i = outcome_value (first_outcome d i)
