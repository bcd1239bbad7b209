-- The two counts of a run: the plain run has none, the costed run counts from 0 what the tree's run does. Nothing else
-- differs between them.
use Rattle.std.specs.Prelude.{ℕ, ◌+◌, List, Option, Some, None, Result, Ok, Err}
use Rattle.ctl_types.specs.declared.value.Value.{Value}
use Rattle.ctl_types.specs.Definitions.{Defined}
use Rattle.ctl_types.specs.Run.{Fault, Ended, call_run}

-- nothing is counted
abbrev pub uncounted : ℕ → Unit {0} → Unit {0}
uncounted n spent = tt

-- all is counted
abbrev pub counted : ℕ → ℕ → ℕ
counted n spent = spent + n

-- the run of an entry from the values of its inputs and its turns
abbrev pub plain_run : Defined → ℕ → List Value → ℕ → Result (Ended (Unit {0}) uncounted) Fault
plain_run d entry inputs turns = call_run (Unit {0}) uncounted d entry inputs turns tt

-- the same run with what it costs
abbrev pub costed_run : Defined → ℕ → List Value → ℕ → Result (Ended ℕ counted) Fault
costed_run d entry inputs turns = call_run ℕ counted d entry inputs turns 0

-- what a run has cost that ends in values
abbrev pub cost_of : Result (Ended ℕ counted) Fault → Option ℕ
cost_of (Ok ended) = Some ended.spent
cost_of (Err fault) = None

-- the tree cost of the run of an entry, where it ends in values
abbrev pub tree_cost : Defined → ℕ → List Value → ℕ → Option ℕ
tree_cost d entry inputs turns = cost_of (costed_run d entry inputs turns)
