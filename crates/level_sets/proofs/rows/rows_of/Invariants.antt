use Rattle.level_sets.proofs.Passing.{HaveSome}
use Rattle.level_sets.proofs.rows.rows_of.Given as goal

abbrev pub invariant-loop-function : goal.invariant-loop-function
invariant-loop-function l = HaveSome l.functions l.function-index l.rows
