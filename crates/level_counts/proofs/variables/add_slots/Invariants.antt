use Rattle.std.proofs.Common.{◌≡◌, ◌++◌, replicate, None}
use Rattle.level_counts.proofs.variables.add_slots.Given as goal

abbrev pub invariant-loop : goal.invariant-loop
invariant-loop l = l.table ≡ l.fn.table ++ replicate l.counter None
