use Rattle.std.proofs.Common.{◌≡◌, ◌++◌, drop, map}
use Rattle.level_rules.specs.Reached.{number_in}
use Rattle.level_table.proofs.told.called.Given as goal

abbrev pub invariant-loop-instance : goal.invariant-loop-instance
invariant-loop-instance l = l.numbers ++ map (number_in l.table) (drop l.instance-index l.calls) ≡ map (number_in l.table) l.calls
