use Rattle.std.proofs.Common.{◌≡◌, ◌-◌, ◌++◌}
use Rattle.level_rules.specs.Rows.{in_row}
use Rattle.level_table.specs.Told.{variables_from}
use Rattle.level_table.proofs.told.variables_in.Given as goal

abbrev pub invariant-loop-x : goal.invariant-loop-x
invariant-loop-x l = l.variables ++ variables_from (in_row l.row) l.x (l.count - l.x) ≡ variables_from (in_row l.row) 0 l.count
