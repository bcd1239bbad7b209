use Rattle.std.proofs.Common.{◌-◌, ◌≤◌, length}
use Rattle.level_rules.specs.Rows.{tells}
use Rattle.level_sets.proofs.Passing.{HasPart}
use Rattle.level_sets.proofs.rows.function_rows.Given as goal

abbrev pub invariant-each : goal.invariant-each
invariant-each l = record {
  part : HasPart (tells l.rows) l.function l.parameter l.own;
  within : l.parameter ≤ length l.function.parameters;
}

abbrev pub decreases-each : goal.decreases-each
decreases-each l = length l.function.parameters - l.parameter
