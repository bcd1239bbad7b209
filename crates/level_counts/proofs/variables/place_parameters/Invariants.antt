use Rattle.std.proofs.Common.{◌≡◌, ◌≤◌, ◌++◌, drop, length}
use Rattle.level_counts.specs.Shapes.{parameter_table}
use Rattle.level_counts.proofs.variables.place_parameters.Given as goal

abbrev pub invariant-loop-parameter : goal.invariant-loop-parameter
invariant-loop-parameter l = record {
  within : l.number ≤ length l.opens;
  table : l.table ++ parameter_table l.opens l.number (drop l.parameter-index l.parameters) ≡ parameter_table l.opens 0 l.parameters;
}
