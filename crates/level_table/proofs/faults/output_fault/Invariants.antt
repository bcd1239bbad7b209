use Rattle.std.proofs.Common.{◌≡◌, drop}
use Rattle.level_rules.specs.Levels.{output_faults}
use Rattle.level_rules.specs.Rows.{in_row}
use Rattle.level_table.specs.Told.{first_of}
use Rattle.level_table.proofs.faults.output_fault.Given as goal

abbrev pub invariant-loop-k : goal.invariant-loop-k
invariant-loop-k l = first_of (output_faults (in_row l.row) l.k (drop l.k l.parameters)) ≡ first_of (output_faults (in_row l.row) 0 l.parameters)
