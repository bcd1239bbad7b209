use Rattle.std.proofs.Common.{◌≡◌, drop}
use Rattle.level_rules.specs.Rows.{tells}
use Rattle.level_table.specs.Told.{first_fault}
use Rattle.level_table.proofs.faults.first_fault.Given as goal

abbrev pub invariant-loop-instance : goal.invariant-loop-instance
invariant-loop-instance l = first_fault l.known.functions (tells l.known.rows) (drop l.instance-index l.table) ≡ first_fault l.known.functions (tells l.known.rows) l.table
