use Rattle.std.proofs.Common.{◌≡◌, ◌++◌, drop, map}
use Rattle.level_rules.specs.Rows.{tells}
use Rattle.level_table.specs.Told.{told}
use Rattle.level_table.proofs.told.all_told.Given as goal

abbrev pub invariant-loop-instance : goal.invariant-loop-instance
invariant-loop-instance l = l.all ++ map (told l.known.functions (tells l.known.rows) l.table) (drop l.instance-index l.table) ≡ map (told l.known.functions (tells l.known.rows) l.table) l.table
