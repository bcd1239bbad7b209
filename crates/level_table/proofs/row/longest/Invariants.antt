use Rattle.std.proofs.Common.{◌≤◌, ℕ, drop}
use Rattle.level_table.specs.Known.{AllShort}
use Rattle.level_table.proofs.row.longest.Given as goal

abbrev pub invariant-loop-row : goal.invariant-loop-row
invariant-loop-row l = (m : ℕ) → l.most ≤ m → AllShort m (drop l.row-index l.rows) → AllShort m l.rows
