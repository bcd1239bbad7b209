use Rattle.std.proofs.Common.{◌≡◌, ◌+◌, ◌-◌, ℕ, length, get_or, false}
use Rattle.level_sets.proofs.rows.mark_at.Given as goal

abbrev pub invariant-each : goal.invariant-each
invariant-each l = (k : ℕ) → get_or l.row.items k false ≡ get_or l.fn.row.items k false

abbrev pub decreases-each : goal.decreases-each
decreases-each l = l.mark + 1 - length l.row.items
