use Rattle.level_sets.proofs.Closing.{missing, whole}
use Rattle.level_sets.proofs.Passing.{Kept}
use Rattle.level_sets.proofs.rows.close.Given as goal

abbrev pub invariant-each : goal.invariant-each
invariant-each l = Kept l.rows l.body l.control l.fn.row.items l.row.items

abbrev pub decreases-each : goal.decreases-each
decreases-each l = missing (whole l.rows l.body) l.row.items
