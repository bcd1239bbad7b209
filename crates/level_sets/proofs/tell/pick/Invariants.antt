use Rattle.std.proofs.Common.{◌≡◌, ◌-◌, drop, length}
use Rattle.level_sets.specs.Marks.{pick_mark}
use Rattle.level_sets.proofs.tell.pick.Given as goal

abbrev pub invariant-each : goal.invariant-each
invariant-each l = pick_mark (drop l.i l.bits) (drop l.i l.rows) l.mark ≡ pick_mark l.bits l.rows l.mark

abbrev pub decreases-each : goal.decreases-each
decreases-each l = length l.bits - l.i
