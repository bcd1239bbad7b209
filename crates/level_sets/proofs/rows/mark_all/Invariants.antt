use Rattle.std.proofs.Common.{take}
use Rattle.level_sets.specs.Closing.{Marked}
use Rattle.level_sets.proofs.rows.mark_all.Given as goal

abbrev pub invariant-loop-holder : goal.invariant-loop-holder
invariant-loop-holder l = Marked (take l.holder-index l.puts) l.fn.row.items l.row.items l.changed
