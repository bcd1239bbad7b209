use Rattle.std.proofs.Common.{map, drop}
use Rattle.ctl_types.specs.Shapes.{struct_counts}
use Rattle.level_counts.specs.Told.{total}
use Rattle.level_counts.specs.Cells.{slot_scalars}
use Rattle.level_counts.proofs.Sums.{Adds}
use Rattle.level_counts.proofs.cells.all_scalars.Given as goal

abbrev pub invariant-loop-slot : goal.invariant-loop-slot
invariant-loop-slot l = Adds l.scalars (total (map (slot_scalars (struct_counts l.definitions.structs)) (drop l.slot-index l.table))) (total (map (slot_scalars (struct_counts l.definitions.structs)) l.table))
