use Rattle.std.proofs.Common.{arith}
use Rattle.ctl_types.specs.Shapes.{struct_counts}
use Rattle.level_counts.specs.Cells.{slot_scalars}
use Rattle.level_counts.proofs.Sums.{adds_all, list_more, list_done}
use Rattle.level_counts.proofs.cells.all_scalars.Goals as goal

pub loop-slot-init : goal.loop-slot-init
loop-slot-init c = adds_all _

pub loop-slot-preserved : goal.loop-slot-preserved
loop-slot-preserved c = list_more (slot_scalars (struct_counts c.args.definitions.now.structs)) c.args.table.now c.loop-slot.slot-index c.slot-item.result _ _ _ _ (omega arith) c.slot-item.is c.loop-slot.invariant c.slot_scalars.ensures c.and-scalars.ensures

pub returns : goal.returns
returns c = list_done (slot_scalars (struct_counts c.args.definitions.now.structs)) c.args.table.now c.loop-slot.slot-index _ _ (omega arith) c.loop-slot.invariant
