use Rattle.std.proofs.Common.{arith}
use Rattle.level_counts.specs.Parts.{item_parts}
use Rattle.level_counts.proofs.Sums.{adds_all, list_more, list_done}
use Rattle.level_counts.proofs.statements.items_parts.Goals as goal

pub loop-item-init : goal.loop-item-init
loop-item-init c = adds_all _

pub loop-item-preserved : goal.loop-item-preserved
loop-item-preserved c = list_more (item_parts c.args.definitions.now c.args.variables.now) c.args.items.now c.loop-item.item-index c.item-item.result _ _ _ _ (omega arith) c.item-item.is c.loop-item.invariant c.in_ok-more.ensures c.and-parts.ensures

pub returns : goal.returns
returns c = list_done (item_parts c.args.definitions.now c.args.variables.now) c.args.items.now c.loop-item.item-index _ _ (omega arith) c.loop-item.invariant
