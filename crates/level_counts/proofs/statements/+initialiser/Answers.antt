use Rattle.std.proofs.Common.{arith}
use Rattle.level_counts.specs.Parts.{initialiser_parts}
use Rattle.level_counts.proofs.Sums.{adds_all, list_more, list_done}
use Rattle.level_counts.proofs.statements.+initialiser.Goals as goal

pub inner_parts-loop-initialiser-init : goal.inner_parts-loop-initialiser-init
inner_parts-loop-initialiser-init t c = adds_all _

pub inner_parts-loop-initialiser-preserved : goal.inner_parts-loop-initialiser-preserved
inner_parts-loop-initialiser-preserved t c = list_more (initialiser_parts c.args.definitions.now c.args.variables.now) c.args.initialisers.now c.loop-initialiser.initialiser-index c.initialiser-item.result _ _ _ _ (omega arith) c.initialiser-item.is c.loop-initialiser.invariant c.in_ok-more.ensures c.and-parts.ensures

pub inner_parts-returns : goal.inner_parts-returns
inner_parts-returns t c = list_done (initialiser_parts c.args.definitions.now c.args.variables.now) c.args.initialisers.now c.loop-initialiser.initialiser-index _ _ (omega arith) c.loop-initialiser.invariant
