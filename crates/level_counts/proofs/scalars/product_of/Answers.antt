use Rattle.std.proofs.Common.{arith}
use Rattle.level_counts.proofs.Sums.{multiplies_all, product_more, product_done}
use Rattle.level_counts.proofs.scalars.product_of.Goals as goal

pub loop-size-init : goal.loop-size-init
loop-size-init c = multiplies_all _

pub loop-size-preserved : goal.loop-size-preserved
loop-size-preserved c = product_more c.args.sizes.now c.loop-size.size-index _ _ _ (omega arith) c.loop-size.invariant c.times-product.ensures

pub returns : goal.returns
returns c = product_done c.args.sizes.now c.loop-size.size-index _ _ (omega arith) c.loop-size.invariant
