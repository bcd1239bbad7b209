use Rattle.std.proofs.Common.{drop}
use Rattle.ctl_types.specs.Shapes.{product}
use Rattle.level_counts.proofs.Sums.{Multiplies}
use Rattle.level_counts.proofs.scalars.product_of.Given as goal

abbrev pub invariant-loop-size : goal.invariant-loop-size
invariant-loop-size l = Multiplies l.product (product (drop l.size-index l.sizes)) (product l.sizes)
