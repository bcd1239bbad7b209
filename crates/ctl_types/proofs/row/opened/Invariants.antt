use Rattle.std.proofs.Common.{◌≡◌, replicate}
use Rattle.ctl_types.specs.declared.shape.Extent.TheVariants.{Unstated}
use Rattle.ctl_types.specs.Shapes.{arrays}
use Rattle.ctl_types.proofs.row.opened.Given as goal

abbrev pub invariant-loop : goal.invariant-loop
invariant-loop l = l.whole ≡ arrays (replicate l.counter Unstated) l.fn.inner
