use Rattle.std.proofs.Common.{◌≡◌, [], drop}
use Rattle.ctl_types.specs.Shapes.{base_scalars}
use Rattle.ctl_check_size.specs.Sizes.{sizes_checked, extents_checked}
use Rattle.ctl_check_size.proofs.sizes.check_extents.Given as goal

abbrev pub invariant-loop-size : goal.invariant-loop-size
invariant-loop-size l = sizes_checked l.scope l.definitions l.may_be_open (drop l.size-index l.sizes) l.before ≡ extents_checked l.scope l.definitions l.may_be_open l.fn.base l.sizes
