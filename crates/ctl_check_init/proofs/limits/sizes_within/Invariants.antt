use Rattle.std.proofs.Common.{◌≡◌, drop}
use Rattle.ctl_check_init.specs.Initialisers.{sizes_within}
use Rattle.ctl_check_init.proofs.limits.sizes_within.Given as goal

abbrev pub invariant-loop-size : goal.invariant-loop-size
invariant-loop-size l = sizes_within (drop l.size-index l.sizes) ≡ sizes_within l.sizes
