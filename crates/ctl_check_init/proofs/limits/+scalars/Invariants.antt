use Rattle.std.proofs.Common.{length}
use Rattle.ctl_check_init.proofs.limits.+scalars.Given as goal

abbrev pub decreases-scalars : goal.decreases-scalars
decreases-scalars l = length l.sizes.now
