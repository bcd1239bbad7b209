use Rattle.std.proofs.Common.{length}
use Rattle.ctl_check_init.proofs.lists.+sized.Given as goal

abbrev pub decreases-sized : goal.decreases-sized
decreases-sized l = length l.sizes.now
