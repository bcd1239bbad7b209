use Rattle.std.proofs.Common.{length}
use Rattle.ctl_check_init.proofs.assignments.+same_sizes.Given as goal

abbrev pub decreases-same_sizes : goal.decreases-same_sizes
decreases-same_sizes l = length l.sizes.now
