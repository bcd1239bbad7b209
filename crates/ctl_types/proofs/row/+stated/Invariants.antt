use Rattle.std.proofs.Common.{length}
use Rattle.ctl_types.proofs.row.+stated.Given as goal

abbrev pub decreases-stated : goal.decreases-stated
decreases-stated l = length l.sizes.now
