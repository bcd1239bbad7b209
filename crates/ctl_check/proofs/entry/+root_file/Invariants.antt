use Rattle.std.proofs.Common.{length}
use Rattle.ctl_check.proofs.entry.+root_file.Given as goal

abbrev pub decreases-root_file : goal.decreases-root_file
decreases-root_file l = length l.units.now
