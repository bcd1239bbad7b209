use Rattle.std.proofs.Common.{length}
use Rattle.ctl_check_function.proofs.entry.+entry_token.Given as goal

abbrev pub decreases-entry_token : goal.decreases-entry_token
decreases-entry_token l = length l.units.now
