use Rattle.std.proofs.Common.{length}
use Rattle.ctl_scope.proofs.look_up.+in_spaces.Given as goal

abbrev pub decreases-in_spaces : goal.decreases-in_spaces
decreases-in_spaces l = length l.spaces.now
