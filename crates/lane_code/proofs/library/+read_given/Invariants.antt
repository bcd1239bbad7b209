use Rattle.std.specs.Prelude.{length}
use Rattle.lane_code.proofs.library.+read_given.Given as goal

abbrev pub decreases-read_given : goal.decreases-read_given
decreases-read_given l = length l.params.now
