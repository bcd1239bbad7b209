use Rattle.std.proofs.Common.{length}
use Rattle.eval_values.proofs.zeros.+zero_of.Given as goal

abbrev pub decreases-zero_of : goal.decreases-zero_of
decreases-zero_of l = length l.sizes.now
