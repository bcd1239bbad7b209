use Rattle.std.specs.Prelude.{length}
use Rattle.lane_code.proofs.row_words.+arguments_inside.Given as goal

abbrev pub decreases-arguments_inside : goal.decreases-arguments_inside
decreases-arguments_inside l = length l.params.now
