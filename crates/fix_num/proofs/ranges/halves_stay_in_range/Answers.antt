-- Goals of `ranges::halves_stay_in_range`.
use Rattle.fix_num.proofs.InRange.{halves_law}
use Rattle.fix_num.proofs.ranges.halves_stay_in_range.Goals as goal

pub returns : goal.returns
returns c = halves_law
