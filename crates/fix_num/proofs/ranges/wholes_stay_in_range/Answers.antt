-- Goals of `ranges::wholes_stay_in_range`.
use Rattle.fix_num.proofs.InRange.{wholes_law}
use Rattle.fix_num.proofs.ranges.wholes_stay_in_range.Goals as goal

pub returns : goal.returns
returns c = wholes_law
