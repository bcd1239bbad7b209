-- Goals of `ranges::codes_stay_in_range`.
use Rattle.fix_num.proofs.InRange.{codes_law}
use Rattle.fix_num.proofs.ranges.codes_stay_in_range.Goals as goal

pub returns : goal.returns
returns c = codes_law
