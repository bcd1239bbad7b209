-- Goals of `ranges::arithmetic_stays_in_range`.
use Rattle.fix_num.proofs.InRange.{arithmetic_law}
use Rattle.fix_num.proofs.ranges.arithmetic_stays_in_range.Goals as goal

pub returns : goal.returns
returns c = arithmetic_law
