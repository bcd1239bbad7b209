-- Goals of `rounding::rounding_keeps_bounds`.
use Rattle.fix_num.proofs.Bounds.{bounds_law}
use Rattle.fix_num.proofs.rounding.rounding_keeps_bounds.Goals as goal

pub returns : goal.returns
returns c = bounds_law
