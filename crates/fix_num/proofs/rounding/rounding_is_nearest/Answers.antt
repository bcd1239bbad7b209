-- Goals of `rounding::rounding_is_nearest`.
use Rattle.fix_num.proofs.Bounds.{nearest_law}
use Rattle.fix_num.proofs.rounding.rounding_is_nearest.Goals as goal

pub returns : goal.returns
returns c = nearest_law
