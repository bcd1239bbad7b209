-- Goals of `rounding::floor_is_greatest`.
use Rattle.fix_num.proofs.Bounds.{floor_law}
use Rattle.fix_num.proofs.rounding.floor_is_greatest.Goals as goal

pub returns : goal.returns
returns c = floor_law
