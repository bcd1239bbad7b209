use Rattle.fix_elem.proofs.Growth.{power_grows}
use Rattle.fix_elem.proofs.laws.power_grows.Goals as goal

pub returns : goal.returns
returns c = power_grows c.root_is_floor.ensures
