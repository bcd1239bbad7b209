use Rattle.fix_elem.proofs.FloorLog.{floor_log2_law}
use Rattle.fix_elem.proofs.laws.floor_log2_is_floor.Goals as goal

pub returns : goal.returns
returns c = floor_log2_law
