use Rattle.lane_code.proofs.Joins.{one_meaning}
use Rattle.lane_code.proofs.laws.one_meaning.Goals as goal

pub returns : goal.returns
returns c = one_meaning
