use Rattle.std.proofs.Common.{ap}
use Rattle.lane_code.specs.LaneMeaning.{LaneRun}
use Rattle.lane_code.proofs.Joins.{lists_join}
use Rattle.lane_code.proofs.laws.lists_join.Goals as goal

pub returns : goal.returns
returns c = λ blocks a b l. ap (λ (r : LaneRun). r l) (lists_join blocks a b)
