use Rattle.lane_code.proofs.Joins.{more_changes_nothing}
use Rattle.lane_code.proofs.laws.more_changes_nothing.Goals as goal

pub returns : goal.returns
returns c = more_changes_nothing
