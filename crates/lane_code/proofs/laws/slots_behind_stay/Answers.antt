use Rattle.lane_code.proofs.Behind.{slots_behind_stay}
use Rattle.lane_code.proofs.laws.slots_behind_stay.Goals as goal

pub returns : goal.returns
returns c = slots_behind_stay c.results_fit.ensures
