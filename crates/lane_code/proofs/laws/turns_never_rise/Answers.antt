use Rattle.lane_code.proofs.Turns.{turns_never_rise}
use Rattle.lane_code.proofs.laws.turns_never_rise.Goals as goal

pub returns : goal.returns
returns c = turns_never_rise
