use Rattle.lane_code.proofs.Turns.{loops_go_round}
use Rattle.lane_code.proofs.laws.loops_go_round.Goals as goal

pub returns : goal.returns
returns c = loops_go_round
