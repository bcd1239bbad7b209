use Rattle.lane_code.proofs.Apart.{keeps_apart}
use Rattle.lane_code.proofs.laws.instructions_keep_apart.Goals as goal

pub returns : goal.returns
returns c = keeps_apart
