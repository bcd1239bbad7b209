use Rattle.lane_code.proofs.Blocks.{valid_blocks_stand}
use Rattle.lane_code.proofs.laws.valid_blocks_stand.Goals as goal

pub returns : goal.returns
returns c = valid_blocks_stand
