use Rattle.lane_code.proofs.Joins.{block_added}
use Rattle.lane_code.proofs.laws.blocks_added.Goals as goal

pub returns : goal.returns
returns c = block_added
