use Rattle.lane_code.proofs.Flags.{marks_suffice}
use Rattle.lane_code.proofs.laws.marks_suffice.Goals as goal

pub returns : goal.returns
returns c = marks_suffice
