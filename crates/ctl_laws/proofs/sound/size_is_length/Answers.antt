use Rattle.ctl_laws.proofs.Programs.{size_is_length}
use Rattle.ctl_laws.proofs.sound.size_is_length.Goals as goal

pub returns : goal.returns
returns c = size_is_length
