use Rattle.ctl_laws.proofs.Counts.{more_turns_end_alike}
use Rattle.ctl_laws.proofs.clock.more_turns_end_alike.Goals as goal

pub returns : goal.returns
returns c = more_turns_end_alike
