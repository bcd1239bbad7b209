use Rattle.ctl_laws.proofs.Counts.{turns_never_rise}
use Rattle.ctl_laws.proofs.clock.turns_never_rise.Goals as goal

pub returns : goal.returns
returns c = turns_never_rise
