use Rattle.ctl_laws.proofs.Counts.{count_changes_nothing}
use Rattle.ctl_laws.proofs.clock.count_changes_nothing.Goals as goal

pub returns : goal.returns
returns c = count_changes_nothing
