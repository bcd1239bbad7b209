use Rattle.ctl_scope.proofs.Finding.{look_up_there}
use Rattle.ctl_scope.proofs.laws.found_is_there.Goals as goal

pub returns : goal.returns
returns c = λ s is name. look_up_there s is name
