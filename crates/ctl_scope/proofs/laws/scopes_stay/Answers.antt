use Rattle.ctl_scope.proofs.Staying.{scope_stays}
use Rattle.ctl_scope.proofs.laws.scopes_stay.Goals as goal

pub returns : goal.returns
returns c = λ s is. scope_stays s is
