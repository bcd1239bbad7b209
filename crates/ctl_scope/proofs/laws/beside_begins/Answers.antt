use Rattle.ctl_scope.proofs.Growing.{begins}
use Rattle.ctl_scope.proofs.laws.beside_begins.Goals as goal

pub returns : goal.returns
returns c = λ units. begins units
