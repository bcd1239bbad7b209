use Rattle.ctl_scope.proofs.Growing.{grows}
use Rattle.ctl_scope.proofs.laws.beside_grows.Goals as goal

pub returns : goal.returns
returns c = λ s d name is. grows s d name is
