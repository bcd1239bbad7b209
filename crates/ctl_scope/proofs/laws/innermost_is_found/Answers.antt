use Rattle.ctl_scope.proofs.Finding.{innermost_found}
use Rattle.ctl_scope.proofs.laws.innermost_is_found.Goals as goal

pub returns : goal.returns
returns c = λ s name inner b around m sees plain blocks none some. innermost_found s name inner b around m sees plain blocks none some
