-- Goals of `laws::results_fit`.
use Rattle.ctl_stdlib.proofs.Filled.{results_law}
use Rattle.ctl_stdlib.proofs.laws.results_fit.Goals as goal

pub returns : goal.returns
returns c = results_law
