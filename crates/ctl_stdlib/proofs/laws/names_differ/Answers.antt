-- Goals of `laws::names_differ`.
use Rattle.ctl_stdlib.proofs.Apart.{names_law}
use Rattle.ctl_stdlib.proofs.laws.names_differ.Goals as goal

pub returns : goal.returns
returns c = names_law
