-- Goals of `laws::one_fault`.
use Rattle.ctl_lexer.proofs.OneFault.{one_fault}
use Rattle.ctl_lexer.proofs.laws.one_fault.Goals as goal

pub returns : goal.returns
returns c = one_fault
