-- Goals of `laws::faults_have_no_tokens`.
use Rattle.ctl_lexer.proofs.OneFault.{no_tokens}
use Rattle.ctl_lexer.proofs.laws.faults_have_no_tokens.Goals as goal

pub returns : goal.returns
returns c = no_tokens
