-- Goals of `laws::only_assert_refuses`.
use Rattle.ctl_stdlib.proofs.Filled.{refusal_law}
use Rattle.ctl_stdlib.proofs.laws.only_assert_refuses.Goals as goal

pub returns : goal.returns
returns c = refusal_law
