-- Goals of `laws::halves_come_out`.
use Rattle.ctl_stdlib.proofs.Halved.{halves_law}
use Rattle.ctl_stdlib.proofs.laws.halves_come_out.Goals as goal

pub returns : goal.returns
returns c = halves_law c.halves_stay_in_range.ensures
