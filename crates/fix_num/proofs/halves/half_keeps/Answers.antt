-- Goals of `halves::half_keeps`.
use Rattle.fix_num.proofs.Choice.{keeps_law}
use Rattle.fix_num.proofs.halves.half_keeps.Goals as goal

pub returns : goal.returns
returns c = keeps_law
