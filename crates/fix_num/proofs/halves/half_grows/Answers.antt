-- Goals of `halves::half_grows`.
use Rattle.fix_num.proofs.Choice.{grows_law}
use Rattle.fix_num.proofs.halves.half_grows.Goals as goal

pub returns : goal.returns
returns c = grows_law
