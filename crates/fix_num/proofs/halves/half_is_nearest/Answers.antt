-- Goals of `halves::half_is_nearest`.
use Rattle.fix_num.proofs.Choice.{nearest_law}
use Rattle.fix_num.proofs.halves.half_is_nearest.Goals as goal

pub returns : goal.returns
returns c = nearest_law
