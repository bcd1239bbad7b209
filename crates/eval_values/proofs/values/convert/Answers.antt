use Rattle.std.proofs.Common.{refl}
use Rattle.eval_values.proofs.values.convert.Goals as goal

pub returns-in-Same : goal.returns-in-Same
returns-in-Same c = rw c.in-Same.is refl
