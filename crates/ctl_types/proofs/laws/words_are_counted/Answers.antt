use Rattle.ctl_types.proofs.Counted.{counted}
use Rattle.ctl_types.proofs.laws.words_are_counted.Goals as goal

pub returns : goal.returns
returns c = λ structs h v sizes base fit. counted structs h v sizes base fit
