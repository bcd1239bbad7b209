use Rattle.ctl_types.proofs.Filled.{goes_back}
use Rattle.ctl_types.proofs.laws.words_go_back.Goals as goal

pub returns : goal.returns
returns c = λ structs w a b rest h j. goes_back structs w a b rest h j
