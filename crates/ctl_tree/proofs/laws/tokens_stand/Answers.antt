use Rattle.ctl_tree.proofs.OwnTokensStand.{module_stands}
use Rattle.ctl_tree.proofs.laws.tokens_stand.Goals as goal

pub returns : goal.returns
returns c = λ lexemes limit m h. module_stands h
