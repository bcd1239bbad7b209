use Rattle.ctl_tree.proofs.Modules.{same_module}
use Rattle.ctl_tree.proofs.laws.one_module.Goals as goal

pub returns : goal.returns
returns c = λ lexemes limit limit' m m' h h'. same_module h h'
