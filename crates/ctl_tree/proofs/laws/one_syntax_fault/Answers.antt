use Rattle.ctl_tree.proofs.Faults.{same_fault}
use Rattle.ctl_tree.proofs.laws.one_syntax_fault.Goals as goal

pub returns : goal.returns
returns c = λ lexemes limit kind other place elsewhere are_spelt h k. same_fault lexemes limit kind other place elsewhere are_spelt h k
