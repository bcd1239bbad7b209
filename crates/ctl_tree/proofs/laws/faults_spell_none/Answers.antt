use Rattle.ctl_tree.proofs.Faults.{none_spelt}
use Rattle.ctl_tree.proofs.laws.faults_spell_none.Goals as goal

pub returns : goal.returns
returns c = λ lexemes limit kind place are_spelt h. none_spelt lexemes limit kind place are_spelt h
