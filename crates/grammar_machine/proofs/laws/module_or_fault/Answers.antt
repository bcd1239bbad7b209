use Rattle.grammar_machine.proofs.Verdicts.{module_or_fault}
use Rattle.grammar_machine.proofs.laws.module_or_fault.Goals as goal

pub returns : goal.returns
returns c = λ lexemes limit. module_or_fault lexemes limit
