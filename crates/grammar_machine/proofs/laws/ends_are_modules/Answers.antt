use Rattle.grammar_machine.proofs.Verdicts.{end_is_module}
use Rattle.grammar_machine.proofs.laws.ends_are_modules.Goals as goal

pub returns : goal.returns
returns c = λ lexemes limit place r. end_is_module lexemes limit place r
