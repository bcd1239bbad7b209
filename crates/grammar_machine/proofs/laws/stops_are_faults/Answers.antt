use Rattle.grammar_machine.proofs.Verdicts.{stop_is_not_here}
use Rattle.grammar_machine.proofs.laws.stops_are_faults.Goals as goal

pub returns : goal.returns
returns c = λ lexemes limit place s. stop_is_not_here lexemes limit place s
