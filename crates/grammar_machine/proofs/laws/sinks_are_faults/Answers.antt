use Rattle.grammar_machine.proofs.Verdicts.{sink_is_depth}
use Rattle.grammar_machine.proofs.laws.sinks_are_faults.Goals as goal

pub returns : goal.returns
returns c = λ lexemes limit place s. sink_is_depth lexemes limit place s
