use Rattle.grammar_machine.proofs.Verdicts.{refused}
use Rattle.grammar_machine.proofs.laws.refusals_spell_none.Goals as goal

pub returns : goal.returns
returns c = λ lexemes limit place s. refused lexemes limit place s
