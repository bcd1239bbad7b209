use Rattle.std.proofs.Common.{[]}
use Rattle.grammar_machine.proofs.PassModules.{passes_module}
use Rattle.grammar_machine.proofs.laws.modules_are_passed.Goals as goal

pub returns : goal.returns
returns c = λ lexemes limit m h. passes_module h []
