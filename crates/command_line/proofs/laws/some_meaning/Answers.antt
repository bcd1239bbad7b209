-- Goals of `laws::some_meaning`.
use Rattle.command_line.proofs.Some.{some_meaning}
use Rattle.command_line.proofs.laws.some_meaning.Goals as goal

pub returns : goal.returns
returns c = some_meaning
