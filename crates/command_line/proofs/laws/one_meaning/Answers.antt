-- Goals of `laws::one_meaning`.
use Rattle.command_line.proofs.Once.{one_meaning}
use Rattle.command_line.proofs.laws.one_meaning.Goals as goal

pub returns : goal.returns
returns c = one_meaning c.spells_once.ensures
