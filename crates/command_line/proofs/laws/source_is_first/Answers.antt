-- Goals of `laws::source_is_first`.
use Rattle.command_line.proofs.Places.{source_is_first}
use Rattle.command_line.proofs.laws.source_is_first.Goals as goal

pub returns : goal.returns
returns c = source_is_first
