-- Goals of `laws::force_is_accepted`.
use Rattle.command_line.proofs.Wider.{force_is_accepted}
use Rattle.command_line.proofs.laws.force_is_accepted.Goals as goal

pub returns : goal.returns
returns c = force_is_accepted
