use Rattle.level_laws.proofs.LowerCalls.{calls_lower}
use Rattle.level_laws.proofs.lower.calls_lower.Goals as goal

pub returns : goal.returns
returns c d defined known i = calls_lower d defined known i
