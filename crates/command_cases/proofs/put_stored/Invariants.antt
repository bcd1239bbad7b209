use Rattle.std.proofs.Common.{length}
use Rattle.command_cases.proofs.put_stored.Given as goal

abbrev pub decreases-words : goal.decreases-words
decreases-words l = length l.rest
