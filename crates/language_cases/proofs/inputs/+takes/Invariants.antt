use Rattle.std.proofs.Common.{◌*◌, ◌+◌, length}
use Rattle.language_cases.proofs.inputs.+takes.Given as goal

abbrev pub decreases-takes : goal.decreases-takes
decreases-takes l = 2 * length l.parameters.now

abbrev pub decreases-takes_input : goal.decreases-takes_input
decreases-takes_input l = 2 * length l.rest.now + 1
