use Rattle.std.proofs.Common.{◌+◌, ◌*◌, length}
use Rattle.eval_values.proofs.store.+put.Given as goal

abbrev pub decreases-put_at : goal.decreases-put_at
decreases-put_at l = 3 * length l.path.now

abbrev pub decreases-put_within : goal.decreases-put_within
decreases-put_within l = 3 * length l.rest.now + 2

abbrev pub decreases-put_part : goal.decreases-put_part
decreases-put_part l = 3 * length l.rest.now + 1
