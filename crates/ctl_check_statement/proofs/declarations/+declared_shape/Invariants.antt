use Rattle.std.proofs.Common.{length}
use Rattle.ctl_check_statement.proofs.declarations.+declared_shape.Given as goal

abbrev pub decreases-declared_shape : goal.decreases-declared_shape
decreases-declared_shape l = length l.extents.now
