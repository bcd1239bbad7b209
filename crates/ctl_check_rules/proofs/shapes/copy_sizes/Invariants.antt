use Rattle.std.proofs.Common.{◌≡◌, ◌++◌, drop}
use Rattle.ctl_check_rules.proofs.shapes.copy_sizes.Given as goal

abbrev pub invariant-loop-size : goal.invariant-loop-size
invariant-loop-size l = l.copy ++ drop l.size-index l.sizes ≡ l.sizes
