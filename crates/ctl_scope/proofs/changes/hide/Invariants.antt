use Rattle.std.proofs.Common.{◌≡◌, length}
use Rattle.ctl_scope.proofs.Lists.{hidden}
use Rattle.ctl_scope.proofs.changes.hide.Given as goal

abbrev pub invariant-loop-number : goal.invariant-loop-number
invariant-loop-number l = (l.variables ≡ hidden l.start l.number l.initial.variables) × (length l.variables ≡ length l.initial.variables)
