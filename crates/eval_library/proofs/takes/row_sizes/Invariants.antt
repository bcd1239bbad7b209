use Rattle.std.proofs.Common.{◌≡◌, ◌++◌, drop}
use Rattle.eval_library.proofs.takes.row_sizes.Given as goal

abbrev pub invariant-loop-size : goal.invariant-loop-size
invariant-loop-size l = l.sizes ++ drop l.size-index l.size-items ≡ l.initial.sizes ++ l.size-items
