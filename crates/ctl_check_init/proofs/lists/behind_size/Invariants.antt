use Rattle.std.proofs.Common.{◌≡◌, ◌∷◌, ◌++◌, drop}
use Rattle.ctl_check_init.proofs.lists.behind_size.Given as goal

abbrev pub invariant-loop-size : goal.invariant-loop-size
invariant-loop-size l = l.sizes ++ drop l.size-index l.inner ≡ l.fn.first ∷ l.inner
