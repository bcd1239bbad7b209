use Rattle.std.proofs.Common.{◌≡◌, ◌++◌, ◌-◌}
use Rattle.eval_library.specs.Means.{opened_from}
use Rattle.eval_library.proofs.takes.opened.Given as goal

abbrev pub invariant-loop-i : goal.invariant-loop-i
invariant-loop-i l = l.sizes ++ opened_from l.opens l.i (l.count - l.i) ≡ opened_from l.opens 0 l.count
