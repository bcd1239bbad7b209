use Rattle.std.proofs.Common.{◌≡◌, ◌++◌, replicate}
use Rattle.eval_values.proofs.zeros.copies.Given as goal

abbrev pub invariant-loop-left : goal.invariant-loop-left
invariant-loop-left l = l.copied ++ replicate l.left l.value ≡ replicate l.count l.value

abbrev pub decreases-loop-left : goal.decreases-loop-left
decreases-loop-left l = l.left
