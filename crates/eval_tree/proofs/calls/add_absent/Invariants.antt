use Rattle.std.proofs.Common.{◌≡◌, ◌++◌, replicate, None}
use Rattle.eval_tree.proofs.calls.add_absent.Given as goal

abbrev pub invariant-each : goal.invariant-each
invariant-each l = l.frame.items ++ replicate l.left None ≡ l.fn.frame.items ++ replicate l.count None

abbrev pub decreases-each : goal.decreases-each
decreases-each l = l.left
