use Rattle.std.proofs.Common.{◌≡◌, ◌≤◌, ◌-◌, map, drop, length}
use Rattle.eval_tree.specs.Calls.{brought_into, target_of}
use Rattle.eval_tree.proofs.calls.bring_back.Given as goal

abbrev pub invariant-each : goal.invariant-each
invariant-each l = record {
  so_far : brought_into (map target_of (drop l.i l.arguments)) (drop l.i l.paths) (drop l.i l.frame.items) l.env.items ≡ brought_into (map target_of l.arguments) l.paths l.fn.frame.items l.fn.env.items;
  within : l.i ≤ length l.arguments;
}

abbrev pub decreases-each : goal.decreases-each
decreases-each l = length l.arguments - l.i
