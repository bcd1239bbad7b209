use Rattle.std.proofs.Common.{◌≡◌, ◌≤◌, ◌-◌, map, length}
use Rattle.eval_tree.specs.Calls.{with_defaults, default_of}
use Rattle.eval_tree.proofs.Frames.{half_given}
use Rattle.eval_tree.proofs.calls.fill.Given as goal

abbrev pub invariant-each : goal.invariant-each
invariant-each l = record {
  so_far : half_given l.i l.parameters l.frame.items ≡ with_defaults (map default_of l.parameters) l.fn.frame.items;
  within : l.i ≤ length l.parameters;
}

abbrev pub decreases-each : goal.decreases-each
decreases-each l = length l.parameters - l.i
