use Rattle.std.proofs.Common.{◌≡◌, ◌≤◌, ◌-◌, drop, length}
use Rattle.ctl_types.specs.Run.{outputs_of}
use Rattle.ctl_eval.specs.Means.{behind}
use Rattle.ctl_eval.proofs.beginning.outputs.Given as goal

abbrev pub invariant-each : goal.invariant-each
invariant-each l = record {
  so_far : behind l.values (outputs_of (drop l.i l.parameters) (drop l.i l.frame.items)) ≡ outputs_of l.parameters l.fn.frame.items;
  within : l.i ≤ length l.parameters;
}

abbrev pub decreases-each : goal.decreases-each
decreases-each l = length l.parameters - l.i
