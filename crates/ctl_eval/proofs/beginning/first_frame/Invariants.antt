use Rattle.std.proofs.Common.{◌≡◌, ◌≤◌, ◌-◌, drop, length}
use Rattle.ctl_types.specs.Run.{first_frame}
use Rattle.ctl_eval.specs.Means.{behind}
use Rattle.ctl_eval.proofs.beginning.first_frame.Given as goal

abbrev pub invariant-each : goal.invariant-each
invariant-each l = record {
  so_far : behind l.frame.items (first_frame l.scene.structs (drop l.i l.parameters) (drop l.next l.inputs)) ≡ first_frame l.scene.structs l.parameters l.inputs;
  within : l.i ≤ length l.parameters;
  inside : l.next ≤ length l.inputs;
}

abbrev pub decreases-each : goal.decreases-each
decreases-each l = length l.parameters - l.i
