use Rattle.std.proofs.Common.{◌≡◌, ◌≤◌, ◌-◌, ◌++◌, drop, length}
use Rattle.ctl_types.specs.Values.{open_sizes}
use Rattle.ctl_eval.specs.Means.{shapes_of}
use Rattle.ctl_eval.proofs.beginning.open_sizes.Given as goal

abbrev pub invariant-each : goal.invariant-each
invariant-each l = record {
  so_far : l.sizes ++ open_sizes (shapes_of (drop l.i l.parameters)) (drop l.i l.frame) ≡ open_sizes (shapes_of l.parameters) l.frame;
  within : l.i ≤ length l.parameters;
}

abbrev pub decreases-each : goal.decreases-each
decreases-each l = length l.parameters - l.i
