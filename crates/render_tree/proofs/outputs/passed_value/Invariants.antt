use Rattle.std.proofs.Common.{◌≡◌, ◌≤◌, ◌-◌, drop, length}
use Rattle.std.specs.Option.{option_copied}
use Rattle.ctl_types.specs.Run.{given_or}
use Rattle.render_tree.specs.PixelRun.{passed_on, value_of}
use Rattle.render_tree.proofs.outputs.passed_value.Given as goal

abbrev pub invariant-each : goal.invariant-each
invariant-each l = record {
  so_far : given_or (value_of l.name (passed_on (drop l.i l.parameters) (drop l.next l.outputs))) (option_copied l.found) ≡ value_of l.name (passed_on l.parameters l.outputs);
  within : l.i ≤ length l.parameters;
  inside : l.next ≤ length l.outputs;
}

abbrev pub decreases-each : goal.decreases-each
decreases-each l = length l.parameters - l.i
