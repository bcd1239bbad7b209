use Rattle.std.proofs.Common.{◌≡◌, ◌++◌, ◌≤◌, ◌-◌, take, drop, length}
use Rattle.ctl_types.specs.Library.{outputs_from}
use Rattle.eval_library.specs.Means.{OutputsAreFloats}
use Rattle.eval_library.proofs.results.put_outputs.Given as goal

abbrev pub invariant-each : goal.invariant-each
invariant-each l = record {
  so_far : take l.i l.frame.items ++ outputs_from (drop l.i l.params) (drop l.i l.frame.items) (drop l.at l.words) ≡ outputs_from l.params l.fn.frame.items (drop l.fn.at l.words);
  floats : OutputsAreFloats (drop l.i l.params) (drop l.i l.frame.items);
  within : l.i ≤ length l.params;
  inside : l.i ≤ length l.frame.items;
}

abbrev pub decreases-each : goal.decreases-each
decreases-each l = length l.params - l.i
