use Rattle.std.proofs.Common.{◌≡◌, ◌≤◌, ◌+◌, ◌-◌, map, drop, length}
use Rattle.ctl_types.specs.Values.{alike, all_alike}
use Rattle.eval_values.specs.Size.{value_size, values_size}
use Rattle.eval_values.proofs.shapes.+alike.Given as goal

abbrev pub invariant-all_alike-each : goal.invariant-all_alike-each
invariant-all_alike-each l = record {
  same : all_alike (map alike (drop l.i l.parts)) (drop l.i l.others) ≡ all_alike (map alike l.parts) l.others;
  within : l.i ≤ length l.parts;
  inside : l.i ≤ length l.others;
}

abbrev pub decreases-all_alike-each : goal.decreases-all_alike-each
decreases-all_alike-each l = length l.parts - l.i

abbrev pub decreases-alike : goal.decreases-alike
decreases-alike l = value_size l.old.now

abbrev pub decreases-all_alike : goal.decreases-all_alike
decreases-all_alike l = values_size l.parts.now + 1
