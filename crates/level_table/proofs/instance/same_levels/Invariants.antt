use Rattle.std.proofs.Common.{◌≡◌, ◌-◌, ◌≤◌, drop, length}
use Rattle.level_rules.specs.Reached.{same_levels}
use Rattle.level_table.proofs.instance.same_levels.Given as goal

abbrev pub invariant-each : goal.invariant-each
invariant-each l = record {
  rest : same_levels (drop l.k l.a) (drop l.k l.b) ≡ same_levels l.a l.b;
  within : l.k ≤ length l.a;
}

abbrev pub decreases-each : goal.decreases-each
decreases-each l = length l.a - l.k
