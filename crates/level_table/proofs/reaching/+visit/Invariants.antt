use Rattle.std.proofs.Common.{◌≡◌, ◌≤◌, ◌-◌, drop, length}
use Rattle.ctl_base.specs.declared.limits.TheConstants.{INSTANCES}
use Rattle.level_rules.specs.Levels.{calls_in}
use Rattle.level_rules.specs.Rows.{tells}
use Rattle.level_rules.specs.Reached.{visit, each}
use Rattle.level_table.proofs.reaching.+visit.Given as goal

abbrev pub decreases-visit : goal.decreases-visit
decreases-visit l = l.depth

abbrev pub invariant-loop-called : goal.invariant-loop-called
invariant-loop-called l = record {
  rest : each (visit (calls_in l.known.functions (tells l.known.rows)) (l.depth - 1)) l.table (drop l.called-index l.called-items) ≡ visit (calls_in l.known.functions (tells l.known.rows)) l.depth l.fn.table l.instance;
  within : length l.table ≤ INSTANCES;
}
