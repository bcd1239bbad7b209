use Rattle.std.proofs.Common.{◌≡◌, ◌++◌, drop, map, not}
use Rattle.ctl_types.specs.declared.program.Parameter.{Parameter}
use Rattle.level_table.specs.Known.{is_marked}
use Rattle.level_table.proofs.entry.entry_levels.Given as goal

abbrev pub invariant-loop-parameter : goal.invariant-loop-parameter
invariant-loop-parameter l = l.levels ++ map (λ (q : Parameter). not (is_marked q)) (drop l.parameter-index l.parameters) ≡ map (λ (q : Parameter). not (is_marked q)) l.parameters
