use Rattle.std.proofs.Common.{map, drop}
use Rattle.level_counts.specs.Told.{total}
use Rattle.level_counts.specs.Parts.{statement_parts, arm_parts}
use Rattle.level_counts.proofs.Sums.{Adds}
use Rattle.level_counts.proofs.statements.+statement.Given as goal

abbrev pub invariant-statements_parts-loop-statement : goal.invariant-statements_parts-loop-statement
invariant-statements_parts-loop-statement l = Adds l.parts (total (map (statement_parts l.definitions l.variables) (drop l.statement-index l.statements))) (total (map (statement_parts l.definitions l.variables) l.statements))

abbrev pub invariant-arms_parts-loop-arm : goal.invariant-arms_parts-loop-arm
invariant-arms_parts-loop-arm l = Adds l.parts (total (map (arm_parts l.definitions l.variables) (drop l.arm-index l.arms))) (total (map (arm_parts l.definitions l.variables) l.arms))
