use Rattle.std.proofs.Common.{◌≡◌, drop, map}
use Rattle.level_counts.specs.Shapes.{in_turn, statement_declared, arm_declared}
use Rattle.level_counts.proofs.variables.+declare.Given as goal

abbrev pub invariant-declare_all-loop-statement : goal.invariant-declare_all-loop-statement
invariant-declare_all-loop-statement l = in_turn (map (statement_declared l.opens) (drop l.statement-index l.statements)) l.table ≡ in_turn (map (statement_declared l.opens) l.statements) l.fn.table

abbrev pub invariant-declare_arms-loop-arm : goal.invariant-declare_arms-loop-arm
invariant-declare_arms-loop-arm l = in_turn (map (arm_declared l.opens) (drop l.arm-index l.arms)) l.table ≡ in_turn (map (arm_declared l.opens) l.arms) l.fn.table
