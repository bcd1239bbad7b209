use Rattle.std.proofs.Common.{◌≡◌, map, drop}
use Rattle.std.specs.Option.{option_copied}
use Rattle.ctl_check_statement.specs.Statements.{all_stated, no_statements, all_armed, no_arms, stated, arm_stated}
use Rattle.ctl_check_statement.proofs.statements.+check.Given as goal

abbrev pub invariant-check_statements-loop-statement : goal.invariant-check_statements-loop-statement
invariant-check_statements-loop-statement l = all_stated (map (stated l.definitions (option_copied l.gives)) (drop l.statement-index l.statements)) (record { made = l.before; scope = l.scope }) ≡ all_stated (map (stated l.definitions (option_copied l.gives)) l.statements) (record { made = no_statements; scope = l.fn.scope })

abbrev pub invariant-check_arms-loop-arm : goal.invariant-check_arms-loop-arm
invariant-check_arms-loop-arm l = all_armed (map (arm_stated l.definitions (option_copied l.gives)) (drop l.arm-index l.arms)) (record { made = l.before; scope = l.scope }) ≡ all_armed (map (arm_stated l.definitions (option_copied l.gives)) l.arms) (record { made = no_arms; scope = l.fn.scope })
