use Rattle.std.proofs.Common.{◌≡◌, map, drop}
use Rattle.ctl_check_statement.specs.Returning.{one_returns, all_return, surely_returns, arm_surely_returns}
use Rattle.ctl_check_statement.proofs.returning.+returning.Given as goal

abbrev pub invariant-all_return-loop-arm : goal.invariant-all_return-loop-arm
invariant-all_return-loop-arm l = all_return (map arm_surely_returns (drop l.arm-index l.arms)) ≡ all_return (map arm_surely_returns l.arms)

abbrev pub invariant-one_returns-loop-statement : goal.invariant-one_returns-loop-statement
invariant-one_returns-loop-statement l = one_returns (map surely_returns (drop l.statement-index l.statements)) ≡ one_returns (map surely_returns l.statements)
