use Rattle.std.proofs.Common.{arith}
use Rattle.std.specs.Option.{option_copied}
use Rattle.std.proofs.lemmas.Result.{err_from_is_err_and}
use Rattle.ctl_check_statement.proofs.Walks.{arms_err, arms_more, while_stands, for_stands}
use Rattle.ctl_check_statement.proofs.statements.+check.Goals as goal

pub check_arms-returns-in_err-before : goal.check_arms-returns-in_err-before
check_arms-returns-in_err-before t c =
    let p = err_from_is_err_and c.from_residual.result c.from_residual.ensures.1 in
    rw (p.1, p.2) (arms_err c.args.definitions.now (option_copied c.args.gives) c.args.arms.now c.loop-arm.arm-index c.arm-item.result (record { made = c.loop-arm.before; scope = c.loop-arm.scope }) _ (omega arith) c.arm-item.is c.loop-arm.invariant _ c.check_arm.new.scope c.in_err-before.ensures)

pub check_arms-loop-arm-preserved : goal.check_arms-loop-arm-preserved
check_arms-loop-arm-preserved t c = arms_more c.args.definitions.now (option_copied c.args.gives) c.args.arms.now c.loop-arm.arm-index c.arm-item.result (record { made = c.loop-arm.before; scope = c.loop-arm.scope }) _ (omega arith) c.arm-item.is c.loop-arm.invariant (record { made = c.in_ok-before.before; scope = c.check_arm.new.scope }) c.in_ok-before.ensures

pub check_statement-returns-in-While : goal.check_statement-returns-in-While
check_statement-returns-in-While t c = while_stands c.args.definitions.now (option_copied c.args.gives) c.args.statement.now c.args.scope.now c.check_while.new.scope c.check_while.result c.in-While.written c.get-in-While.result.now c.in-While.is c.get-in-While.ensures c.check_while.ensures

pub check_statement-returns-in-For : goal.check_statement-returns-in-For
check_statement-returns-in-For t c = for_stands c.args.definitions.now (option_copied c.args.gives) c.args.statement.now c.args.scope.now c.check_for.new.scope c.check_for.result c.in-For.written c.get-in-For.result.now c.in-For.is c.get-in-For.ensures c.check_for.ensures
