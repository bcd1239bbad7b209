use Rattle.std.proofs.Common.{arith, rules}
use Rattle.level_sets.proofs.Sizes.{statement_size, arm_size, at_most, arm_size_is}
use Rattle.level_sets.proofs.Forms.{block_gives, declare_gives, assign_gives, call_statement, print_statement, if_gives, while_gives, return_gives, for_gives, turns_give}
use Rattle.level_sets.proofs.statements.+walk.Goals as goal

pub walk-returns-in-Block : goal.walk-returns-in-Block
walk-returns-in-Block t c = block_gives c.args.scene.now c.args.statement.now c.in-Block.statements _ c.args.control _ _ _ _ c.in-Block.is c.as_slice.ensures c.in_ok-place.ensures c.walk_all.ensures

pub walk-returns-in-Declare : goal.walk-returns-in-Declare
walk-returns-in-Declare t c = declare_gives c.args.scene.now c.args.statement.now c.in-Declare.declaration _ c.args.control _ _ _ _ c.in-Declare.is c.get.ensures c.in_ok-place.ensures c.walk_declaration.ensures

pub walk-returns-in-Assign : goal.walk-returns-in-Assign
walk-returns-in-Assign t c = assign_gives c.args.scene.now c.args.statement.now c.in-Assign.assignment _ c.args.control _ _ _ _ c.in-Assign.is c.get-in-Assign.ensures c.in_ok-place.ensures c.walk_assignment.ensures

pub walk-returns-in_ok-look_call-in-Call : goal.walk-returns-in_ok-look_call-in-Call
walk-returns-in_ok-look_call-in-Call t c = call_statement c.args.scene.now c.args.statement.now c.in-Call.call _ c.args.control _ _ _ _ c.in-Call.is c.get-in-Call.ensures c.in_ok-place.ensures c.in_ok-look_call-in-Call.ensures

pub walk-returns-in-If : goal.walk-returns-in-If
walk-returns-in-If t c = if_gives c.args.scene.now c.args.statement.now c.in-If.arms _ c.in-If.otherwise c.args.control _ _ _ _ c.in-If.is c.as_slice-in-If.ensures c.in_ok-place.ensures c.walk_if.ensures

pub walk-returns-in-While : goal.walk-returns-in-While
walk-returns-in-While t c = while_gives c.args.scene.now c.args.statement.now c.in-While.test _ c.in-While.body _ _ c.args.control _ _ _ _ c.in-While.is c.get-in-While.ensures c.get-in-While-2.ensures c.in_ok-place.ensures c.walk_while.ensures

pub walk-returns-in_ok-walk_start-in-For : goal.walk-returns-in_ok-walk_start-in-For
walk-returns-in_ok-walk_start-in-For t c = for_gives c.args.scene.now c.args.statement.now c.in-For.start _ c.in-For.test _ c.in-For.next _ c.in-For.body _ _ c.args.control _ _ _ _ _ _ _ c.in-For.is c.get-in-For.ensures c.get-in-For-2.ensures c.get-in-For-3.ensures c.get-in-For-4.ensures c.in_ok-place.ensures c.in_ok-place-in-For.ensures c.in_ok-walk_start-in-For.ensures c.walk_turns.ensures

pub walk-returns-in-Return : goal.walk-returns-in-Return
walk-returns-in-Return t c = return_gives c.args.scene.now c.args.statement.now c.in-Return.operand c.args.control _ _ _ _ c.in-Return.is c.in_ok-place.ensures c.walk_return.ensures

pub walk-returns-in_ok-look_items-in-Print : goal.walk-returns-in_ok-look_items-in-Print
walk-returns-in_ok-look_items-in-Print t c = print_statement c.args.scene.now c.args.statement.now c.in-Print.items _ c.args.control _ _ _ _ c.in-Print.is c.as_slice-in-Print.ensures c.in_ok-place.ensures c.in_ok-look_items-in-Print.ensures

pub walk_turns-returns : goal.walk_turns-returns
walk_turns-returns t c = turns_give c.args.scene.now c.args.test.now c.args.next.now c.args.body.now c.args.control _ _ _ _ _ _ _ _ _ _ _ c.in_ok-turning.ensures.leaves c.in_ok-turning.ensures.control c.in_ok-place.ensures c.in_ok-look_operand.ensures c.in_ok-place-2.ensures c.in_ok-walk_assignment.ensures c.in_ok-walk.ensures

pub walk_all-walk-requires : goal.walk_all-walk-requires
walk_all-walk-requires t c = let q = at_most statement_size c.args.statements.now c.loop-statement.statement-index c.statement-item.result (omega arith) c.statement-item.is in let d = c.decreases in search rules

pub walk_if-walk-requires : goal.walk_if-walk-requires
walk_if-walk-requires t c = let q = at_most arm_size c.args.arms.now c.loop-arm.arm-index c.arm-item.result (omega arith) c.arm-item.is in let r = arm_size_is c.arm-item.result in let d = c.decreases in search rules
