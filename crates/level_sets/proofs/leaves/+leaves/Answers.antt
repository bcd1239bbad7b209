use Rattle.std.proofs.Common.{arith, rules}
use Rattle.level_sets.proofs.Sizes.{statement_size, arm_size, at_most, arm_size_is}
use Rattle.level_sets.proofs.Forms.{block_leaves, if_leaves}
use Rattle.level_sets.proofs.leaves.+leaves.Goals as goal

pub leaves-returns-in-Block : goal.leaves-returns-in-Block
leaves-returns-in-Block t c = block_leaves c.args.scene.now c.args.statement.now c.in-Block.statements _ c.args.control _ c.in-Block.is c.as_slice.ensures c.leaves_all.ensures

pub leaves-returns-in-If : goal.leaves-returns-in-If
leaves-returns-in-If t c = if_leaves c.args.scene.now c.args.statement.now c.in-If.arms _ c.in-If.otherwise c.args.control _ c.in-If.is c.as_slice-in-If.ensures c.leaves_if.ensures

pub leaves_all-leaves-requires : goal.leaves_all-leaves-requires
leaves_all-leaves-requires t c = let q = at_most statement_size c.args.statements.now c.loop-statement.statement-index c.statement-item.result (omega arith) c.statement-item.is in let d = c.decreases in search rules

pub leaves_if-leaves-requires : goal.leaves_if-leaves-requires
leaves_if-leaves-requires t c = let q = at_most arm_size c.args.arms.now c.loop-arm.arm-index c.arm-item.result (omega arith) c.arm-item.is in let r = arm_size_is c.arm-item.result in let d = c.decreases in search rules
