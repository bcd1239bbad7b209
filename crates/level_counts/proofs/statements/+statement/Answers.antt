use Rattle.std.proofs.Common.{arith}
use Rattle.level_counts.specs.Parts.{statement_parts, arm_parts}
use Rattle.level_counts.proofs.Sums.{adds_all, list_more, list_done}
use Rattle.level_counts.proofs.statements.+statement.Goals as goal

pub statements_parts-loop-statement-init : goal.statements_parts-loop-statement-init
statements_parts-loop-statement-init t c = adds_all _

pub statements_parts-loop-statement-preserved : goal.statements_parts-loop-statement-preserved
statements_parts-loop-statement-preserved t c = list_more (statement_parts c.args.definitions.now c.args.variables.now) c.args.statements.now c.loop-statement.statement-index c.statement-item.result _ _ _ _ (omega arith) c.statement-item.is c.loop-statement.invariant c.in_ok-more.ensures c.and-parts.ensures

pub statements_parts-returns : goal.statements_parts-returns
statements_parts-returns t c = list_done (statement_parts c.args.definitions.now c.args.variables.now) c.args.statements.now c.loop-statement.statement-index _ _ (omega arith) c.loop-statement.invariant

pub arms_parts-loop-arm-init : goal.arms_parts-loop-arm-init
arms_parts-loop-arm-init t c = adds_all _

pub arms_parts-loop-arm-preserved : goal.arms_parts-loop-arm-preserved
arms_parts-loop-arm-preserved t c = list_more (arm_parts c.args.definitions.now c.args.variables.now) c.args.arms.now c.loop-arm.arm-index c.arm-item.result _ _ _ _ (omega arith) c.arm-item.is c.loop-arm.invariant c.in_ok-more.ensures c.and-parts.ensures

pub arms_parts-returns : goal.arms_parts-returns
arms_parts-returns t c = list_done (arm_parts c.args.definitions.now c.args.variables.now) c.args.arms.now c.loop-arm.arm-index _ _ (omega arith) c.loop-arm.invariant
