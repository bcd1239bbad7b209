use Rattle.std.proofs.Common.{ap, sym, ◌∙◌, arith}
use Rattle.ctl_types.specs.declared.expression.TypedStep.{TypedStep}
use Rattle.ctl_types.specs.Folds.{argument_fold, link_fold, step_fold, operand_fold}
use Rattle.level_counts.specs.Told.{told}
use Rattle.level_counts.specs.Parts.{operand_parts, measure_fold}
use Rattle.level_counts.proofs.Sums.{adds_all, list_more, list_done}
use Rattle.level_counts.proofs.Steps.{all_parts_are, index_parts_are, steps_value_more, steps_value_done, steps_more, steps_done}
use Rattle.level_counts.proofs.expressions.+measure.Goals as goal

pub links_parts-loop-link-init : goal.links_parts-loop-link-init
links_parts-loop-link-init t c = adds_all _

pub links_parts-loop-link-preserved : goal.links_parts-loop-link-preserved
links_parts-loop-link-preserved t c = list_more (link_fold (measure_fold c.args.definitions.now c.args.variables.now)) c.args.links.now c.loop-link.link-index c.link-item.result _ _ _ _ (omega arith) c.link-item.is c.loop-link.invariant c.in_ok-more.ensures c.and-parts.ensures

pub links_parts-returns : goal.links_parts-returns
links_parts-returns t c = list_done (link_fold (measure_fold c.args.definitions.now c.args.variables.now)) c.args.links.now c.loop-link.link-index _ _ (omega arith) c.loop-link.invariant

pub operands_parts-loop-operand-init : goal.operands_parts-loop-operand-init
operands_parts-loop-operand-init t c = adds_all _

pub operands_parts-loop-operand-preserved : goal.operands_parts-loop-operand-preserved
operands_parts-loop-operand-preserved t c = list_more (operand_parts c.args.definitions.now c.args.variables.now) c.args.operands.now c.loop-operand.operand-index c.operand-item.result _ _ _ _ (omega arith) c.operand-item.is c.loop-operand.invariant c.in_ok-more.ensures c.and-parts.ensures

pub operands_parts-returns : goal.operands_parts-returns
operands_parts-returns t c = list_done (operand_parts c.args.definitions.now c.args.variables.now) c.args.operands.now c.loop-operand.operand-index _ _ (omega arith) c.loop-operand.invariant ∙ ap told (sym (all_parts_are (operand_fold (measure_fold c.args.definitions.now c.args.variables.now)) c.args.operands.now))

pub indices_parts-loop-step-init : goal.indices_parts-loop-step-init
indices_parts-loop-step-init t c = adds_all _

pub indices_parts-loop-step-preserved : goal.indices_parts-loop-step-preserved
indices_parts-loop-step-preserved t c = list_more (λ (s : TypedStep). (step_fold (measure_fold c.args.definitions.now c.args.variables.now) s).parts) c.args.steps.now c.loop-step.step-index c.step-item.result _ _ _ _ (omega arith) c.step-item.is c.loop-step.invariant c.in_ok-more.ensures c.and-parts.ensures

pub indices_parts-returns : goal.indices_parts-returns
indices_parts-returns t c = list_done (λ (s : TypedStep). (step_fold (measure_fold c.args.definitions.now c.args.variables.now) s).parts) c.args.steps.now c.loop-step.step-index _ _ (omega arith) c.loop-step.invariant ∙ ap told (sym (index_parts_are (step_fold (measure_fold c.args.definitions.now c.args.variables.now)) c.args.steps.now))

pub arguments_parts-loop-argument-init : goal.arguments_parts-loop-argument-init
arguments_parts-loop-argument-init t c = adds_all _

pub arguments_parts-loop-argument-preserved : goal.arguments_parts-loop-argument-preserved
arguments_parts-loop-argument-preserved t c = list_more (argument_fold (measure_fold c.args.definitions.now c.args.variables.now)) c.args.arguments.now c.loop-argument.argument-index c.argument-item.result _ _ _ _ (omega arith) c.argument-item.is c.loop-argument.invariant c.in_ok-more.ensures c.and-parts.ensures

pub arguments_parts-returns : goal.arguments_parts-returns
arguments_parts-returns t c = list_done (argument_fold (measure_fold c.args.definitions.now c.args.variables.now)) c.args.arguments.now c.loop-argument.argument-index _ _ (omega arith) c.loop-argument.invariant

pub measure_steps-loop-step-preserved : goal.measure_steps-loop-step-preserved
measure_steps-loop-step-preserved t c = record {
  value = steps_value_more (step_fold (measure_fold c.args.definitions.now c.args.variables.now)) c.args.steps.now c.loop-step.step-index c.step-item.result _ _ _ (omega arith) c.step-item.is c.loop-step.invariant.value c.in_ok-value.ensures;
  parts = steps_more c.args.definitions.now (step_fold (measure_fold c.args.definitions.now c.args.variables.now)) c.args.steps.now c.loop-step.step-index c.step-item.result _ _ _ _ _ _ _ _ (omega arith) c.step-item.is c.loop-step.invariant.parts c.in_ok-value.ensures c.in_ok-index.ensures c.own_parts.ensures c.and.ensures c.and-parts.ensures;
}

pub measure_steps-returns : goal.measure_steps-returns
measure_steps-returns t c = record {
  value = steps_value_done (step_fold (measure_fold c.args.definitions.now c.args.variables.now)) c.args.steps.now c.loop-step.step-index _ _ (omega arith) c.loop-step.invariant.value;
  parts = steps_done c.args.definitions.now (step_fold (measure_fold c.args.definitions.now c.args.variables.now)) c.args.steps.now c.loop-step.step-index _ _ _ (omega arith) c.loop-step.invariant.parts;
}
