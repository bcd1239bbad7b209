use Rattle.std.proofs.Common.{◌≡◌, ◌+◌, map, drop}
use Rattle.ctl_types.specs.declared.expression.TypedStep.{TypedStep}
use Rattle.ctl_types.specs.Folds.{argument_fold, link_fold, step_fold}
use Rattle.level_counts.specs.Told.{total}
use Rattle.level_counts.specs.Parts.{operand_parts, measure_fold, after_steps, steps_parts}
use Rattle.level_counts.proofs.Sums.{Adds}
use Rattle.level_counts.proofs.expressions.+measure.Given as goal

abbrev pub invariant-links_parts-loop-link : goal.invariant-links_parts-loop-link
invariant-links_parts-loop-link l = Adds l.parts (total (map (link_fold (measure_fold l.definitions l.variables)) (drop l.link-index l.links))) (total (map (link_fold (measure_fold l.definitions l.variables)) l.links))

abbrev pub invariant-operands_parts-loop-operand : goal.invariant-operands_parts-loop-operand
invariant-operands_parts-loop-operand l = Adds l.parts (total (map (operand_parts l.definitions l.variables) (drop l.operand-index l.operands))) (total (map (operand_parts l.definitions l.variables) l.operands))

abbrev pub invariant-indices_parts-loop-step : goal.invariant-indices_parts-loop-step
invariant-indices_parts-loop-step l = Adds l.parts (total (map (λ (s : TypedStep). (step_fold (measure_fold l.definitions l.variables) s).parts) (drop l.step-index l.steps))) (total (map (λ (s : TypedStep). (step_fold (measure_fold l.definitions l.variables) s).parts) l.steps))

abbrev pub invariant-arguments_parts-loop-argument : goal.invariant-arguments_parts-loop-argument
invariant-arguments_parts-loop-argument l = Adds l.parts (total (map (argument_fold (measure_fold l.definitions l.variables)) (drop l.argument-index l.arguments))) (total (map (argument_fold (measure_fold l.definitions l.variables)) l.arguments))

abbrev pub invariant-measure_steps-loop-step : goal.invariant-measure_steps-loop-step
invariant-measure_steps-loop-step l = record {
  value : after_steps (map (step_fold (measure_fold l.definitions l.variables)) (drop l.step-index l.steps)) l.value ≡ after_steps (map (step_fold (measure_fold l.definitions l.variables)) l.steps) l.fn.root.value;
  parts : Adds l.parts (steps_parts l.definitions (map (step_fold (measure_fold l.definitions l.variables)) (drop l.step-index l.steps)) l.value) (l.fn.root.parts + steps_parts l.definitions (map (step_fold (measure_fold l.definitions l.variables)) l.steps) l.fn.root.value);
}
