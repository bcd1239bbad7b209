use Rattle.std.proofs.Common.{◌≡◌, ◌++◌, map, drop}
use Rattle.ctl_types.specs.Folds.{step_fold, link_fold}
use Rattle.level_rules.specs.Rules.{seen_all, seen_logic, look_fold, look_operand, both_found, levels_of, arguments_found}
use Rattle.level_sets.specs.Scene.{known_of, around_of}
use Rattle.level_sets.specs.Calls.{arguments_of, looks_of}
use Rattle.level_sets.proofs.Lists.{Rest}
use Rattle.level_sets.proofs.look.+look.Given as goal

abbrev pub invariant-look_links-loop-link : goal.invariant-look_links-loop-link
invariant-look_links-loop-link l = Rest l.any l.found (seen_all (map (link_fold (look_fold (known_of l.scene))) (drop l.link-index l.links)) (around_of l.scene) l.control) l.fn.found (seen_all (map (link_fold (look_fold (known_of l.scene))) l.links) (around_of l.scene) l.control)

abbrev pub invariant-look_logic-loop-operand : goal.invariant-look_logic-loop-operand
invariant-look_logic-loop-operand l = Rest l.any l.found (seen_logic (map (look_operand (known_of l.scene)) (drop l.operand-index l.operands)) (around_of l.scene) l.now) l.fn.found (seen_logic (map (look_operand (known_of l.scene)) l.operands) (around_of l.scene) l.control)

abbrev pub invariant-look_steps-loop-step : goal.invariant-look_steps-loop-step
invariant-look_steps-loop-step l = Rest l.any l.found (seen_all (map (step_fold (look_fold (known_of l.scene))) (drop l.step-index l.steps)) (around_of l.scene) l.control) l.fn.found (seen_all (map (step_fold (look_fold (known_of l.scene))) l.steps) (around_of l.scene) l.control)

abbrev pub invariant-look_arguments-loop-k : goal.invariant-look_arguments-loop-k
invariant-look_arguments-loop-k l = record {
  levels : l.passed.levels ++ levels_of (arguments_of l.scene (drop l.k l.arguments)) (around_of l.scene) l.control ≡ levels_of (arguments_of l.scene l.arguments) (around_of l.scene) l.control;
  looks : l.passed.looks ++ looks_of (arguments_of l.scene (drop l.k l.arguments)) (around_of l.scene) l.control ≡ looks_of (arguments_of l.scene l.arguments) (around_of l.scene) l.control;
  found : both_found l.found (arguments_found l.uniform l.k (arguments_of l.scene (drop l.k l.arguments)) (around_of l.scene) l.control) ≡ both_found l.fn.found (arguments_found l.uniform 0 (arguments_of l.scene l.arguments) (around_of l.scene) l.control);
}
