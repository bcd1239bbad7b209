use Rattle.std.proofs.Common.{◌≡◌, [], map, drop}
use Rattle.ctl_check_rules.specs.Operators.{linked, joined}
use Rattle.ctl_check_expr.specs.Places.{steps_checked, opened}
use Rattle.ctl_check_expr.specs.Calls.{passed, none_passed, formal_of, row_formal_of}
use Rattle.ctl_check_expr.specs.Checking.{checked, checked_step, checked_link}
use Rattle.ctl_check_expr.proofs.expressions.+check.Given as goal

abbrev pub invariant-check_steps-loop-step : goal.invariant-check_steps-loop-step
invariant-check_steps-loop-step l = steps_checked l.scope.unit l.definitions (map (checked_step l.scope l.definitions) (drop l.step-index l.steps)) l.part ≡ steps_checked l.scope.unit l.definitions (map (checked_step l.scope l.definitions) l.steps) (opened l.fn.root)

abbrev pub invariant-check_links-loop-link : goal.invariant-check_links-loop-link
invariant-check_links-loop-link l = linked l.scope.unit (map (checked_link l.scope l.definitions) (drop l.link-index l.links)) l.before ≡ linked l.scope.unit (map (checked_link l.scope l.definitions) l.links) l.fn.first

abbrev pub invariant-check_operands-loop-link : goal.invariant-check_operands-loop-link
invariant-check_operands-loop-link l = joined l.scope.unit (map (checked_link l.scope l.definitions) (drop l.link-index l.links)) l.before ≡ joined l.scope.unit (map (checked_link l.scope l.definitions) l.links) l.fn.first

abbrev pub invariant-check_left_over-loop-argument : goal.invariant-check_left_over-loop-argument
invariant-check_left_over-loop-argument l = passed l.scope [] (map (checked l.scope l.definitions) (drop l.argument-index l.arguments)) l.fn.before ≡ passed l.scope [] (map (checked l.scope l.definitions) l.arguments) l.fn.before

abbrev pub invariant-pass_all-loop-argument : goal.invariant-pass_all-loop-argument
invariant-pass_all-loop-argument l = passed l.scope (map formal_of l.rest) (map (checked l.scope l.definitions) (drop l.argument-index l.arguments)) l.before ≡ passed l.scope (map formal_of l.fn.parameters) (map (checked l.scope l.definitions) l.arguments) none_passed

abbrev pub invariant-pass_row-loop-argument : goal.invariant-pass_row-loop-argument
invariant-pass_row-loop-argument l = passed l.scope (map row_formal_of l.rest) (map (checked l.scope l.definitions) (drop l.argument-index l.arguments)) l.before ≡ passed l.scope (map row_formal_of l.fn.params) (map (checked l.scope l.definitions) l.arguments) none_passed
