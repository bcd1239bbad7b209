use Rattle.std.proofs.Common.{◌≡◌, map, drop}
use Rattle.ctl_check_size.specs.Constants.{all_parts, step_of_size, operand_of_size, link_of_size}
use Rattle.ctl_check_size.proofs.Lists.{behind}
use Rattle.ctl_check_size.proofs.constants.+sizing.Given as goal

abbrev pub invariant-operands_of_size-loop-operand : goal.invariant-operands_of_size-loop-operand
invariant-operands_of_size-loop-operand l = behind l.forms (all_parts (map operand_of_size (drop l.operand-index l.operands))) ≡ all_parts (map operand_of_size l.operands)

abbrev pub invariant-links_of_size-loop-link : goal.invariant-links_of_size-loop-link
invariant-links_of_size-loop-link l = behind l.forms (all_parts (map link_of_size (drop l.link-index l.links))) ≡ all_parts (map link_of_size l.links)

abbrev pub invariant-steps_of_size-loop-step : goal.invariant-steps_of_size-loop-step
invariant-steps_of_size-loop-step l = behind l.forms (all_parts (map step_of_size (drop l.step-index l.steps))) ≡ all_parts (map step_of_size l.steps)
