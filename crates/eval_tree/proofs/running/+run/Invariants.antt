use Rattle.std.proofs.Common.{◌≡◌, ◌+◌, suc, map, drop, []}
use Rattle.eval_values.specs.Size.{total}
use Rattle.eval_values.specs.Uncounted.{pixel, linked, decided, steps_run, path_run, listed, sequence, arms_run, otherwise_run, rounds, loop_run}
use Rattle.eval_tree.specs.Scene.{run_link, run_operand, run_step, pass_argument, run_initialiser, run_statement, run_arm, run_round, run_items, statement_of}
use Rattle.eval_tree.specs.Weight.{weight, expr_size, operand_size, link_size, step_size, place_size, call_size, argument_size, initialiser_size, declaration_size, first_size, assignment_size, start_size, item_size, otherwise_size, return_size, statement_size, arm_size}
use Rattle.eval_tree.proofs.Loops.{onto}
use Rattle.eval_tree.proofs.running.+run.Given as goal

abbrev pub invariant-eval_links-loop-link : goal.invariant-eval_links-loop-link
invariant-eval_links-loop-link l = linked (map (run_link l.scene) (drop l.link-index l.links)) l.value (pixel l.env.items l.turns) ≡ linked (map (run_link l.scene) l.links) l.fn.first (pixel l.fn.env.items l.fn.turns)

abbrev pub invariant-eval_logic-loop-operand : goal.invariant-eval_logic-loop-operand
invariant-eval_logic-loop-operand l = decided l.decider (map (run_operand l.scene) (drop l.operand-index l.operands)) (pixel l.env.items l.turns) ≡ decided l.decider (map (run_operand l.scene) l.operands) (pixel l.fn.env.items l.fn.turns)

abbrev pub invariant-eval_steps-loop-step : goal.invariant-eval_steps-loop-step
invariant-eval_steps-loop-step l = steps_run (map (run_step l.scene) (drop l.step-index l.steps)) l.value (pixel l.env.items l.turns) ≡ steps_run (map (run_step l.scene) l.steps) l.fn.whole (pixel l.fn.env.items l.fn.turns)

abbrev pub invariant-eval_path-loop-step : goal.invariant-eval_path-loop-step
invariant-eval_path-loop-step l = path_run l.x (map (run_step l.scene) (drop l.step-index l.steps)) l.path (pixel l.env.items l.turns) ≡ path_run l.x (map (run_step l.scene) l.steps) [] (pixel l.fn.env.items l.fn.turns)

abbrev pub invariant-eval_arguments-loop-argument : goal.invariant-eval_arguments-loop-argument
invariant-eval_arguments-loop-argument l = onto l.sending (listed (map (pass_argument l.scene) (drop l.argument-index l.arguments)) (pixel l.env.items l.turns)) ≡ listed (map (pass_argument l.scene) l.arguments) (pixel l.fn.env.items l.fn.turns)

abbrev pub invariant-eval_parts-loop-part : goal.invariant-eval_parts-loop-part
invariant-eval_parts-loop-part l = onto l.values (listed (map (run_initialiser l.scene) (drop l.part-index l.parts)) (pixel l.env.items l.turns)) ≡ listed (map (run_initialiser l.scene) l.parts) (pixel l.fn.env.items l.fn.turns)

abbrev pub invariant-exec_all-loop-statement : goal.invariant-exec_all-loop-statement
invariant-exec_all-loop-statement l = sequence (map (run_statement l.scene) (drop l.statement-index l.statements)) (pixel l.env.items l.turns) ≡ sequence (map (run_statement l.scene) l.statements) (pixel l.fn.env.items l.fn.turns)

abbrev pub invariant-exec_if-loop-arm : goal.invariant-exec_if-loop-arm
invariant-exec_if-loop-arm l = arms_run (map (run_arm l.scene) (drop l.arm-index l.arms)) (otherwise_run (statement_of l.scene l.otherwise)) (pixel l.env.items l.turns) ≡ arms_run (map (run_arm l.scene) l.arms) (otherwise_run (statement_of l.scene l.otherwise)) (pixel l.fn.env.items l.fn.turns)

abbrev pub invariant-exec_while-each : goal.invariant-exec_while-each
invariant-exec_while-each l = rounds (suc l.rounds) l.node (run_operand l.scene l.test) (run_statement l.scene l.body) (pixel l.env.items l.turns) ≡ loop_run l.node (run_operand l.scene l.test) (run_statement l.scene l.body) (pixel l.fn.env.items l.fn.turns)

abbrev pub invariant-exec_for-each : goal.invariant-exec_for-each
invariant-exec_for-each l = rounds (suc l.rounds) l.node (run_operand l.scene l.test) (run_round l.scene l.body l.next) (pixel l.env.items l.turns) ≡ loop_run l.node (run_operand l.scene l.test) (run_round l.scene l.body l.next) (pixel l.fn.env.items l.fn.turns)

abbrev pub invariant-exec_print-loop-item : goal.invariant-exec_print-loop-item
invariant-exec_print-loop-item l = run_items l.scene (drop l.item-index l.items) (pixel l.env.items l.turns) ≡ run_items l.scene l.items (pixel l.fn.env.items l.fn.turns)

abbrev pub decreases-exec_while-each : goal.decreases-exec_while-each
decreases-exec_while-each l = l.rounds

abbrev pub decreases-exec_for-each : goal.decreases-exec_for-each
decreases-exec_for-each l = l.rounds

-- ---- sizes, beside the weight of the functions that may be called

abbrev pub decreases-eval : goal.decreases-eval
decreases-eval l = weight l.scene.now.functions + expr_size l.expr.now

abbrev pub decreases-eval_operand : goal.decreases-eval_operand
decreases-eval_operand l = weight l.scene.now.functions + operand_size l.operand.now

abbrev pub decreases-eval_links : goal.decreases-eval_links
decreases-eval_links l = weight l.scene.now.functions + (total (map link_size l.links.now) + 1)

abbrev pub decreases-eval_link : goal.decreases-eval_link
decreases-eval_link l = weight l.scene.now.functions + link_size l.link.now

abbrev pub decreases-eval_logic : goal.decreases-eval_logic
decreases-eval_logic l = weight l.scene.now.functions + (total (map operand_size l.operands.now) + 2)

abbrev pub decreases-eval_truth : goal.decreases-eval_truth
decreases-eval_truth l = weight l.scene.now.functions + (operand_size l.operand.now + 1)

abbrev pub decreases-eval_steps : goal.decreases-eval_steps
decreases-eval_steps l = weight l.scene.now.functions + (total (map step_size l.steps.now) + 2)

abbrev pub decreases-eval_step : goal.decreases-eval_step
decreases-eval_step l = weight l.scene.now.functions + (step_size l.step.now + 1)

abbrev pub decreases-eval_step_number : goal.decreases-eval_step_number
decreases-eval_step_number l = weight l.scene.now.functions + step_size l.step.now

abbrev pub decreases-eval_place : goal.decreases-eval_place
decreases-eval_place l = weight l.scene.now.functions + place_size l.place.now

abbrev pub decreases-eval_path : goal.decreases-eval_path
decreases-eval_path l = weight l.scene.now.functions + (total (map step_size l.steps.now) + 1)

abbrev pub decreases-eval_place_step : goal.decreases-eval_place_step
decreases-eval_place_step l = weight l.scene.now.functions + step_size l.step.now

abbrev pub decreases-eval_call : goal.decreases-eval_call
decreases-eval_call l = weight l.scene.now.functions + call_size l.call.now

abbrev pub decreases-eval_arguments : goal.decreases-eval_arguments
decreases-eval_arguments l = weight l.scene.now.functions + (total (map argument_size l.arguments.now) + 1)

abbrev pub decreases-eval_argument : goal.decreases-eval_argument
decreases-eval_argument l = weight l.scene.now.functions + argument_size l.argument.now

abbrev pub decreases-eval_output : goal.decreases-eval_output
decreases-eval_output l = weight l.scene.now.functions + (place_size l.place.now + 1)

abbrev pub decreases-run_callee : goal.decreases-run_callee
decreases-run_callee l = weight l.scene.now.functions + 1

abbrev pub decreases-run_function : goal.decreases-run_function
decreases-run_function l = weight l.scene.now.functions

abbrev pub decreases-eval_initialiser : goal.decreases-eval_initialiser
decreases-eval_initialiser l = weight l.scene.now.functions + initialiser_size l.initialiser.now

abbrev pub decreases-eval_parts : goal.decreases-eval_parts
decreases-eval_parts l = weight l.scene.now.functions + (total (map initialiser_size l.parts.now) + 1)

abbrev pub decreases-exec : goal.decreases-exec
decreases-exec l = weight l.scene.now.functions + statement_size l.statement.now

abbrev pub decreases-exec_all : goal.decreases-exec_all
decreases-exec_all l = weight l.scene.now.functions + (total (map statement_size l.statements.now) + 1)

abbrev pub decreases-exec_if : goal.decreases-exec_if
decreases-exec_if l = weight l.scene.now.functions + (total (map arm_size l.arms.now) + (otherwise_size l.otherwise.now + 1))

abbrev pub decreases-exec_while : goal.decreases-exec_while
decreases-exec_while l = weight l.scene.now.functions + (operand_size l.test.now + (statement_size l.body.now + 2))

abbrev pub decreases-exec_for : goal.decreases-exec_for
decreases-exec_for l = weight l.scene.now.functions + (operand_size l.test.now + (assignment_size l.next.now + (statement_size l.body.now + 3)))

abbrev pub decreases-exec_round : goal.decreases-exec_round
decreases-exec_round l = weight l.scene.now.functions + (assignment_size l.next.now + (statement_size l.body.now + 1))

abbrev pub decreases-exec_start : goal.decreases-exec_start
decreases-exec_start l = weight l.scene.now.functions + start_size l.start.now

abbrev pub decreases-exec_declaration : goal.decreases-exec_declaration
decreases-exec_declaration l = weight l.scene.now.functions + declaration_size l.declaration.now

abbrev pub decreases-eval_first : goal.decreases-eval_first
decreases-eval_first l = weight l.scene.now.functions + (first_size l.declaration.now.first + 1)

abbrev pub decreases-exec_assignment : goal.decreases-exec_assignment
decreases-exec_assignment l = weight l.scene.now.functions + assignment_size l.assignment.now

abbrev pub decreases-exec_return : goal.decreases-exec_return
decreases-exec_return l = weight l.scene.now.functions + (return_size l.operand.now + 1)

abbrev pub decreases-exec_print : goal.decreases-exec_print
decreases-exec_print l = weight l.scene.now.functions + (total (map item_size l.items.now) + 1)

abbrev pub decreases-exec_item : goal.decreases-exec_item
decreases-exec_item l = weight l.scene.now.functions + item_size l.item.now
