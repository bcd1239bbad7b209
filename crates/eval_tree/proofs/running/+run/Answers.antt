use Rattle.std.proofs.Common.{arith, rules, refl, sym, ap, ◌∙◌, Err, Some, suc, ◌-◌, subst, length, get_or, map, ◌≡◌}
use Rattle.std.proofs.lemmas.Result.{err_from_is_err_and}
use Rattle.ctl_types.specs.Values.{Env}
use Rattle.ctl_types.specs.Shapes.{size_in}
use Rattle.ctl_types.specs.Run.{Normal}
use Rattle.eval_values.specs.Uncounted.{pixel, found, held, field_in, Gives}
use Rattle.eval_tree.specs.Scene.{pass_argument, run_initialiser, run_operand, run_statement, run_round}
use Rattle.eval_tree.specs.Calls.{passed, seen}
use Rattle.eval_tree.specs.Weight.{link_size, operand_size, step_size, argument_size, initialiser_size, statement_size, arm_size, item_size}
use Rattle.eval_tree.proofs.Lists.{at_most}
use Rattle.eval_tree.proofs.Forms.{links_err, steps_err, steps_more, logic_err, logic_more, logic_stop, unary_done, index_done, field_done, path_err, beq_same, beq_other}
use Rattle.eval_tree.proofs.Loops.{listed_err, listed_more, sequence_err, sequence_more, sequence_left, items_err, items_more, body_err, body_left, body_more, arms_err, arms_true, arms_false, otherwise_done, for_done}
use Rattle.eval_tree.proofs.Functions.{weight_falls, absent_runs, begin_stops, body_stops, body_ends}
use Rattle.eval_tree.proofs.Layers.{arguments_err, callee_err, call_done, library_done, arm_size_is, output_done}
use Rattle.eval_tree.proofs.running.+run.Goals as goal

pub eval-returns-in_ok-value-in-Unary : goal.eval-returns-in_ok-value-in-Unary
eval-returns-in_ok-value-in-Unary t c = unary_done c.args.scene.now c.args.expr.now c.in-Unary.op c.in-Unary.kind c.in-Unary.operand c.get.result.now _ c.in_ok-value-in-Unary.value _ _ _ c.in-Unary.is c.get.ensures c.in_ok-value-in-Unary.ensures (c.unary_value.ensures _ _)

pub eval_links-returns-in_err-value : goal.eval_links-returns-in_err-value
eval_links-returns-in_err-value t c =
    let p = err_from_is_err_and c.from_residual.result c.from_residual.ensures.1 in
    rw (p.1, p.2) (links_err c.args.scene.now c.args.links.now c.loop-link.link-index c.link-item.result c.loop-link.value (pixel c.loop-link.env.items c.loop-link.turns) _ _ _ _ (omega arith) c.link-item.is c.loop-link.invariant c.in_err-value.ensures)

pub eval_logic-returns-in_err-truth : goal.eval_logic-returns-in_err-truth
eval_logic-returns-in_err-truth t c =
    let p = err_from_is_err_and c.from_residual.result c.from_residual.ensures.1 in
    rw (p.1, p.2) (logic_err c.args.scene.now c.args.decider c.args.operands.now c.loop-operand.operand-index c.operand-item.result (pixel c.loop-operand.env.items c.loop-operand.turns) _ _ _ _ (omega arith) c.operand-item.is c.loop-operand.invariant c.in_err-truth.ensures)

pub eval_logic-returns-then-truth-decider : goal.eval_logic-returns-then-truth-decider
eval_logic-returns-then-truth-decider t c = logic_stop c.args.scene.now c.args.decider c.args.operands.now c.loop-operand.operand-index c.operand-item.result (pixel c.loop-operand.env.items c.loop-operand.turns) _ c.in_ok-truth.truth _ (omega arith) c.operand-item.is c.loop-operand.invariant c.in_ok-truth.ensures (beq_same _ _ c.if-truth-decider.true)

pub eval_logic-loop-operand-preserved : goal.eval_logic-loop-operand-preserved
eval_logic-loop-operand-preserved t c = logic_more c.args.scene.now c.args.decider c.args.operands.now c.loop-operand.operand-index c.operand-item.result (pixel c.loop-operand.env.items c.loop-operand.turns) _ c.in_ok-truth.truth _ (omega arith) c.operand-item.is c.loop-operand.invariant c.in_ok-truth.ensures (beq_other _ _ c.if-truth-decider.false)

pub eval_steps-returns-in_err-value : goal.eval_steps-returns-in_err-value
eval_steps-returns-in_err-value t c =
    let p = err_from_is_err_and c.from_residual.result c.from_residual.ensures.1 in
    rw (p.1, p.2) (steps_err c.args.scene.now c.args.steps.now c.loop-step.step-index c.step-item.result c.loop-step.value (pixel c.loop-step.env.items c.loop-step.turns) _ _ _ _ (omega arith) c.step-item.is c.loop-step.invariant c.in_err-value.ensures)

pub eval_steps-loop-step-preserved : goal.eval_steps-loop-step-preserved
eval_steps-loop-step-preserved t c = steps_more c.args.scene.now c.args.steps.now c.loop-step.step-index c.step-item.result c.loop-step.value c.in_ok-value.value (pixel c.loop-step.env.items c.loop-step.turns) _ _ (omega arith) c.step-item.is c.loop-step.invariant c.in_ok-value.ensures

pub eval_step_number-returns-in_ok-index-in-Index : goal.eval_step_number-returns-in_ok-index-in-Index
eval_step_number-returns-in_ok-index-in-Index t c = index_done c.args.scene.now c.args.step.now c.in-Index.index c.in-Index.node (λ env. Some c.args.whole.now) (pixel c.args.env.now.items c.args.turns.now) c.in_ok-index-in-Index.index _ _ _ c.in-Index.is c.in_ok-index-in-Index.ensures (c.element.ensures _ _)

-- ---- places

pub eval_path-returns-in_err-number : goal.eval_path-returns-in_err-number
eval_path-returns-in_err-number t c =
    let p = err_from_is_err_and c.from_residual.result c.from_residual.ensures.1 in
    let e = rw c.as_slice.ensures at c.in_err-number.ensures in
    rw (p.1, p.2) (path_err (λ i. i) (λ path. path) c.args.scene.now c.args.x c.args.steps.now c.loop-step.step-index c.step-item.result c.loop-step.path (pixel c.loop-step.env.items c.loop-step.turns) _ _ _ _ (omega arith) c.step-item.is c.loop-step.invariant e)

pub eval_place_step-returns-in-Field : goal.eval_place_step-returns-in-Field
eval_place_step-returns-in-Field t c = field_done c.args.scene.now c.args.step.now c.in-Field.number (found c.args.x c.args.path.now) (pixel c.args.env.now.items c.args.turns.now) _ _ _ c.in-Field.is (rw c.deref.ensures.value at (c.found_field.ensures c.args.turns.now))

pub eval_place_step-returns-in_ok-index-in-Index : goal.eval_place_step-returns-in_ok-index-in-Index
eval_place_step-returns-in_ok-index-in-Index t c = index_done c.args.scene.now c.args.step.now c.in-Index.index c.in-Index.node (found c.args.x c.args.path.now) (pixel c.args.env.now.items c.args.turns.now) c.in_ok-index-in-Index.index _ _ _ c.in-Index.is c.in_ok-index-in-Index.ensures (rw c.deref-in-Index.ensures.value at (c.found_element.ensures c.eval.new.turns))

-- ---- sizes

pub eval_links-eval_link-requires : goal.eval_links-eval_link-requires
eval_links-eval_link-requires t c = let q = at_most link_size c.args.links.now c.loop-link.link-index c.link-item.result (omega arith) c.link-item.is in let d = c.decreases in search rules

pub eval_logic-eval_truth-requires : goal.eval_logic-eval_truth-requires
eval_logic-eval_truth-requires t c = let q = at_most operand_size c.args.operands.now c.loop-operand.operand-index c.operand-item.result (omega arith) c.operand-item.is in let d = c.decreases in search rules

pub eval_steps-eval_step-requires : goal.eval_steps-eval_step-requires
eval_steps-eval_step-requires t c = let q = at_most step_size c.args.steps.now c.loop-step.step-index c.step-item.result (omega arith) c.step-item.is in let d = c.decreases in search rules

pub eval_path-eval_place_step-requires : goal.eval_path-eval_place_step-requires
eval_path-eval_place_step-requires t c = let q = at_most step_size c.args.steps.now c.loop-step.step-index c.step-item.result (omega arith) c.step-item.is in let d = c.decreases in search rules

pub eval_arguments-eval_argument-requires : goal.eval_arguments-eval_argument-requires
eval_arguments-eval_argument-requires t c = let q = at_most argument_size c.args.arguments.now c.loop-argument.argument-index c.argument-item.result (omega arith) c.argument-item.is in let d = c.decreases in search rules

pub eval_parts-eval_initialiser-requires : goal.eval_parts-eval_initialiser-requires
eval_parts-eval_initialiser-requires t c = let q = at_most initialiser_size c.args.parts.now c.loop-part.part-index c.part-item.result (omega arith) c.part-item.is in let d = c.decreases in search rules

pub exec_all-exec-requires : goal.exec_all-exec-requires
exec_all-exec-requires t c = let q = at_most statement_size c.args.statements.now c.loop-statement.statement-index c.statement-item.result (omega arith) c.statement-item.is in let d = c.decreases in search rules

pub exec_print-exec_item-requires : goal.exec_print-exec_item-requires
exec_print-exec_item-requires t c = let q = at_most item_size c.args.items.now c.loop-item.item-index c.item-item.result (omega arith) c.item-item.is in let d = c.decreases in search rules

pub run_function-exec-requires : goal.run_function-exec-requires
run_function-exec-requires t c =
    let f = ap length c.functions.ensures in
    let q = weight_falls c.args.scene.now.functions c.args.number c.index-functions-number.result (omega arith) (c.index-functions-number.is ∙ ap (λ l. get_or l c.args.number c.index-functions-number.result) c.functions-2.ensures) in
    let d = c.decreases in
    search rules

-- ---- lists

pub eval_arguments-returns-in_err-sent : goal.eval_arguments-returns-in_err-sent
eval_arguments-returns-in_err-sent t c =
    let p = err_from_is_err_and c.from_residual.result c.from_residual.ensures.1 in
    rw (p.1, p.2) (listed_err passed (λ s. s) (pass_argument c.args.scene.now) c.args.arguments.now c.loop-argument.argument-index c.argument-item.result c.loop-argument.sending (pixel c.loop-argument.env.items c.loop-argument.turns) _ _ _ _ (omega arith) c.argument-item.is c.loop-argument.invariant c.in_err-sent.ensures)

pub eval_arguments-loop-argument-preserved : goal.eval_arguments-loop-argument-preserved
eval_arguments-loop-argument-preserved t c = listed_more (pass_argument c.args.scene.now) c.args.arguments.now c.loop-argument.argument-index c.argument-item.result c.loop-argument.sending _ (passed c.in_ok-sent.sent) (pixel c.loop-argument.env.items c.loop-argument.turns) _ _ (omega arith) c.argument-item.is c.loop-argument.invariant c.in_ok-sent.ensures c.in_ok-sending.ensures

pub eval_parts-returns-in_err-value : goal.eval_parts-returns-in_err-value
eval_parts-returns-in_err-value t c =
    let p = err_from_is_err_and c.from_residual.result c.from_residual.ensures.1 in
    rw (p.1, p.2) (listed_err (λ v. v) (λ vs. vs) (run_initialiser c.args.scene.now) c.args.parts.now c.loop-part.part-index c.part-item.result c.loop-part.values (pixel c.loop-part.env.items c.loop-part.turns) _ _ _ _ (omega arith) c.part-item.is c.loop-part.invariant c.in_err-value.ensures)

pub eval_parts-loop-part-preserved : goal.eval_parts-loop-part-preserved
eval_parts-loop-part-preserved t c = listed_more (run_initialiser c.args.scene.now) c.args.parts.now c.loop-part.part-index c.part-item.result c.loop-part.values _ c.in_ok-value.value (pixel c.loop-part.env.items c.loop-part.turns) _ _ (omega arith) c.part-item.is c.loop-part.invariant c.in_ok-value.ensures c.in_ok-push.ensures.ok

-- ---- statements

pub exec_all-returns-in_err-end : goal.exec_all-returns-in_err-end
exec_all-returns-in_err-end t c =
    let p = err_from_is_err_and c.from_residual.result c.from_residual.ensures.1 in
    rw (p.1, p.2) (sequence_err c.args.scene.now c.args.statements.now c.loop-statement.statement-index c.statement-item.result (pixel c.loop-statement.env.items c.loop-statement.turns) _ (omega arith) c.statement-item.is c.loop-statement.invariant _ _ _ c.in_err-end.ensures)

pub exec_print-returns-in_err-exec_item : goal.exec_print-returns-in_err-exec_item
exec_print-returns-in_err-exec_item t c =
    let p = err_from_is_err_and c.from_residual.result c.from_residual.ensures.1 in
    rw (p.1, p.2) (items_err c.args.scene.now c.args.items.now c.loop-item.item-index c.item-item.result (pixel c.loop-item.env.items c.loop-item.turns) _ (omega arith) c.item-item.is c.loop-item.invariant _ _ _ c.in_err-exec_item.ensures)

-- ---- calls

pub eval_call-returns-in_err-sending : goal.eval_call-returns-in_err-sending
eval_call-returns-in_err-sending t c =
    let p = err_from_is_err_and c.from_residual.result c.from_residual.ensures.1 in
    let e = rw c.as_slice-arguments.ensures at c.in_err-sending.ensures in
    rw (p.1, p.2) (arguments_err (λ s. s) c.args.scene.now c.args.call.now (pixel c.args.env.now.items c.args.turns.now) _ _ _ e)

pub eval_output-returns : goal.eval_output-returns
eval_output-returns t c = output_done c.args.scene.now c.args.place.now c.args.conversion (pixel c.args.env.now.items c.args.turns.now) c.in_ok-path.path _ _ _ c.in_ok-path.ensures (rw c.deref.ensures.value at (c.output_at.ensures c.eval_place.new.turns))

pub exec_if-eval_truth-requires : goal.exec_if-eval_truth-requires
exec_if-eval_truth-requires t c = let q = at_most arm_size c.args.arms.now c.loop-arm.arm-index c.arm-item.result (omega arith) c.arm-item.is in let r = arm_size_is c.arm-item.result in let d = c.decreases in search rules

pub exec_if-exec-requires : goal.exec_if-exec-requires
exec_if-exec-requires t c = let q = at_most arm_size c.args.arms.now c.loop-arm.arm-index c.arm-item.result (omega arith) c.arm-item.is in let r = arm_size_is c.arm-item.result in let d = c.decreases in search rules

pub run_function-returns-then-number-functions : goal.run_function-returns-then-number-functions
run_function-returns-then-number-functions t c = let f = ap length c.functions.ensures in absent_runs c.args.scene.now c.args.number c.args.opens.now c.args.frame.now.items c.args.turns.now (omega arith)

pub eval_call-returns-in_err-value : goal.eval_call-returns-in_err-value
eval_call-returns-in_err-value t c =
    let p = err_from_is_err_and c.from_residual-in_err-value.result c.from_residual-in_err-value.ensures.1 in
    let ran = rw c.as_slice-arguments.ensures at c.in_ok-sending.ensures in
    rw (p.1, p.2) (callee_err c.args.scene.now c.args.call.now (pixel c.args.env.now.items c.args.turns.now) c.in_ok-sending.sending _ _ ran _ c.into_parts-frame.ensures.values _ _ _ _ c.in_err-value.ensures)

pub eval_call-returns : goal.eval_call-returns
eval_call-returns t c =
    let ran = rw c.as_slice-arguments.ensures at c.in_ok-sending.ensures in
    let back = rw c.as_slice-arguments.ensures at c.in_ok-bring_back.ensures in
    call_done c.args.scene.now c.args.call.now (pixel c.args.env.now.items c.args.turns.now) c.in_ok-sending.sending _ _ ran _ c.into_parts-frame.ensures.values c.in_ok-value.value _ _ _ c.as_slice.result.now c.in_ok-value.ensures (c.as_slice.ensures ∙ c.into_parts-frame.ensures.paths) back

pub run_callee-returns : goal.run_callee-returns
run_callee-returns t c = library_done c.args.scene.now c.args.call.now.callee c.in-Library.id c.args.call.now.node (map (size_in c.args.scene.now.opens) c.args.call.now.sizes) _ c.args.frame.now.items _ c.args.turns.now c.args.turns.now c.called_library.result c.in-Library.is (search rules) (c.called_library.ensures c.args.turns.now)

pub run_function-returns-in_err-begin : goal.run_function-returns-in_err-begin
run_function-returns-in_err-begin t c =
    let p = err_from_is_err_and c.from_residual.result c.from_residual.ensures.1 in
    let f = ap length c.functions.ensures in
    rw (p.1, p.2) (begin_stops c.args.scene.now c.index-functions-number.result c.args.number c.args.opens.now c.args.frame.now.items c.args.turns.now (omega arith) (c.index-functions-number.is ∙ ap (λ l. get_or l c.args.number c.index-functions-number.result) c.functions-2.ensures) _ _ _ _ (rw c.structs.ensures.result at c.in_err-begin.ensures))

pub run_function-returns-in_err-end : goal.run_function-returns-in_err-end
run_function-returns-in_err-end t c =
    let p = err_from_is_err_and c.from_residual-in_err-end.result c.from_residual-in_err-end.ensures.1 in
    let f = ap length c.functions.ensures in
    rw (p.1, p.2) (body_stops c.args.scene.now c.index-functions-number.result c.args.number c.args.opens.now c.args.frame.now.items c.args.turns.now (omega arith) (c.index-functions-number.is ∙ ap (λ l. get_or l c.args.number c.index-functions-number.result) c.functions-2.ensures) _ _ _ _ (rw c.structs.ensures.result at c.in_ok-begin.ensures) (rw c.within-inner.ensures at c.in_err-end.ensures))

pub run_function-returns : goal.run_function-returns
run_function-returns t c =
    let f = ap length c.functions.ensures in
    body_ends c.args.scene.now c.index-functions-number.result c.args.number c.args.opens.now c.args.frame.now.items c.args.turns.now (omega arith) (c.index-functions-number.is ∙ ap (λ l. get_or l c.args.number c.index-functions-number.result) c.functions-2.ensures) _ _ _ c.in_ok-end.end _ (rw c.structs.ensures.result at c.in_ok-begin.ensures) (rw c.within-inner.ensures at c.in_ok-end.ensures) (rw c.structs-2.ensures.result at (c.ended.ensures c.exec.new.env.items c.exec.new.turns))

-- ---- decisions and loops

pub exec-returns-in_ok-exec_start-in-For : goal.exec-returns-in_ok-exec_start-in-For
exec-returns-in_ok-exec_start-in-For t c = for_done c.args.scene.now c.args.statement.now c.in-For.first c.in-For.test c.in-For.next c.in-For.body c.in-For.node (pixel c.args.env.now.items c.args.turns.now) c.exec_start.new.env.items _ c.exec_start.new.turns _ _ c.in-For.is (search rules) (rw (c.get-in-For-2.ensures, c.get-in-For-3.ensures, c.get-in-For-4.ensures) at c.exec_for.ensures)

pub exec_if-returns-in_err-eval_truth : goal.exec_if-returns-in_err-eval_truth
exec_if-returns-in_err-eval_truth t c =
    let p = err_from_is_err_and c.from_residual.result c.from_residual.ensures.1 in
    rw (p.1, p.2) (arms_err c.args.scene.now c.args.arms.now c.loop-arm.arm-index c.arm-item.result _ (pixel c.loop-arm.env.items c.loop-arm.turns) _ (omega arith) c.arm-item.is c.loop-arm.invariant _ _ _ c.in_err-eval_truth.ensures)

pub exec_if-returns-then-branch : goal.exec_if-returns-then-branch
exec_if-returns-then-branch t c = arms_true c.args.scene.now c.args.arms.now c.loop-arm.arm-index c.arm-item.result _ (pixel c.loop-arm.env.items c.loop-arm.turns) _ (omega arith) c.arm-item.is c.loop-arm.invariant c.in_ok-eval_truth.field-0 _ _ _ _ c.in_ok-eval_truth.ensures (search rules) (rw c.get.ensures at c.exec.ensures)

pub exec_if-loop-arm-preserved : goal.exec_if-loop-arm-preserved
exec_if-loop-arm-preserved t c = arms_false c.args.scene.now c.args.arms.now c.loop-arm.arm-index c.arm-item.result _ (pixel c.loop-arm.env.items c.loop-arm.turns) _ (omega arith) c.arm-item.is c.loop-arm.invariant c.in_ok-eval_truth.field-0 _ c.in_ok-eval_truth.ensures (search rules)

pub exec_if-returns-in-Some : goal.exec_if-returns-in-Some
exec_if-returns-in-Some t c = otherwise_done c.args.scene.now c.args.arms.now c.loop-arm.arm-index c.args.otherwise.now c.in-Some.statement (pixel c.loop-arm.env.items c.loop-arm.turns) _ _ _ _ (omega arith) c.in-Some.is c.loop-arm.invariant (rw c.get-in-Some.ensures at c.exec-in-Some.ensures)

pub exec_while-returns-in_err-end : goal.exec_while-returns-in_err-end
exec_while-returns-in_err-end t c =
    let p = err_from_is_err_and c.from_residual-in_err-end.result c.from_residual-in_err-end.ensures.1 in
    rw (p.1, p.2) (body_err c.args.node (run_operand c.args.scene.now c.args.test.now) (run_statement c.args.scene.now c.args.body.now) c.each.rounds (pixel c.each.env.items c.each.turns) _ c.each.invariant c.in_ok-eval_truth.field-0 c.eval_truth.new.env.items c.eval_truth.new.turns (c.eval_truth.new.turns - 1) c.in_ok-eval_truth.ensures (search rules) (omega arith) _ _ _ c.in_err-end.ensures)

pub exec_while-returns-in-Left : goal.exec_while-returns-in-Left
exec_while-returns-in-Left t c = body_left c.args.node (run_operand c.args.scene.now c.args.test.now) (run_statement c.args.scene.now c.args.body.now) c.each.rounds (pixel c.each.env.items c.each.turns) _ c.each.invariant c.in_ok-eval_truth.field-0 c.eval_truth.new.env.items c.eval_truth.new.turns (c.eval_truth.new.turns - 1) c.in_ok-eval_truth.ensures (search rules) (omega arith) c.in_ok-end.end c.in-Left.value _ c.in_ok-end.ensures c.in-Left.is

pub exec_while-returns-then-rounds-eq0 : goal.exec_while-returns-then-rounds-eq0
exec_while-returns-then-rounds-eq0 t c = sym (body_more c.args.node (run_operand c.args.scene.now c.args.test.now) (run_statement c.args.scene.now c.args.body.now) c.each.rounds (pixel c.each.env.items c.each.turns) _ c.each.invariant c.in_ok-eval_truth.field-0 c.eval_truth.new.env.items c.eval_truth.new.turns (c.eval_truth.new.turns - 1) c.in_ok-eval_truth.ensures (search rules) (omega arith) c.in_ok-end.end _ c.in_ok-end.ensures c.in-Normal.is 0 c.if-rounds-eq0.true)

pub exec_while-each-preserved : goal.exec_while-each-preserved
exec_while-each-preserved t c = body_more c.args.node (run_operand c.args.scene.now c.args.test.now) (run_statement c.args.scene.now c.args.body.now) c.each.rounds (pixel c.each.env.items c.each.turns) _ c.each.invariant c.in_ok-eval_truth.field-0 c.eval_truth.new.env.items c.eval_truth.new.turns (c.eval_truth.new.turns - 1) c.in_ok-eval_truth.ensures (search rules) (omega arith) c.in_ok-end.end _ c.in_ok-end.ensures c.in-Normal.is (suc (c.each.rounds - 1)) (omega arith)

pub exec_for-returns-in_err-end : goal.exec_for-returns-in_err-end
exec_for-returns-in_err-end t c =
    let p = err_from_is_err_and c.from_residual-in_err-end.result c.from_residual-in_err-end.ensures.1 in
    rw (p.1, p.2) (body_err c.args.node (run_operand c.args.scene.now c.args.test.now) (run_round c.args.scene.now c.args.body.now c.args.next.now) c.each.rounds (pixel c.each.env.items c.each.turns) _ c.each.invariant c.in_ok-eval_truth.field-0 c.eval_truth.new.env.items c.eval_truth.new.turns (c.eval_truth.new.turns - 1) c.in_ok-eval_truth.ensures (search rules) (omega arith) _ _ _ c.in_err-end.ensures)

pub exec_for-returns-in-Left : goal.exec_for-returns-in-Left
exec_for-returns-in-Left t c = body_left c.args.node (run_operand c.args.scene.now c.args.test.now) (run_round c.args.scene.now c.args.body.now c.args.next.now) c.each.rounds (pixel c.each.env.items c.each.turns) _ c.each.invariant c.in_ok-eval_truth.field-0 c.eval_truth.new.env.items c.eval_truth.new.turns (c.eval_truth.new.turns - 1) c.in_ok-eval_truth.ensures (search rules) (omega arith) c.in_ok-end.end c.in-Left.value _ c.in_ok-end.ensures c.in-Left.is

pub exec_for-returns-then-rounds-eq0 : goal.exec_for-returns-then-rounds-eq0
exec_for-returns-then-rounds-eq0 t c = sym (body_more c.args.node (run_operand c.args.scene.now c.args.test.now) (run_round c.args.scene.now c.args.body.now c.args.next.now) c.each.rounds (pixel c.each.env.items c.each.turns) _ c.each.invariant c.in_ok-eval_truth.field-0 c.eval_truth.new.env.items c.eval_truth.new.turns (c.eval_truth.new.turns - 1) c.in_ok-eval_truth.ensures (search rules) (omega arith) c.in_ok-end.end _ c.in_ok-end.ensures c.in-Normal.is 0 c.if-rounds-eq0.true)

pub exec_for-each-preserved : goal.exec_for-each-preserved
exec_for-each-preserved t c = body_more c.args.node (run_operand c.args.scene.now c.args.test.now) (run_round c.args.scene.now c.args.body.now c.args.next.now) c.each.rounds (pixel c.each.env.items c.each.turns) _ c.each.invariant c.in_ok-eval_truth.field-0 c.eval_truth.new.env.items c.eval_truth.new.turns (c.eval_truth.new.turns - 1) c.in_ok-eval_truth.ensures (search rules) (omega arith) c.in_ok-end.end _ c.in_ok-end.ensures c.in-Normal.is (suc (c.each.rounds - 1)) (omega arith)
