-- What calls, places, arms and loops are made of.
use Rattle.std.proofs.Common.{◌≡◌, ℕ, ◌+◌, List, [], ◌∷◌, map, refl, ap, sym, ◌∙◌, Option, Some, None, Result, Ok, Err}
use Rattle.ctl_types.specs.declared.value.Value.{Value}
use Rattle.ctl_types.specs.declared.expression.Argument.{Argument, out-Argument}
use Rattle.ctl_types.specs.declared.expression.TypedExpr.{TypedExpr}
use Rattle.ctl_types.specs.declared.expression.TypedStep.{TypedStep}
use Rattle.ctl_types.specs.declared.expression.Operand.{Operand}
use Rattle.ctl_types.specs.declared.expression.TypedCall.{TypedCall}
use Rattle.ctl_types.specs.declared.expression.TypedLink.{TypedLink}
use Rattle.ctl_types.specs.declared.expression.TypedPlace.{TypedPlace}
use Rattle.ctl_types.specs.declared.expression.Argument.TheOpen as form
use Rattle.ctl_types.specs.declared.expression.Argument.TheOpen.{Argument-F, TypedCall-F, TypedPlace-F}
use Rattle.ctl_types.specs.declared.expression.Argument.TheFolds.{fold_out-Argument, map-Argument, fold_out-TypedCall, fold_out-TypedPlace}
use Rattle.std.proofs.Common.{subst}
use Rattle.ctl_types.specs.declared.expression.Conversion.{Conversion}
use Rattle.ctl_types.specs.declared.expression.Callee.{Callee}
use Rattle.ctl_types.specs.declared.expression.Callee.TheVariants as callee
use Rattle.ctl_base.specs.declared.kind.Node.{Node}
use Rattle.ctl_stdlib.specs.declared.row.LibraryId.{LibraryId}
use Rattle.ctl_types.specs.declared.statement.Arm.{Arm}
use Rattle.ctl_types.specs.declared.statement.TypedStatement.TheFolds.{fold_out-Arm}
use Rattle.ctl_types.specs.Shapes.{size_in}
use Rattle.ctl_types.specs.Values.{Env, scalars}
use Rattle.eval_values.specs.declared.stop.Stop.{Stop}
use Rattle.eval_values.specs.declared.stop.Stop.TheVariants as stop
use Rattle.eval_tree.specs.declared.sending.Sent.{Sent}
use Rattle.eval_tree.specs.Calls.{passed, target_in, target_of, brought_into, with_defaults, defaults_of, comes_of}
use Rattle.eval_tree.specs.Weight.{arm_size, arm_weight, statement_weight, operand_size, statement_size}
use Rattle.eval_tree.proofs.Forms.{stopped, after}
use Rattle.eval_tree.proofs.Frames.{back, called_is, came_back}
use Rattle.ctl_types.specs.Run as run
use Rattle.ctl_types.specs.Run.{Passed, Target}
use Rattle.eval_values.specs.Uncounted.{free, Pixel, Outcome, Run, pixel, go_on, give, held, Gives, Comes, Called, Came, listed, found, convert, pass_value, pass_output, callee_of, function_at}
use Rattle.eval_tree.specs.Scene.{SceneForm, setting, run_argument, run_expr, run_step, run_operand, run_call, run_link, run_place, pass_argument}

-- the visit of an expression changes nothing where it is not counted
pub evaluated_is : (r : Run Value) (p : Pixel) → run.evaluated (Unit {0}) free r p ≡ r p
evaluated_is r p = by (r p) where
  by : (o : Outcome Value) → go_on o (λ (v : Value) p. give v (run.paid (Unit {0}) free (1 + scalars v) p)) ≡ o
  by (Ok got) = refl
  by (Err fault) = refl

passes : (s : SceneForm) (arguments : List Argument) → map (λ (a : run.ArgumentRun (Unit {0}) free). a.run) (map (run_argument s) arguments) ≡ map (pass_argument s) arguments
passes s [] = refl
passes s (a ∷ arguments) = ap (λ l. pass_argument s a ∷ l) (passes s arguments)

place_variable : (s : SceneForm) (place : TypedPlace) → (run_place s place).variable ≡ place.variable
place_variable s place =
    let f = run.run_fold (Unit {0}) free (setting s) in
    ap (λ (r : run.PlaceRun (Unit {0}) free). r.variable) (fold_out-TypedPlace (run.ArgumentRun (Unit {0}) free) (Run Value) (run.StepRun (Unit {0}) free) (Run Value) (Run Value) (run.LinkRun (Unit {0}) free) (run.PlaceRun (Unit {0}) free) f.argument f.expr f.step f.operand f.call f.link f.place place)

target_is : (s : SceneForm) (a : Argument) → (run_argument s a).target ≡ target_of a
target_is s a =
    let f = run.run_fold (Unit {0}) free (setting s) in
    ap (λ (r : run.ArgumentRun (Unit {0}) free). r.target) (fold_out-Argument (run.ArgumentRun (Unit {0}) free) (Run Value) (run.StepRun (Unit {0}) free) (Run Value) (Run Value) (run.LinkRun (Unit {0}) free) (run.PlaceRun (Unit {0}) free) f.argument f.expr f.step f.operand f.call f.link f.place a) ∙ by (out-Argument a) where
      by : (x : Argument-F Argument TypedExpr TypedStep Operand TypedCall TypedLink TypedPlace) → (run.argument_step (Unit {0}) free (map-Argument Argument TypedExpr TypedStep Operand TypedCall TypedLink TypedPlace (run.ArgumentRun (Unit {0}) free) (Run Value) (run.StepRun (Unit {0}) free) (Run Value) (Run Value) (run.LinkRun (Unit {0}) free) (run.PlaceRun (Unit {0}) free) (run_argument s) (run_expr s) (run_step s) (run_operand s) (run_call s) (run_link s) (run_place s) x)).target ≡ target_in x
      by (form.Input o node) = refl
      by (form.Output place c node) = ap (λ x. Some (record { variable = x; conversion = c })) (place_variable s place)
      by form.Missing = refl

targets : (s : SceneForm) (arguments : List Argument) → map (λ (a : run.ArgumentRun (Unit {0}) free). a.target) (map (run_argument s) arguments) ≡ map target_of arguments
targets s [] = refl
targets s (a ∷ arguments) = ap (λ t. t ∷ map (λ (a : run.ArgumentRun (Unit {0}) free). a.target) (map (run_argument s) arguments)) (target_is s a) ∙ ap (λ l. target_of a ∷ l) (targets s arguments)

call_form : (s : SceneForm) (call : TypedCall) (p : Pixel) → run_call s call p ≡ go_on (listed (map (pass_argument s) call.arguments) p) (λ qs. held (callee_of (setting s) call.callee call.node) (run.called (Unit {0}) free (map (size_in s.opens) call.sizes) (map target_of call.arguments) qs))
call_form s call p =
    let f = run.run_fold (Unit {0}) free (setting s) in
    ap (λ (r : Run Value). r p) (fold_out-TypedCall (run.ArgumentRun (Unit {0}) free) (Run Value) (run.StepRun (Unit {0}) free) (Run Value) (Run Value) (run.LinkRun (Unit {0}) free) (run.PlaceRun (Unit {0}) free) f.argument f.expr f.step f.operand f.call f.link f.place call)
    ∙ evaluated_is (λ p. go_on (listed (map (λ (a : run.ArgumentRun (Unit {0}) free). a.run) (map (run_argument s) call.arguments)) p) (λ qs. held (callee_of (setting s) call.callee call.node) (run.called (Unit {0}) free (map (size_in s.opens) call.sizes) (map (λ (a : run.ArgumentRun (Unit {0}) free). a.target) (map (run_argument s) call.arguments)) qs))) p
    ∙ ap (λ runs. go_on (listed runs p) (λ qs. held (callee_of (setting s) call.callee call.node) (run.called (Unit {0}) free (map (size_in s.opens) call.sizes) (map (λ (a : run.ArgumentRun (Unit {0}) free). a.target) (map (run_argument s) call.arguments)) qs))) (passes s call.arguments)
    ∙ ap (λ ts. go_on (listed (map (pass_argument s) call.arguments) p) (λ qs. held (callee_of (setting s) call.callee call.node) (run.called (Unit {0}) free (map (size_in s.opens) call.sizes) ts qs))) (targets s call.arguments)

pub arguments_err : {X : Type 0} (view : X → List Passed) (s : SceneForm) (call : TypedCall) (p : Pixel) (env : Env) (turns : ℕ) (e : Stop) → Gives {V = X} view (Err e) env turns (listed (map (pass_argument s) call.arguments) p) → Gives {V = Value} (λ v. v) (Err e) env turns (run_call s call p)
arguments_err {X} view s call p env turns e x = subst (Gives {V = Value} (λ v. v) (Err e) env turns) (sym (call_form s call p)) (stopped {V = X} {X = Value} view (λ v. v) e env turns (listed (map (pass_argument s) call.arguments) p) (λ qs. held (callee_of (setting s) call.callee call.node) (run.called (Unit {0}) free (map (size_in s.opens) call.sizes) (map target_of call.arguments) qs)) x)

module _ (s : SceneForm) (call : TypedCall) (p : Pixel) (qs : List Passed) (env : Env) (turns : ℕ) (ran : listed (map (pass_argument s) call.arguments) p ≡ Ok (record { value = qs; after = pixel env turns })) (frame : Env) (values : frame ≡ map (λ (q : Passed). q.value) qs) where
  rest : run_call s call p ≡ back (map target_of call.arguments) qs env (comes_of (callee_of (setting s) call.callee call.node) (map (size_in s.opens) call.sizes) frame turns)
  rest = call_form s call p ∙ ap (λ o. go_on o (λ qs. held (callee_of (setting s) call.callee call.node) (run.called (Unit {0}) free (map (size_in s.opens) call.sizes) (map target_of call.arguments) qs))) ran ∙ called_is (callee_of (setting s) call.callee call.node) (map (size_in s.opens) call.sizes) (map target_of call.arguments) qs env turns ∙ ap (λ frame. back (map target_of call.arguments) qs env (comes_of (callee_of (setting s) call.callee call.node) (map (size_in s.opens) call.sizes) frame turns)) (sym values)

  pub callee_err : (frame' env' : Env) (turns' : ℕ) (e : Stop) → Comes (Err e) frame' turns' (comes_of (callee_of (setting s) call.callee call.node) (map (size_in s.opens) call.sizes) frame turns) → Gives {V = Value} (λ v. v) (Err e) env' turns' (run_call s call p)
  callee_err frame' env' turns' (stop.Trap kind node) x = rest ∙ ap (back (map target_of call.arguments) qs env) x
  callee_err frame' env' turns' stop.Wrong x = rest ∙ ap (back (map target_of call.arguments) qs env) x
  callee_err frame' env' turns' stop.Memory x = tt

  pub call_done : (v : Value) (frame' env' : Env) (turns' : ℕ) (paths : List (List ℕ)) → comes_of (callee_of (setting s) call.callee call.node) (map (size_in s.opens) call.sizes) frame turns ≡ Ok (record { value = v; frame = frame'; turns = turns'; spent = tt }) → paths ≡ map (λ (q : Passed). q.path) qs → env' ≡ brought_into (map target_of call.arguments) paths frame' env → run_call s call p ≡ Ok (record { value = v; after = pixel env' turns' })
  call_done v frame' env' turns' paths x ways e = rest ∙ ap (back (map target_of call.arguments) qs env) x ∙ came_back (map target_of call.arguments) qs env v frame' turns' ∙ ap (λ env. Ok (record { value = v; after = pixel env turns' })) (ap (λ l. brought_into (map target_of call.arguments) l frame' env) (sym ways) ∙ sym e)

pub output_done : (s : SceneForm) (place : TypedPlace) (c : Conversion) (p : Pixel) (path : List ℕ) (env : Env) (turns : ℕ) (res : Result Sent Stop) → (run_place s place).path p ≡ Ok (record { value = path; after = pixel env turns }) → Gives passed res env turns (held (found place.variable path env) (λ (v : Value) p. go_on (convert c v p) (pass_value path)) (pixel env turns)) → Gives passed res env turns (pass_output (run_place s place) c p)
output_done s place c p path env turns res ran h = after passed res path env env turns turns ((run_place s place).path p) (λ path p. held (found (run_place s place).variable path p.env) (λ (v : Value) p. go_on (convert c v p) (pass_value path)) p) ran (subst (λ x. Gives passed res env turns (held (found x path env) (λ (v : Value) p. go_on (convert c v p) (pass_value path)) (pixel env turns))) (sym (place_variable s place)) h)

come : (res : Result Value Stop) (env : Env) (turns : ℕ) (a b : Result Came run.Fault) → a ≡ b → Comes res env turns b → Comes res env turns a
come res env turns a b q y = subst (Comes res env turns) (sym q) y

pub arm_size_is : (a : Arm) → arm_size a ≡ 8 + (operand_size a.test + statement_size a.body)
arm_size_is a = fold_out-Arm ℕ ℕ statement_weight arm_weight a

pub library_done : (s : SceneForm) (c : Callee) (id : LibraryId) (node : Node) (sizes opens : List ℕ) (frame env : Env) (turns turns' : ℕ) (res : Result Value Stop) → c ≡ callee.Library id → opens ≡ sizes → Comes res env turns' (comes_of (callee_of (setting s) (callee.Library id) node) opens frame turns) → Comes res env turns' (comes_of (callee_of (setting s) c node) sizes frame turns)
library_done s c id node sizes opens frame env turns turns' res is o y = come res env turns' _ _ (ap (λ c. comes_of (callee_of (setting s) c node) sizes frame turns) is ∙ ap (λ opens. comes_of (callee_of (setting s) (callee.Library id) node) opens frame turns) (sym o)) y
