-- The folds of the typed forms, one layer at a time.
use Rattle.std.proofs.Common.{◌≡◌, ℕ, ℤ, List, Option, ap}
use Rattle.ctl_types.specs.declared.shape.Base.{Base}
use Rattle.ctl_types.specs.declared.value.Value.{Value, roll-Value}
use Rattle.ctl_types.specs.declared.value.Value.TheOpen.{Value-F}
use Rattle.ctl_types.specs.declared.value.Value.TheFolds.{fold-roll-Value, map-Value}
use Rattle.ctl_types.specs.declared.program.Struct.{Struct}
use Rattle.ctl_types.specs.declared.statement.Initialiser.{Initialiser, roll-Initialiser}
use Rattle.ctl_types.specs.declared.statement.Initialiser.TheOpen.{Initialiser-F}
use Rattle.ctl_types.specs.declared.statement.Initialiser.TheFolds.{fold-roll-Initialiser, map-Initialiser}
use Rattle.ctl_types.specs.declared.statement.TypedStatement.{TypedStatement, roll-TypedStatement}
use Rattle.ctl_types.specs.declared.statement.Arm.{Arm}
use Rattle.ctl_types.specs.declared.statement.TypedStatement.TheOpen.{TypedStatement-F}
use Rattle.ctl_types.specs.declared.statement.TypedStatement.TheFolds.{fold-Arm, fold-roll-TypedStatement, map-TypedStatement}
use Rattle.ctl_types.specs.declared.expression.Argument.{Argument, roll-Argument}
use Rattle.ctl_types.specs.declared.expression.TypedExpr.{TypedExpr, roll-TypedExpr}
use Rattle.ctl_types.specs.declared.expression.TypedStep.{TypedStep, roll-TypedStep}
use Rattle.ctl_types.specs.declared.expression.Operand.{Operand, roll-Operand}
use Rattle.ctl_types.specs.declared.expression.TypedCall.{TypedCall, roll-TypedCall}
use Rattle.ctl_types.specs.declared.expression.TypedLink.{TypedLink, roll-TypedLink}
use Rattle.ctl_types.specs.declared.expression.TypedPlace.{TypedPlace, roll-TypedPlace}
use Rattle.ctl_types.specs.declared.expression.Argument.TheOpen.{Argument-F, TypedExpr-F, TypedStep-F, Operand-F, TypedCall-F, TypedLink-F, TypedPlace-F}
use Rattle.ctl_types.specs.declared.expression.Argument.TheFolds.{fold-roll-Argument, map-Argument, fold-roll-TypedExpr, map-TypedExpr, fold-roll-TypedStep, map-TypedStep, fold-roll-Operand, map-Operand, fold-roll-TypedCall, map-TypedCall, fold-roll-TypedLink, map-TypedLink, fold-roll-TypedPlace, map-TypedPlace}
use Rattle.ctl_types.specs.Folds.{argument_fold, step_fold, operand_fold, link_fold}
use Rattle.ctl_types.specs.Values.{Env, Fit, fit_step, fits, Likeness, alike_step, alike, flat_step, flat}
use Rattle.ctl_types.specs.Typing.{Typed, OperandType, Variables, Scene, Passing, PlaceType, type_fold, type_argument, type_form, type_step, type_operand, type_call, type_link, type_place, expr_type, call_form_type, place_type, type_initialiser, initialiser_type}
use Rattle.ctl_types.specs.Scoping.{Scope, Scoping, scope_step, scope_arm, scope_statement}
use Rattle.ctl_types.specs.Run.{Pixel, End, ArgumentRun, Run, ArmRun, StepRun, LinkRun, PlaceRun, Setting, run_fold, argument_step, expr_step, step_step, operand_step, call_step, link_step, place_step, run_expr, run_operand, run_call, run_place, initialiser_step, run_initialiser, statement_step, arm_step, run_statement}

-- the run of each form, applied
module _ (C : Type 0) (pay : ℕ → C → C) (s : Setting C pay) where
  abbrev pub run_argument : Argument → ArgumentRun C pay
  run_argument = argument_fold (run_fold C pay s)

  abbrev pub run_step : TypedStep → StepRun C pay
  run_step = step_fold (run_fold C pay s)

  abbrev pub run_link : TypedLink → LinkRun C pay
  run_link = link_fold (run_fold C pay s)

  pub argument_runs : (x : Argument-F Argument TypedExpr TypedStep Operand TypedCall TypedLink TypedPlace) → run_argument (roll-Argument x) ≡ argument_step C pay (map-Argument Argument TypedExpr TypedStep Operand TypedCall TypedLink TypedPlace (ArgumentRun C pay) (Run C pay Value) (StepRun C pay) (Run C pay Value) (Run C pay Value) (LinkRun C pay) (PlaceRun C pay) (run_argument) (run_expr C pay s) (run_step) (run_operand C pay s) (run_call C pay s) (run_link) (run_place C pay s) x)
  argument_runs x = (fold-roll-Argument (ArgumentRun C pay) (Run C pay Value) (StepRun C pay) (Run C pay Value) (Run C pay Value) (LinkRun C pay) (PlaceRun C pay) (run_fold C pay s).argument (run_fold C pay s).expr (run_fold C pay s).step (run_fold C pay s).operand (run_fold C pay s).call (run_fold C pay s).link (run_fold C pay s).place x)

  pub expr_runs : (x : TypedExpr-F Argument TypedExpr TypedStep Operand TypedCall TypedLink TypedPlace) (p : Pixel C pay) → run_expr C pay s (roll-TypedExpr x) p ≡ expr_step C pay s (map-TypedExpr Argument TypedExpr TypedStep Operand TypedCall TypedLink TypedPlace (ArgumentRun C pay) (Run C pay Value) (StepRun C pay) (Run C pay Value) (Run C pay Value) (LinkRun C pay) (PlaceRun C pay) (run_argument) (run_expr C pay s) (run_step) (run_operand C pay s) (run_call C pay s) (run_link) (run_place C pay s) x) p
  expr_runs x p = ap (λ (r : Run C pay Value). r p) (fold-roll-TypedExpr (ArgumentRun C pay) (Run C pay Value) (StepRun C pay) (Run C pay Value) (Run C pay Value) (LinkRun C pay) (PlaceRun C pay) (run_fold C pay s).argument (run_fold C pay s).expr (run_fold C pay s).step (run_fold C pay s).operand (run_fold C pay s).call (run_fold C pay s).link (run_fold C pay s).place x)

  pub step_runs : (x : TypedStep-F Argument TypedExpr TypedStep Operand TypedCall TypedLink TypedPlace) (find : Env → Option Value) (p : Pixel C pay) → run_step (roll-TypedStep x) find p ≡ step_step C pay (map-TypedStep Argument TypedExpr TypedStep Operand TypedCall TypedLink TypedPlace (ArgumentRun C pay) (Run C pay Value) (StepRun C pay) (Run C pay Value) (Run C pay Value) (LinkRun C pay) (PlaceRun C pay) (run_argument) (run_expr C pay s) (run_step) (run_operand C pay s) (run_call C pay s) (run_link) (run_place C pay s) x) find p
  step_runs x find p = ap (λ (r : StepRun C pay). r find p) (fold-roll-TypedStep (ArgumentRun C pay) (Run C pay Value) (StepRun C pay) (Run C pay Value) (Run C pay Value) (LinkRun C pay) (PlaceRun C pay) (run_fold C pay s).argument (run_fold C pay s).expr (run_fold C pay s).step (run_fold C pay s).operand (run_fold C pay s).call (run_fold C pay s).link (run_fold C pay s).place x)

  pub operand_runs : (x : Operand-F Argument TypedExpr TypedStep Operand TypedCall TypedLink TypedPlace) (p : Pixel C pay) → run_operand C pay s (roll-Operand x) p ≡ operand_step C pay (map-Operand Argument TypedExpr TypedStep Operand TypedCall TypedLink TypedPlace (ArgumentRun C pay) (Run C pay Value) (StepRun C pay) (Run C pay Value) (Run C pay Value) (LinkRun C pay) (PlaceRun C pay) (run_argument) (run_expr C pay s) (run_step) (run_operand C pay s) (run_call C pay s) (run_link) (run_place C pay s) x) p
  operand_runs x p = ap (λ (r : Run C pay Value). r p) (fold-roll-Operand (ArgumentRun C pay) (Run C pay Value) (StepRun C pay) (Run C pay Value) (Run C pay Value) (LinkRun C pay) (PlaceRun C pay) (run_fold C pay s).argument (run_fold C pay s).expr (run_fold C pay s).step (run_fold C pay s).operand (run_fold C pay s).call (run_fold C pay s).link (run_fold C pay s).place x)

  pub call_runs : (x : TypedCall-F Argument TypedExpr TypedStep Operand TypedCall TypedLink TypedPlace) (p : Pixel C pay) → run_call C pay s (roll-TypedCall x) p ≡ call_step C pay s (map-TypedCall Argument TypedExpr TypedStep Operand TypedCall TypedLink TypedPlace (ArgumentRun C pay) (Run C pay Value) (StepRun C pay) (Run C pay Value) (Run C pay Value) (LinkRun C pay) (PlaceRun C pay) (run_argument) (run_expr C pay s) (run_step) (run_operand C pay s) (run_call C pay s) (run_link) (run_place C pay s) x) p
  call_runs x p = ap (λ (r : Run C pay Value). r p) (fold-roll-TypedCall (ArgumentRun C pay) (Run C pay Value) (StepRun C pay) (Run C pay Value) (Run C pay Value) (LinkRun C pay) (PlaceRun C pay) (run_fold C pay s).argument (run_fold C pay s).expr (run_fold C pay s).step (run_fold C pay s).operand (run_fold C pay s).call (run_fold C pay s).link (run_fold C pay s).place x)

  pub link_runs : (x : TypedLink-F Argument TypedExpr TypedStep Operand TypedCall TypedLink TypedPlace) (v : Value) (p : Pixel C pay) → run_link (roll-TypedLink x) v p ≡ link_step C pay (map-TypedLink Argument TypedExpr TypedStep Operand TypedCall TypedLink TypedPlace (ArgumentRun C pay) (Run C pay Value) (StepRun C pay) (Run C pay Value) (Run C pay Value) (LinkRun C pay) (PlaceRun C pay) (run_argument) (run_expr C pay s) (run_step) (run_operand C pay s) (run_call C pay s) (run_link) (run_place C pay s) x) v p
  link_runs x v p = ap (λ (r : LinkRun C pay). r v p) (fold-roll-TypedLink (ArgumentRun C pay) (Run C pay Value) (StepRun C pay) (Run C pay Value) (Run C pay Value) (LinkRun C pay) (PlaceRun C pay) (run_fold C pay s).argument (run_fold C pay s).expr (run_fold C pay s).step (run_fold C pay s).operand (run_fold C pay s).call (run_fold C pay s).link (run_fold C pay s).place x)

  pub place_runs : (x : TypedPlace-F Argument TypedExpr TypedStep Operand TypedCall TypedLink TypedPlace) → run_place C pay s (roll-TypedPlace x) ≡ place_step C pay (map-TypedPlace Argument TypedExpr TypedStep Operand TypedCall TypedLink TypedPlace (ArgumentRun C pay) (Run C pay Value) (StepRun C pay) (Run C pay Value) (Run C pay Value) (LinkRun C pay) (PlaceRun C pay) (run_argument) (run_expr C pay s) (run_step) (run_operand C pay s) (run_call C pay s) (run_link) (run_place C pay s) x)
  place_runs x = fold-roll-TypedPlace (ArgumentRun C pay) (Run C pay Value) (StepRun C pay) (Run C pay Value) (Run C pay Value) (LinkRun C pay) (PlaceRun C pay) (run_fold C pay s).argument (run_fold C pay s).expr (run_fold C pay s).step (run_fold C pay s).operand (run_fold C pay s).call (run_fold C pay s).link (run_fold C pay s).place x

-- the type of each form, applied
module _ (s : Scene) (scope : Variables) where
  abbrev pub argument_typed : Argument → Passing
  argument_typed = argument_fold (type_fold s scope)

  abbrev pub step_typed : TypedStep → Typed → Typed
  step_typed = step_fold (type_fold s scope)

  abbrev pub operand_typed : Operand → OperandType
  operand_typed = operand_fold (type_fold s scope)

  abbrev pub link_typed : TypedLink → Typed → Typed
  link_typed = link_fold (type_fold s scope)

  pub argument_types : (x : Argument-F Argument TypedExpr TypedStep Operand TypedCall TypedLink TypedPlace) → argument_typed (roll-Argument x) ≡ type_argument s scope (map-Argument Argument TypedExpr TypedStep Operand TypedCall TypedLink TypedPlace Passing Typed (Typed → Typed) OperandType Typed (Typed → Typed) PlaceType (argument_typed) (expr_type s scope) (step_typed) (operand_typed) (call_form_type s scope) (link_typed) (place_type s scope) x)
  argument_types x = fold-roll-Argument Passing Typed (Typed → Typed) OperandType Typed (Typed → Typed) PlaceType (type_fold s scope).argument (type_fold s scope).expr (type_fold s scope).step (type_fold s scope).operand (type_fold s scope).call (type_fold s scope).link (type_fold s scope).place x

  pub expr_types : (x : TypedExpr-F Argument TypedExpr TypedStep Operand TypedCall TypedLink TypedPlace) → expr_type s scope (roll-TypedExpr x) ≡ type_form s scope (map-TypedExpr Argument TypedExpr TypedStep Operand TypedCall TypedLink TypedPlace Passing Typed (Typed → Typed) OperandType Typed (Typed → Typed) PlaceType (argument_typed) (expr_type s scope) (step_typed) (operand_typed) (call_form_type s scope) (link_typed) (place_type s scope) x)
  expr_types x = fold-roll-TypedExpr Passing Typed (Typed → Typed) OperandType Typed (Typed → Typed) PlaceType (type_fold s scope).argument (type_fold s scope).expr (type_fold s scope).step (type_fold s scope).operand (type_fold s scope).call (type_fold s scope).link (type_fold s scope).place x

  pub step_types : (x : TypedStep-F Argument TypedExpr TypedStep Operand TypedCall TypedLink TypedPlace) (t : Typed) → step_typed (roll-TypedStep x) t ≡ type_step s scope (map-TypedStep Argument TypedExpr TypedStep Operand TypedCall TypedLink TypedPlace Passing Typed (Typed → Typed) OperandType Typed (Typed → Typed) PlaceType (argument_typed) (expr_type s scope) (step_typed) (operand_typed) (call_form_type s scope) (link_typed) (place_type s scope) x) t
  step_types x t = ap (λ (r : Typed → Typed). r t) (fold-roll-TypedStep Passing Typed (Typed → Typed) OperandType Typed (Typed → Typed) PlaceType (type_fold s scope).argument (type_fold s scope).expr (type_fold s scope).step (type_fold s scope).operand (type_fold s scope).call (type_fold s scope).link (type_fold s scope).place x)

  pub operand_types : (x : Operand-F Argument TypedExpr TypedStep Operand TypedCall TypedLink TypedPlace) → operand_typed (roll-Operand x) ≡ type_operand s scope (map-Operand Argument TypedExpr TypedStep Operand TypedCall TypedLink TypedPlace Passing Typed (Typed → Typed) OperandType Typed (Typed → Typed) PlaceType (argument_typed) (expr_type s scope) (step_typed) (operand_typed) (call_form_type s scope) (link_typed) (place_type s scope) x)
  operand_types x = fold-roll-Operand Passing Typed (Typed → Typed) OperandType Typed (Typed → Typed) PlaceType (type_fold s scope).argument (type_fold s scope).expr (type_fold s scope).step (type_fold s scope).operand (type_fold s scope).call (type_fold s scope).link (type_fold s scope).place x

  pub call_types : (x : TypedCall-F Argument TypedExpr TypedStep Operand TypedCall TypedLink TypedPlace) → call_form_type s scope (roll-TypedCall x) ≡ type_call s scope (map-TypedCall Argument TypedExpr TypedStep Operand TypedCall TypedLink TypedPlace Passing Typed (Typed → Typed) OperandType Typed (Typed → Typed) PlaceType (argument_typed) (expr_type s scope) (step_typed) (operand_typed) (call_form_type s scope) (link_typed) (place_type s scope) x)
  call_types x = fold-roll-TypedCall Passing Typed (Typed → Typed) OperandType Typed (Typed → Typed) PlaceType (type_fold s scope).argument (type_fold s scope).expr (type_fold s scope).step (type_fold s scope).operand (type_fold s scope).call (type_fold s scope).link (type_fold s scope).place x

  pub link_types : (x : TypedLink-F Argument TypedExpr TypedStep Operand TypedCall TypedLink TypedPlace) (t : Typed) → link_typed (roll-TypedLink x) t ≡ type_link s scope (map-TypedLink Argument TypedExpr TypedStep Operand TypedCall TypedLink TypedPlace Passing Typed (Typed → Typed) OperandType Typed (Typed → Typed) PlaceType (argument_typed) (expr_type s scope) (step_typed) (operand_typed) (call_form_type s scope) (link_typed) (place_type s scope) x) t
  link_types x t = ap (λ (r : Typed → Typed). r t) (fold-roll-TypedLink Passing Typed (Typed → Typed) OperandType Typed (Typed → Typed) PlaceType (type_fold s scope).argument (type_fold s scope).expr (type_fold s scope).step (type_fold s scope).operand (type_fold s scope).call (type_fold s scope).link (type_fold s scope).place x)

  pub place_types : (x : TypedPlace-F Argument TypedExpr TypedStep Operand TypedCall TypedLink TypedPlace) → place_type s scope (roll-TypedPlace x) ≡ type_place s scope (map-TypedPlace Argument TypedExpr TypedStep Operand TypedCall TypedLink TypedPlace Passing Typed (Typed → Typed) OperandType Typed (Typed → Typed) PlaceType (argument_typed) (expr_type s scope) (step_typed) (operand_typed) (call_form_type s scope) (link_typed) (place_type s scope) x)
  place_types x = fold-roll-TypedPlace Passing Typed (Typed → Typed) OperandType Typed (Typed → Typed) PlaceType (type_fold s scope).argument (type_fold s scope).expr (type_fold s scope).step (type_fold s scope).operand (type_fold s scope).call (type_fold s scope).link (type_fold s scope).place x

pub fits_layer : (structs : List Struct) (x : Value-F Value) (sizes : List ℕ) (b : Option Base) → fits structs (roll-Value x) sizes b ≡ fit_step structs (map-Value Value Fit (fits structs) x) sizes b
fits_layer structs x sizes b = ap (λ (f : Fit). f sizes b) (fold-roll-Value Fit (fit_step structs) x)

pub alike_layer : (x : Value-F Value) (v : Value) → alike (roll-Value x) v ≡ alike_step (map-Value Value Likeness alike x) v
alike_layer x v = ap (λ (f : Likeness). f v) (fold-roll-Value Likeness alike_step x)

pub flat_layer : (x : Value-F Value) → flat (roll-Value x) ≡ flat_step (map-Value Value (List ℤ) flat x)
flat_layer x = fold-roll-Value (List ℤ) flat_step x

pub initialiser_type_layer : (s : Scene) (scope : Variables) (x : Initialiser-F Initialiser) → initialiser_type s scope (roll-Initialiser x) ≡ type_initialiser s scope (map-Initialiser Initialiser Typed (initialiser_type s scope) x)
initialiser_type_layer s scope x = fold-roll-Initialiser Typed (type_initialiser s scope) x

pub scope_layer : (s : Scene) (r : Typed) (x : TypedStatement-F TypedStatement Arm) (scope : Scope) → scope_statement s r (roll-TypedStatement x) scope ≡ scope_step s r (map-TypedStatement TypedStatement Arm Scoping Scoping (scope_statement s r) (fold-Arm Scoping Scoping (scope_step s r) (scope_arm s r)) x) scope
scope_layer s r x scope = ap (λ (f : Scoping). f scope) (fold-roll-TypedStatement Scoping Scoping (scope_step s r) (scope_arm s r) x)

module _ (C : Type 0) (pay : ℕ → C → C) (s : Setting C pay) where
  pub initialiser_layer : (x : Initialiser-F Initialiser) (p : Pixel C pay) → run_initialiser C pay s (roll-Initialiser x) p ≡ initialiser_step C pay s (map-Initialiser Initialiser (Run C pay Value) (run_initialiser C pay s) x) p
  initialiser_layer x p = ap (λ (r : Run C pay Value). r p) (fold-roll-Initialiser (Run C pay Value) (initialiser_step C pay s) x)

  pub statement_layer : (x : TypedStatement-F TypedStatement Arm) (p : Pixel C pay) → run_statement C pay s (roll-TypedStatement x) p ≡ statement_step C pay s (map-TypedStatement TypedStatement Arm (Run C pay End) (ArmRun C pay) (run_statement C pay s) (fold-Arm (Run C pay End) (ArmRun C pay) (statement_step C pay s) (arm_step C pay s)) x) p
  statement_layer x p = ap (λ (r : Run C pay End). r p) (fold-roll-TypedStatement (Run C pay End) (ArmRun C pay) (statement_step C pay s) (arm_step C pay s) x)
