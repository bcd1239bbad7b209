-- What is known where a body runs, and what the forms do there.
use Rattle.std.specs.Prelude.{◌≡◌, ℕ, List, [], ◌∷◌, map, Option, Some, None, refl, slice_get}
use Rattle.std.specs.Coded.{Coded, code_by, coded×, coded_list, coded_ℕ}
use Rattle.ctl_base.specs.declared.kind.Node.{Node}
use Rattle.ctl_types.specs.contracts.program.Struct as struct_row
use Rattle.ctl_types.specs.contracts.program.Constant as constant_row
use Rattle.ctl_types.specs.contracts.program.Function as function_row
use Rattle.ctl_types.specs.declared.value.Value.{Value}
use Rattle.ctl_types.specs.declared.expression.Argument.{Argument}
use Rattle.ctl_types.specs.declared.expression.TypedExpr.{TypedExpr}
use Rattle.ctl_types.specs.declared.expression.TypedStep.{TypedStep}
use Rattle.ctl_types.specs.declared.expression.TypedLink.{TypedLink}
use Rattle.ctl_types.specs.declared.expression.Operand.{Operand}
use Rattle.ctl_types.specs.declared.expression.TypedCall.{TypedCall}
use Rattle.ctl_types.specs.declared.expression.TypedPlace.{TypedPlace}
use Rattle.ctl_types.specs.declared.statement.Initialiser.{Initialiser}
use Rattle.ctl_types.specs.declared.statement.Declaration.{Declaration}
use Rattle.ctl_types.specs.declared.statement.Assignment.{Assignment}
use Rattle.ctl_types.specs.declared.statement.ForStart.{ForStart}
use Rattle.ctl_types.specs.declared.statement.PrintItem.{PrintItem}
use Rattle.ctl_types.specs.declared.statement.TypedStatement.{TypedStatement}
use Rattle.ctl_types.specs.declared.statement.Arm.{Arm}
use Rattle.ctl_types.specs.declared.program.Struct.{Struct}
use Rattle.ctl_types.specs.declared.program.Constant.{Constant}
use Rattle.ctl_types.specs.declared.program.Function.{Function}
use Rattle.ctl_types.specs.declared.shape.LocalShape.{LocalShape}
use Rattle.ctl_types.specs.declared.statement.TypedStatement.TheFolds.{fold-Arm}
use Rattle.ctl_types.specs.Folds.{argument_fold, step_fold, link_fold}
use Rattle.ctl_types.specs.Run as run
use Rattle.ctl_types.specs.Run.{meanings, End, Passed}
use Rattle.eval_values.specs.Uncounted.{free, Run, Called, Setting, go_on}

-- the structs, the constants, the functions that may be called, and the open sizes of this call
pub record SceneForm : Type 0 where
  pub structs : List Struct
  pub constants : List Constant
  pub functions : List Function
  pub opens : List ℕ

abbrev pub scene_code : Coded SceneForm
scene_code =
    code_by (List Struct × (List Constant × (List Function × List ℕ))) (coded× (coded_list struct_row.the_row.coded) (coded× (coded_list constant_row.the_row.coded) (coded× (coded_list function_row.the_row.coded) (coded_list coded_ℕ))))
    (λ s. (s.structs, (s.constants, (s.functions, s.opens)))) (λ parts. record { structs = parts.0; constants = parts.1.0; functions = parts.1.1.0; opens = parts.1.1.1 }) (λ s. refl)

-- the functions, each by those before it
unfoldable pub calls_of : List Struct → List Value → List Function → List Called
calls_of structs constants functions = meanings (Unit {0}) free structs constants [] functions

abbrev pub values_of : List Constant → List Value
values_of = map (λ (c : Constant). c.value)

abbrev pub setting : SceneForm → Setting
setting s = record { structs = s.structs; constants = values_of s.constants; functions = calls_of s.structs (values_of s.constants) s.functions; opens = s.opens }

-- ---- expressions

abbrev pub run_expr : SceneForm → TypedExpr → Run Value
run_expr s = run.run_expr (Unit {0}) free (setting s)

abbrev pub run_operand : SceneForm → Operand → Run Value
run_operand s = run.run_operand (Unit {0}) free (setting s)

abbrev pub run_call : SceneForm → TypedCall → Run Value
run_call s = run.run_call (Unit {0}) free (setting s)

abbrev pub run_place : SceneForm → TypedPlace → run.PlaceRun (Unit {0}) free
run_place s = run.run_place (Unit {0}) free (setting s)

abbrev pub run_argument : SceneForm → Argument → run.ArgumentRun (Unit {0}) free
run_argument s = argument_fold (run.run_fold (Unit {0}) free (setting s))

abbrev pub run_step : SceneForm → TypedStep → run.StepRun (Unit {0}) free
run_step s = step_fold (run.run_fold (Unit {0}) free (setting s))

abbrev pub run_link : SceneForm → TypedLink → Value → Run Value
run_link s = link_fold (run.run_fold (Unit {0}) free (setting s))

-- what is passed by an argument
abbrev pub pass_argument : SceneForm → Argument → Run Passed
pass_argument s a = (run_argument s a).run

-- ---- statements

abbrev pub run_initialiser : SceneForm → Initialiser → Run Value
run_initialiser s = run.run_initialiser (Unit {0}) free (setting s)

abbrev pub first_value : SceneForm → LocalShape → Option Initialiser → Run Value
first_value s = run.first_value (Unit {0}) free (setting s)

abbrev pub declared : SceneForm → ℕ → LocalShape → Value → Run End
declared s = run.declared (Unit {0}) free (setting s)

abbrev pub run_declaration : SceneForm → Declaration → Run End
run_declaration s = run.run_declaration (Unit {0}) free (setting s)

abbrev pub run_assignment : SceneForm → Assignment → Run End
run_assignment s = run.run_assignment (Unit {0}) free (setting s)

abbrev pub run_start : SceneForm → ForStart → Run End
run_start s = run.run_start (Unit {0}) free (setting s)

abbrev pub run_item : SceneForm → PrintItem → Run End
run_item s = run.run_item (Unit {0}) free (setting s)

abbrev pub run_items : SceneForm → List PrintItem → Run End
run_items s = run.run_items (Unit {0}) free (setting s)

abbrev pub left_value : SceneForm → Option Operand → Run Value
left_value s = run.left_value (Unit {0}) free (setting s)

abbrev pub run_statement : SceneForm → TypedStatement → Run End
run_statement s = run.run_statement (Unit {0}) free (setting s)

abbrev pub run_arm : SceneForm → Arm → Run End → Run End
run_arm s = fold-Arm (Run End) (run.ArmRun (Unit {0}) free) (run.statement_step (Unit {0}) free (setting s)) (run.arm_step (Unit {0}) free (setting s))

-- what a turn of a `for` does
abbrev pub run_round : SceneForm → TypedStatement → Assignment → Run End
run_round s body next = run.sequence (Unit {0}) free (run_statement s body ∷ run.visited (Unit {0}) free (run_assignment s next) ∷ [])

-- a statement that may be absent
abbrev pub statement_of : SceneForm → Option TypedStatement → Option (Run End)
statement_of s None = None
statement_of s (Some statement) = Some (run_statement s statement)
