-- The parts of an instance: one for each statement, arm, expression and brace list of its body, and for each expression
-- and brace list besides the scalars of its value.
use Rattle.std.specs.Prelude.{◌≡◌, ℕ, ◌+◌, ◌*◌, List, [], ◌∷◌, map, length, Option, Some, None, slice_get, Result, Ok, Err}
use Rattle.ctl_types.specs.declared.expression.TypedExpr.{TypedExpr}
use Rattle.ctl_types.specs.declared.expression.Operand.{Operand}
use Rattle.ctl_types.specs.declared.expression.TypedCall.{TypedCall}
use Rattle.ctl_types.specs.declared.expression.TypedPlace.{TypedPlace}
use Rattle.ctl_types.specs.declared.expression.Argument.TheOpen as form
use Rattle.ctl_types.specs.declared.expression.Argument.TheOpen.{Argument-F, TypedExpr-F, TypedStep-F, Operand-F, TypedCall-F, TypedLink-F, TypedPlace-F}
use Rattle.ctl_types.specs.declared.statement.Initialiser.{Initialiser}
use Rattle.ctl_types.specs.declared.statement.Initialiser.TheOpen as initial
use Rattle.ctl_types.specs.declared.statement.Initialiser.TheOpen.{Initialiser-F}
use Rattle.ctl_types.specs.declared.statement.Initialiser.TheFolds.{fold-Initialiser}
use Rattle.ctl_types.specs.declared.statement.Declaration.{Declaration}
use Rattle.ctl_types.specs.declared.statement.Assignment.{Assignment}
use Rattle.ctl_types.specs.declared.statement.ForStart.{ForStart}
use Rattle.ctl_types.specs.declared.statement.ForStart.TheVariants as start
use Rattle.ctl_types.specs.declared.statement.PrintItem.{PrintItem}
use Rattle.ctl_types.specs.declared.statement.PrintItem.TheVariants as item
use Rattle.ctl_types.specs.declared.statement.Arm.{Arm}
use Rattle.ctl_types.specs.declared.statement.TypedStatement.{TypedStatement}
use Rattle.ctl_types.specs.declared.statement.TypedStatement.TheOpen.{TypedStatement-F, Arm-F, Empty, Block, Declare, Assign, Call, If, While, For, Return, Print}
use Rattle.ctl_types.specs.declared.statement.TypedStatement.TheFolds.{fold-TypedStatement, fold-Arm}
use Rattle.ctl_types.specs.declared.program.Function.{Function}
use Rattle.ctl_types.specs.Shapes.{struct_counts}
use Rattle.ctl_types.specs.Folds.{ExprFold, expr_fold, operand_fold, call_fold, place_fold}
use Rattle.level_counts.specs.declared.value.ValueShape.{ValueShape}
use Rattle.level_counts.specs.declared.measured.Measured.{Measured}
use Rattle.level_counts.specs.Told.{told, total}
use Rattle.level_counts.specs.Shapes.{DefinitionsForm, Table, variables_of, variable_value, constant_value, callee_value, stated_shape, one_scalar, one_struct, element_shape, field_in, scalars_in}

-- of a step: the parts of its index, and the shape after it
pub record StepMeasure : Type 0 where
  pub parts : ℕ
  pub after : ValueShape → ValueShape

-- the parts of the indices of steps
abbrev pub index_parts : List StepMeasure → ℕ
index_parts [] = 0
index_parts (step ∷ steps) = step.parts + index_parts steps

-- the parts of several expressions
abbrev pub all_parts : List Measured → ℕ
all_parts [] = 0
all_parts (m ∷ measures) = m.parts + all_parts measures

-- the shape after all steps
abbrev pub after_steps : List StepMeasure → ValueShape → ValueShape
after_steps [] v = v
after_steps (step ∷ steps) v = after_steps steps (step.after v)

-- with Ok a measure is told
abbrev pub Measures : Measured → {E : Type 0} → Result Measured E → Type 0
Measures m (Ok got) = (got.value ≡ m.value) × (got.parts ≡ told m.parts)
Measures m (Err e) = Unit {0}

-- by the definitions of the program
module _ (d : DefinitionsForm) where
  -- an expression or brace list counts one for itself, and the scalars of its value
  abbrev pub own_parts : ValueShape → ℕ
  own_parts v = 1 + scalars_in (struct_counts d.structs) v

  -- an expression: what is in it, and its own
  abbrev pub measured : ℕ → ValueShape → Measured
  measured inner v = record { value = v; parts = inner + own_parts v }

  -- each step into a value is an expression too
  abbrev pub steps_parts : List StepMeasure → ValueShape → ℕ
  steps_parts [] v = 0
  steps_parts (step ∷ steps) v = (step.parts + own_parts (step.after v)) + steps_parts steps (step.after v)

  -- a step into a value
  abbrev pub step_measure : TypedStep-F ℕ Measured StepMeasure Measured Measured ℕ ℕ → StepMeasure
  step_measure (form.Index e node) = record { parts = e.parts; after = element_shape }
  step_measure (form.Field n) = record { parts = 0; after = λ v. field_in d.structs v.item n }

-- by the definitions of the program, and the shapes of the variables
module _ (d : DefinitionsForm) (variables : Table) where
  -- ---- expressions

  -- conversions count nothing
  abbrev pub operand_measure : Operand-F ℕ Measured StepMeasure Measured Measured ℕ ℕ → Measured
  operand_measure o = o.value

  -- links count their operands alone
  abbrev pub link_parts : TypedLink-F ℕ Measured StepMeasure Measured Measured ℕ ℕ → ℕ
  link_parts l = l.right.parts

  -- a place counts its indices alone
  abbrev pub place_parts_form : TypedPlace-F ℕ Measured StepMeasure Measured Measured ℕ ℕ → ℕ
  place_parts_form place = index_parts place.steps

  abbrev pub argument_parts_form : Argument-F ℕ Measured StepMeasure Measured Measured ℕ ℕ → ℕ
  argument_parts_form (form.Input o node) = o.parts
  argument_parts_form (form.Output place c node) = place
  argument_parts_form form.Missing = 0

  abbrev pub call_measure_form : TypedCall-F ℕ Measured StepMeasure Measured Measured ℕ ℕ → Measured
  call_measure_form c = measured d (total c.arguments) (callee_value d.functions c.callee)

  abbrev pub expr_measure_form : TypedExpr-F ℕ Measured StepMeasure Measured Measured ℕ ℕ → Measured
  expr_measure_form (form.Literal x) = measured d 0 one_scalar
  expr_measure_form (form.Constant n) = measured d 0 (constant_value (slice_get d.constants n))
  expr_measure_form (form.Variable x) = measured d 0 (variable_value (slice_get variables x))
  expr_measure_form (form.Unary op k o) = measured d o.parts one_scalar
  expr_measure_form (form.Chain o links) = measured d (o.parts + total links) one_scalar
  expr_measure_form (form.Logic l os) = measured d (all_parts os) one_scalar
  expr_measure_form (form.Path e steps) = record { value = after_steps steps e.value; parts = e.parts + steps_parts d steps e.value }
  expr_measure_form (form.Size e size) = measured d e.parts one_scalar
  expr_measure_form (form.Call c) = c

  -- the measures of all forms
  abbrev pub measure_fold : ExprFold ℕ Measured StepMeasure Measured Measured ℕ ℕ
  measure_fold = record { argument = argument_parts_form; expr = expr_measure_form; step = step_measure d; operand = operand_measure; call = call_measure_form; link = link_parts; place = place_parts_form }

  abbrev pub expr_measure : TypedExpr → Measured
  expr_measure = expr_fold measure_fold

  abbrev pub operand_parts : Operand → ℕ
  operand_parts o = (operand_fold measure_fold o).parts

  abbrev pub call_measure : TypedCall → Measured
  call_measure = call_fold measure_fold

  abbrev pub place_parts : TypedPlace → ℕ
  place_parts = place_fold measure_fold

  -- ---- statements

  abbrev pub initialiser_step : Initialiser-F ℕ → ℕ
  initialiser_step (initial.Value o) = operand_parts o
  initialiser_step (initial.Elements shape parts) = total parts + (1 + length parts * scalars_in (struct_counts d.structs) (stated_shape shape))
  initialiser_step (initial.Fields n parts) = total parts + own_parts d (one_struct n)

  abbrev pub initialiser_parts : Initialiser → ℕ
  initialiser_parts = fold-Initialiser ℕ initialiser_step

  abbrev pub first_parts : Option Initialiser → ℕ
  first_parts None = 0
  first_parts (Some i) = initialiser_parts i

  abbrev pub declaration_parts : Declaration → ℕ
  declaration_parts declaration = 1 + first_parts declaration.first

  abbrev pub assignment_parts : Assignment → ℕ
  assignment_parts a = 1 + (place_parts a.place + operand_parts a.value)

  abbrev pub start_parts : ForStart → ℕ
  start_parts (start.Declare declaration) = declaration_parts declaration
  start_parts (start.Assign a) = assignment_parts a

  -- a text counts nothing
  abbrev pub item_parts : PrintItem → ℕ
  item_parts (item.Text text) = 0
  item_parts (item.Value e) = (expr_measure e).parts

  abbrev pub returned_parts : Option Operand → ℕ
  returned_parts None = 0
  returned_parts (Some o) = operand_parts o

  -- what stands after the last `else` counts nothing besides
  abbrev pub otherwise_parts : Option ℕ → ℕ
  otherwise_parts None = 0
  otherwise_parts (Some n) = n

  abbrev pub statement_step : TypedStatement-F ℕ ℕ → ℕ
  statement_step Empty = 1
  statement_step (Block parts) = 1 + total parts
  statement_step (Declare declaration) = declaration_parts declaration
  statement_step (Assign a) = assignment_parts a
  statement_step (Call c) = 1 + (call_measure c).parts
  statement_step (If arms otherwise) = 1 + (total arms + otherwise_parts otherwise)
  statement_step (While test body node) = 1 + (operand_parts test + body)
  statement_step (For first test next body node) = 1 + (start_parts first + (operand_parts test + (assignment_parts next + body)))
  statement_step (Return o) = 1 + returned_parts o
  statement_step (Print items) = 1 + total (map item_parts items)

  abbrev pub arm_step : Arm-F ℕ ℕ → ℕ
  arm_step a = 1 + (operand_parts a.test + a.body)

  abbrev pub statement_parts : TypedStatement → ℕ
  statement_parts = fold-TypedStatement ℕ ℕ statement_step arm_step

  abbrev pub otherwise_statement_parts : Option TypedStatement → ℕ
  otherwise_statement_parts None = 0
  otherwise_statement_parts (Some s) = statement_parts s

  abbrev pub arm_parts : Arm → ℕ
  arm_parts = fold-Arm ℕ ℕ statement_step arm_step

-- the parts of an instance with these open sizes
abbrev pub function_parts : DefinitionsForm → Function → List ℕ → ℕ
function_parts d f opens = statement_parts d (variables_of f opens) f.body
