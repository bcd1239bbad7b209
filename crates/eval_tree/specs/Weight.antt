-- Sizes of the forms and the weight of functions, by which a run ends.
use Rattle.std.specs.Prelude.{ℕ, suc, ◌+◌, List, [], ◌∷◌, map, Option, Some, None}
use Rattle.ctl_types.specs.declared.expression.Argument.{Argument}
use Rattle.ctl_types.specs.declared.expression.TypedExpr.{TypedExpr}
use Rattle.ctl_types.specs.declared.expression.TypedStep.{TypedStep}
use Rattle.ctl_types.specs.declared.expression.TypedLink.{TypedLink}
use Rattle.ctl_types.specs.declared.expression.Operand.{Operand}
use Rattle.ctl_types.specs.declared.expression.TypedCall.{TypedCall}
use Rattle.ctl_types.specs.declared.expression.TypedPlace.{TypedPlace}
use Rattle.ctl_types.specs.declared.expression.Argument.TheOpen as form
use Rattle.ctl_types.specs.declared.expression.Argument.TheOpen.{Argument-F, TypedExpr-F, TypedStep-F, Operand-F, TypedCall-F, TypedLink-F, TypedPlace-F}
use Rattle.ctl_types.specs.declared.statement.Initialiser.{Initialiser}
use Rattle.ctl_types.specs.declared.statement.Initialiser.TheOpen as initial
use Rattle.ctl_types.specs.declared.statement.Initialiser.TheOpen.{Initialiser-F}
use Rattle.ctl_types.specs.declared.statement.Initialiser.TheFolds.{fold-Initialiser}
use Rattle.ctl_types.specs.declared.statement.Declaration.{Declaration}
use Rattle.ctl_types.specs.declared.statement.Assignment.{Assignment}
use Rattle.ctl_types.specs.declared.statement.ForStart.{ForStart}
use Rattle.ctl_types.specs.declared.statement.ForStart.TheVariants as start
use Rattle.ctl_types.specs.declared.statement.PrintItem.{PrintItem}
use Rattle.ctl_types.specs.declared.statement.PrintItem.TheVariants as item
use Rattle.ctl_types.specs.declared.statement.TypedStatement.{TypedStatement}
use Rattle.ctl_types.specs.declared.statement.Arm.{Arm}
use Rattle.ctl_types.specs.declared.statement.TypedStatement.TheOpen.{TypedStatement-F, Arm-F, Empty, Block, Declare, Assign, Call, If, While, For, Return, Print}
use Rattle.ctl_types.specs.declared.statement.TypedStatement.TheFolds.{fold-TypedStatement, fold-Arm}
use Rattle.ctl_types.specs.declared.program.Function.{Function}
use Rattle.ctl_types.specs.Folds.{ExprFold, argument_fold, expr_fold, step_fold, operand_fold, call_fold, link_fold, place_fold}
use Rattle.eval_values.specs.Size.{total}

-- ---- expressions

abbrev pub argument_weight : Argument-F ℕ ℕ ℕ ℕ ℕ ℕ ℕ → ℕ
argument_weight (form.Input o node) = 8 + o
argument_weight (form.Output place c node) = 8 + place
argument_weight form.Missing = 8

abbrev pub expr_weight : TypedExpr-F ℕ ℕ ℕ ℕ ℕ ℕ ℕ → ℕ
expr_weight (form.Literal x) = 8
expr_weight (form.Constant n) = 8
expr_weight (form.Variable x) = 8
expr_weight (form.Unary op k o) = 8 + o
expr_weight (form.Chain o links) = 8 + (o + total links)
expr_weight (form.Logic l operands) = 8 + total operands
expr_weight (form.Path e steps) = 8 + (e + total steps)
expr_weight (form.Size e size) = 8 + e
expr_weight (form.Call c) = 8 + c

abbrev pub step_weight : TypedStep-F ℕ ℕ ℕ ℕ ℕ ℕ ℕ → ℕ
step_weight (form.Index e node) = 8 + e
step_weight (form.Field n) = 8

abbrev pub operand_weight : Operand-F ℕ ℕ ℕ ℕ ℕ ℕ ℕ → ℕ
operand_weight o = 8 + o.value

abbrev pub call_weight : TypedCall-F ℕ ℕ ℕ ℕ ℕ ℕ ℕ → ℕ
call_weight c = 8 + total c.arguments

abbrev pub link_weight : TypedLink-F ℕ ℕ ℕ ℕ ℕ ℕ ℕ → ℕ
link_weight l = 8 + l.right

abbrev pub place_weight : TypedPlace-F ℕ ℕ ℕ ℕ ℕ ℕ ℕ → ℕ
place_weight place = 8 + total place.steps

abbrev pub weights : ExprFold ℕ ℕ ℕ ℕ ℕ ℕ ℕ
weights = record { argument = argument_weight; expr = expr_weight; step = step_weight; operand = operand_weight; call = call_weight; link = link_weight; place = place_weight }

abbrev pub argument_size : Argument → ℕ
argument_size = argument_fold weights

abbrev pub expr_size : TypedExpr → ℕ
expr_size = expr_fold weights

abbrev pub step_size : TypedStep → ℕ
step_size = step_fold weights

abbrev pub operand_size : Operand → ℕ
operand_size = operand_fold weights

abbrev pub call_size : TypedCall → ℕ
call_size = call_fold weights

abbrev pub link_size : TypedLink → ℕ
link_size = link_fold weights

abbrev pub place_size : TypedPlace → ℕ
place_size = place_fold weights

-- ---- statements

abbrev pub initialiser_weight : Initialiser-F ℕ → ℕ
initialiser_weight (initial.Value o) = 8 + operand_size o
initialiser_weight (initial.Elements shape parts) = 8 + total parts
initialiser_weight (initial.Fields n parts) = 8 + total parts

abbrev pub initialiser_size : Initialiser → ℕ
initialiser_size = fold-Initialiser ℕ initialiser_weight

abbrev pub first_size : Option Initialiser → ℕ
first_size None = 0
first_size (Some i) = initialiser_size i

abbrev pub declaration_size : Declaration → ℕ
declaration_size d = 8 + first_size d.first

abbrev pub assignment_size : Assignment → ℕ
assignment_size a = 8 + (place_size a.place + operand_size a.value)

abbrev pub start_size : ForStart → ℕ
start_size (start.Declare d) = 8 + declaration_size d
start_size (start.Assign a) = 8 + assignment_size a

abbrev pub item_size : PrintItem → ℕ
item_size (item.Text text) = 8
item_size (item.Value e) = 8 + expr_size e

abbrev pub otherwise_weight : Option ℕ → ℕ
otherwise_weight None = 0
otherwise_weight (Some n) = n

abbrev pub return_size : Option Operand → ℕ
return_size None = 0
return_size (Some o) = operand_size o

abbrev pub statement_weight : TypedStatement-F ℕ ℕ → ℕ
statement_weight Empty = 8
statement_weight (Block parts) = 8 + total parts
statement_weight (Declare d) = 8 + declaration_size d
statement_weight (Assign a) = 8 + assignment_size a
statement_weight (Call c) = 8 + call_size c
statement_weight (If arms otherwise) = 8 + (total arms + otherwise_weight otherwise)
statement_weight (While test body node) = 8 + (operand_size test + body)
statement_weight (For first test next body node) = 16 + (start_size first + (operand_size test + (assignment_size next + body)))
statement_weight (Return o) = 8 + return_size o
statement_weight (Print items) = 8 + total (map item_size items)

abbrev pub arm_weight : Arm-F ℕ ℕ → ℕ
arm_weight a = 8 + (operand_size a.test + a.body)

abbrev pub statement_size : TypedStatement → ℕ
statement_size = fold-TypedStatement ℕ ℕ statement_weight arm_weight

abbrev pub arm_size : Arm → ℕ
arm_size = fold-Arm ℕ ℕ statement_weight arm_weight

abbrev pub otherwise_size : Option TypedStatement → ℕ
otherwise_size None = 0
otherwise_size (Some s) = statement_size s

-- ---- functions

abbrev pub weight : List Function → ℕ
weight [] = 0
weight (f ∷ functions) = suc (statement_size f.body) + weight functions
