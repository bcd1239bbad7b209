-- The own token of an expression, and those of the forms of a module: each form lists its own, where it has one, and
-- then those of its parts from the left.
use Rattle.std.specs.Prelude.{ℕ, ◌<◌, List, [], ◌∷◌, ◌++◌, map, fold, Option, Some, None, All}
use Rattle.std.specs.List.{concat}
use Rattle.ctl_tree.specs.declared.expression.QualifiedName.{QualifiedName}
use Rattle.ctl_tree.specs.declared.expression.Expr.{Expr}
use Rattle.ctl_tree.specs.declared.expression.Step.{Step}
use Rattle.ctl_tree.specs.declared.expression.Call.{Call}
use Rattle.ctl_tree.specs.declared.expression.Link.{Link}
use Rattle.ctl_tree.specs.declared.declaration.ShapeKind.{ShapeKind}
use Rattle.ctl_tree.specs.declared.declaration.ShapeKind.TheVariants.{Named}
use Rattle.ctl_tree.specs.declared.declaration.ShapeName.{ShapeName}
use Rattle.ctl_tree.specs.declared.declaration.ArraySize.{ArraySize}
use Rattle.ctl_tree.specs.declared.declaration.Initialiser.{Initialiser}
use Rattle.ctl_tree.specs.declared.declaration.Initialiser.TheOpen.{Initialiser-F, BraceList-F, Expr as ExprForm, List as ListForm}
use Rattle.ctl_tree.specs.declared.declaration.Initialiser.TheFolds.{fold-Initialiser}
use Rattle.ctl_tree.specs.declared.declaration.Constant.{Constant}
use Rattle.ctl_tree.specs.declared.declaration.Variable.{Variable}
use Rattle.ctl_tree.specs.declared.statement.Place.{Place}
use Rattle.ctl_tree.specs.declared.statement.Assignment.{Assignment}
use Rattle.ctl_tree.specs.declared.statement.Return.{Return}
use Rattle.ctl_tree.specs.declared.statement.Print.{Print}
use Rattle.ctl_tree.specs.declared.statement.PrintItem.{PrintItem}
use Rattle.ctl_tree.specs.declared.statement.PrintItem.TheVariants.{Text, Expr as ExprItem}
use Rattle.ctl_tree.specs.declared.statement.ForStart.{ForStart}
use Rattle.ctl_tree.specs.declared.statement.ForStart.TheVariants.{Variable as VariableStart, Assignment as AssignmentStart}
use Rattle.ctl_tree.specs.declared.statement.Statement.{Statement}
use Rattle.ctl_tree.specs.declared.statement.Statement.TheOpen.{Statement-F, Block-F, If-F, Arm-F, While-F, For-F, Block as BlockForm, Constant as ConstantForm, Variable as VariableForm, Assignment as AssignmentForm, Call as CallStatement, If as IfForm, While as WhileForm, For as ForForm, Return as ReturnForm, Print as PrintForm, Empty as EmptyForm}
use Rattle.ctl_tree.specs.declared.statement.Statement.TheFolds.{fold-Statement, fold-Block, fold-Arm}
use Rattle.ctl_tree.specs.declared.statement.Block.{Block}
use Rattle.ctl_tree.specs.declared.statement.Arm.{Arm}
use Rattle.ctl_tree.specs.declared.definition.Parameter.{Parameter}
use Rattle.ctl_tree.specs.declared.definition.SizedShape.{SizedShape}
use Rattle.ctl_tree.specs.declared.definition.Function.{Function}
use Rattle.ctl_tree.specs.declared.definition.Field.{Field}
use Rattle.ctl_tree.specs.declared.definition.Struct.{Struct}
use Rattle.ctl_tree.specs.declared.definition.Definition.{Definition}
use Rattle.ctl_tree.specs.declared.definition.Definition.TheOpen.{Definition-F, Namespace-F, Namespace as NamespaceForm, Struct as StructForm, Constant as ConstantDefinition, Function as FunctionForm}
use Rattle.ctl_tree.specs.declared.definition.Definition.TheFolds.{fold-Definition}
use Rattle.ctl_tree.specs.declared.definition.Import.{Import}
use Rattle.ctl_tree.specs.declared.definition.Module.{Module}
use Rattle.ctl_tree.specs.Folds.{ExprFold, expr_fold, step_fold, call_fold, link_fold}

-- The own token of an expression

-- the last of some tokens, of which there is at least one
abbrev pub last_token : List ℕ → ℕ
last_token = fold (λ before token. token) 0

-- a path has that of its last step, each other form its own
abbrev pub own : ExprFold ℕ ℕ ℕ
own = record {
  literal = λ literal. literal.token;
  name = λ name. name.token;
  call = λ name arguments token. token;
  path = λ root steps. last_token steps;
  unary = λ operator operand token. token;
  chain = λ first links token. token;
  index = λ index token. token;
  field = λ field. field.token;
  link = λ operator operand token. token;
}

abbrev pub own_token : Expr → ℕ
own_token = expr_fold own

abbrev pub step_token : Step → ℕ
step_token = step_fold own

-- The own tokens of all forms

-- tokens by their places in the list of their module
abbrev pub Tokens : Type 0
Tokens = List ℕ

-- of each part of a list
abbrev pub all_tokens : {X : Type 0} → (X → Tokens) → List X → Tokens
all_tokens tokens xs = concat (map tokens xs)

-- of a part that may be left out
abbrev pub some_tokens : {X : Type 0} → (X → Tokens) → Option X → Tokens
some_tokens tokens None = []
some_tokens tokens (Some x) = tokens x

-- Names and shapes

abbrev pub name_tokens : QualifiedName → Tokens
name_tokens name = name.token ∷ []

abbrev pub shape_kind_tokens : ShapeKind → Tokens
shape_kind_tokens (Named name) = name_tokens name
shape_kind_tokens _ = []

abbrev pub shape_tokens : ShapeName → Tokens
shape_tokens shape = shape.token ∷ shape_kind_tokens shape.kind

-- Expressions

abbrev pub listed : ExprFold Tokens Tokens Tokens
listed = record {
  literal = λ literal. literal.token ∷ [];
  name = name_tokens;
  call = λ name arguments token. token ∷ (name_tokens name ++ concat arguments);
  path = λ root steps. root ++ concat steps;
  unary = λ operator operand token. token ∷ operand;
  chain = λ first links token. token ∷ (first ++ concat links);
  index = λ index token. token ∷ index;
  field = λ field. field.token ∷ [];
  link = λ operator operand token. token ∷ operand;
}

abbrev pub expr_tokens : Expr → Tokens
expr_tokens = expr_fold listed

abbrev pub step_tokens : Step → Tokens
step_tokens = step_fold listed

abbrev pub call_tokens : Call → Tokens
call_tokens = call_fold listed

abbrev pub link_tokens : Link → Tokens
link_tokens = link_fold listed

-- Declarations

abbrev pub array_size_tokens : ArraySize → Tokens
array_size_tokens size = size.token ∷ some_tokens expr_tokens size.size

abbrev pub initialiser_step : Initialiser-F Tokens Tokens → Tokens
initialiser_step (ExprForm e) = expr_tokens e
initialiser_step (ListForm list) = list

abbrev pub brace_list_step : BraceList-F Tokens Tokens → Tokens
brace_list_step list = list.token ∷ concat list.elements

abbrev pub initialiser_tokens : Initialiser → Tokens
initialiser_tokens = fold-Initialiser Tokens Tokens initialiser_step brace_list_step

abbrev pub constant_tokens : Constant → Tokens
constant_tokens constant = constant.token ∷ (shape_tokens constant.shape ++ all_tokens array_size_tokens constant.sizes ++ initialiser_tokens constant.value)

abbrev pub variable_tokens : Variable → Tokens
variable_tokens variable = variable.token ∷ (shape_tokens variable.shape ++ all_tokens array_size_tokens variable.sizes ++ some_tokens initialiser_tokens variable.value)

-- Statements

abbrev pub place_tokens : Place → Tokens
place_tokens place = name_tokens place.root ++ all_tokens step_tokens place.steps

abbrev pub assignment_tokens : Assignment → Tokens
assignment_tokens assignment = assignment.token ∷ (place_tokens assignment.place ++ expr_tokens assignment.value)

abbrev pub return_tokens : Return → Tokens
return_tokens leave = leave.token ∷ some_tokens expr_tokens leave.value

abbrev pub item_tokens : PrintItem → Tokens
item_tokens (Text text) = text.token ∷ []
item_tokens (ExprItem e) = expr_tokens e

abbrev pub print_tokens : Print → Tokens
print_tokens print = print.token ∷ all_tokens item_tokens print.items

abbrev pub start_tokens : ForStart → Tokens
start_tokens (VariableStart variable) = variable_tokens variable
start_tokens (AssignmentStart assignment) = assignment_tokens assignment

abbrev pub statement_step : Statement-F Tokens Tokens Tokens Tokens Tokens Tokens → Tokens
statement_step (BlockForm block) = block
statement_step (ConstantForm constant) = constant_tokens constant
statement_step (VariableForm variable) = variable_tokens variable
statement_step (AssignmentForm assignment) = assignment_tokens assignment
statement_step (CallStatement call) = call_tokens call
statement_step (IfForm branch) = branch
statement_step (WhileForm loop) = loop
statement_step (ForForm loop) = loop
statement_step (ReturnForm leave) = return_tokens leave
statement_step (PrintForm print) = print_tokens print
statement_step (EmptyForm empty) = empty.token ∷ []

abbrev pub arm_step : Arm-F Tokens Tokens Tokens Tokens Tokens Tokens → Tokens
arm_step arm = expr_tokens arm.test ++ arm.body

abbrev pub block_step : Block-F Tokens Tokens Tokens Tokens Tokens Tokens → Tokens
block_step block = block.token ∷ concat block.statements

abbrev pub for_step : For-F Tokens Tokens Tokens Tokens Tokens Tokens → Tokens
for_step loop = loop.token ∷ (start_tokens loop.start ++ expr_tokens loop.test ++ assignment_tokens loop.next ++ loop.body)

abbrev pub if_step : If-F Tokens Tokens Tokens Tokens Tokens Tokens → Tokens
if_step branch = branch.token ∷ (concat branch.arms ++ some_tokens (λ tokens. tokens) branch.otherwise)

abbrev pub while_step : While-F Tokens Tokens Tokens Tokens Tokens Tokens → Tokens
while_step loop = loop.token ∷ (expr_tokens loop.test ++ loop.body)

abbrev pub statement_tokens : Statement → Tokens
statement_tokens = fold-Statement Tokens Tokens Tokens Tokens Tokens Tokens statement_step arm_step block_step for_step if_step while_step

abbrev pub arm_tokens : Arm → Tokens
arm_tokens = fold-Arm Tokens Tokens Tokens Tokens Tokens Tokens statement_step arm_step block_step for_step if_step while_step

abbrev pub block_tokens : Block → Tokens
block_tokens = fold-Block Tokens Tokens Tokens Tokens Tokens Tokens statement_step arm_step block_step for_step if_step while_step

-- Definitions and modules

abbrev pub parameter_tokens : Parameter → Tokens
parameter_tokens parameter = parameter.token ∷ (shape_tokens parameter.shape ++ all_tokens array_size_tokens parameter.sizes ++ some_tokens initialiser_tokens parameter.value)

abbrev pub sized_shape_tokens : SizedShape → Tokens
sized_shape_tokens sized = shape_tokens sized.shape ++ all_tokens array_size_tokens sized.sizes

abbrev pub function_tokens : Function → Tokens
function_tokens function = function.token ∷ (some_tokens sized_shape_tokens function.result ++ all_tokens parameter_tokens function.parameters ++ block_tokens function.body)

abbrev pub field_tokens : Field → Tokens
field_tokens field = field.token ∷ (shape_tokens field.shape ++ all_tokens array_size_tokens field.sizes)

abbrev pub struct_tokens : Struct → Tokens
struct_tokens struct = struct.token ∷ all_tokens field_tokens struct.fields

abbrev pub definition_step : Definition-F Tokens Tokens → Tokens
definition_step (NamespaceForm namespace) = namespace
definition_step (StructForm struct) = struct_tokens struct
definition_step (ConstantDefinition constant) = constant_tokens constant
definition_step (FunctionForm function) = function_tokens function

abbrev pub namespace_step : Namespace-F Tokens Tokens → Tokens
namespace_step namespace = namespace.token ∷ concat namespace.definitions

abbrev pub definition_tokens : Definition → Tokens
definition_tokens = fold-Definition Tokens Tokens definition_step namespace_step

abbrev pub import_tokens : Import → Tokens
import_tokens named = named.token ∷ []

abbrev pub own_tokens : Module → Tokens
own_tokens m = all_tokens import_tokens m.imports ++ all_tokens definition_tokens m.definitions

-- all are below a number
abbrev pub Below : ℕ → Tokens → Type 0
Below n = All (λ token. token < n)

-- the own token of each form of a module is below a number
abbrev pub OwnTokensBelow : ℕ → Module → Type 0
OwnTokensBelow n m = Below n (own_tokens m)
