-- The own tokens of the forms that reach themselves, one equation a form.
use Rattle.std.proofs.Common.{◌≡◌, ℕ, List, [], ◌∷◌, ◌++◌, Option, Some, None, ap, sym, ◌∙◌}
use Rattle.ctl_tree.specs.declared.expression.QualifiedName.{QualifiedName}
use Rattle.ctl_tree.specs.declared.expression.Literal.{Literal}
use Rattle.ctl_tree.specs.declared.expression.FieldAccess.{FieldAccess}
use Rattle.ctl_tree.specs.declared.expression.UnaryOperator.{UnaryOperator}
use Rattle.ctl_tree.specs.declared.expression.Operator.{Operator}
use Rattle.ctl_tree.specs.declared.expression.Expr.{Expr}
use Rattle.ctl_tree.specs.declared.expression.Expr.TheVariants.{Literal as LiteralForm, Name as NameForm, Call as CallForm, Path as PathForm, Unary as UnaryForm, Chain as ChainForm, rolls-Literal, rolls-Name, rolls-Call, rolls-Path, rolls-Unary, rolls-Chain}
use Rattle.ctl_tree.specs.declared.expression.Expr.TheOpen.{Literal as OpenLiteral, Name as OpenName, Call as OpenCall, Path as OpenPath, Unary as OpenUnary, Chain as OpenChain, Index as OpenIndex, Field as OpenField}
use Rattle.ctl_tree.specs.declared.expression.Expr.TheFolds.{fold-roll-Expr, fold-roll-Step, fold-roll-Call, fold-roll-Chain, fold-roll-Index, fold-roll-Link, fold-roll-Path, fold-roll-Unary}
use Rattle.ctl_tree.specs.declared.expression.Step.{Step}
use Rattle.ctl_tree.specs.declared.expression.Step.TheVariants.{Index as IndexForm, Field as FieldForm, rolls-Index, rolls-Field}
use Rattle.ctl_tree.specs.declared.expression.Call.{Call, roll-Call}
use Rattle.ctl_tree.specs.declared.expression.Chain.{roll-Chain}
use Rattle.ctl_tree.specs.declared.expression.Index.{roll-Index}
use Rattle.ctl_tree.specs.declared.expression.Link.{Link, roll-Link}
use Rattle.ctl_tree.specs.declared.expression.Path.{roll-Path}
use Rattle.ctl_tree.specs.declared.expression.Unary.{roll-Unary}
use Rattle.ctl_tree.specs.declared.declaration.Initialiser.{Initialiser}
use Rattle.ctl_tree.specs.declared.declaration.Initialiser.TheVariants.{Expr as ExprForm, List as ListForm, rolls-Expr, rolls-List}
use Rattle.ctl_tree.specs.declared.declaration.Initialiser.TheOpen.{Expr as OpenExpr, List as OpenList}
use Rattle.ctl_tree.specs.declared.declaration.Initialiser.TheFolds.{fold-roll-Initialiser, fold-roll-BraceList}
use Rattle.ctl_tree.specs.declared.declaration.BraceList.{roll-BraceList}
use Rattle.ctl_tree.specs.declared.declaration.Constant.{Constant}
use Rattle.ctl_tree.specs.declared.declaration.Variable.{Variable}
use Rattle.ctl_tree.specs.declared.statement.Assignment.{Assignment}
use Rattle.ctl_tree.specs.declared.statement.Empty.{Empty}
use Rattle.ctl_tree.specs.declared.statement.Return.{Return}
use Rattle.ctl_tree.specs.declared.statement.Print.{Print}
use Rattle.ctl_tree.specs.declared.statement.ForStart.{ForStart}
use Rattle.ctl_tree.specs.declared.statement.Statement.{Statement}
use Rattle.ctl_tree.specs.declared.statement.Statement.TheVariants.{Block as BlockForm, Constant as ConstantForm, Variable as VariableForm, Assignment as AssignmentForm, Call as CallStatement, If as IfForm, While as WhileForm, For as ForForm, Return as ReturnForm, Print as PrintForm, Empty as EmptyForm, rolls-Block, rolls-Constant, rolls-Variable, rolls-Assignment, rolls-Call as rolls-CallStatement, rolls-If, rolls-While, rolls-For, rolls-Return, rolls-Print, rolls-Empty}
use Rattle.ctl_tree.specs.declared.statement.Statement.TheOpen.{Block as OpenBlock, Constant as OpenConstant, Variable as OpenVariable, Assignment as OpenAssignment, Call as OpenCallStatement, If as OpenIf, While as OpenWhile, For as OpenFor, Return as OpenReturn, Print as OpenPrint, Empty as OpenEmpty}
use Rattle.ctl_tree.specs.declared.statement.Statement.TheFolds.{fold-roll-Statement, fold-roll-Arm, fold-roll-Block, fold-roll-For, fold-roll-If, fold-roll-While}
use Rattle.ctl_tree.specs.declared.statement.Arm.{Arm, roll-Arm}
use Rattle.ctl_tree.specs.declared.statement.Block.{Block, roll-Block}
use Rattle.ctl_tree.specs.declared.statement.For.{roll-For}
use Rattle.ctl_tree.specs.declared.statement.If.{roll-If}
use Rattle.ctl_tree.specs.declared.statement.While.{roll-While}
use Rattle.ctl_tree.specs.declared.definition.Struct.{Struct}
use Rattle.ctl_tree.specs.declared.definition.Function.{Function}
use Rattle.ctl_tree.specs.declared.definition.Definition.{Definition}
use Rattle.ctl_tree.specs.declared.definition.Definition.TheVariants.{Namespace as NamespaceForm, Struct as StructForm, Constant as ConstantDefinition, Function as FunctionForm, rolls-Namespace, rolls-Struct, rolls-Constant as rolls-ConstantDefinition, rolls-Function}
use Rattle.ctl_tree.specs.declared.definition.Definition.TheOpen.{Namespace as OpenNamespace, Struct as OpenStruct, Constant as OpenConstantDefinition, Function as OpenFunction}
use Rattle.ctl_tree.specs.declared.definition.Definition.TheFolds.{fold-roll-Definition, fold-roll-Namespace}
use Rattle.ctl_tree.specs.declared.definition.Namespace.{roll-Namespace}
use Rattle.ctl_tree.specs.OwnTokens.{all_tokens, some_tokens, name_tokens, expr_tokens, step_tokens, call_tokens, link_tokens, initialiser_tokens, constant_tokens, variable_tokens, assignment_tokens, return_tokens, print_tokens, start_tokens, statement_tokens, arm_tokens, block_tokens, struct_tokens, function_tokens, definition_tokens}

-- expressions

pub literal_is : (literal : Literal) → expr_tokens (LiteralForm literal) ≡ literal.token ∷ []
literal_is literal = ap expr_tokens (sym (rolls-Literal literal)) ∙ fold-roll-Expr _ _ _ _ _ _ _ _ _ _ _ _ _ _ _ _ (OpenLiteral literal)

pub name_is : (name : QualifiedName) → expr_tokens (NameForm name) ≡ name_tokens name
name_is name = ap expr_tokens (sym (rolls-Name name)) ∙ fold-roll-Expr _ _ _ _ _ _ _ _ _ _ _ _ _ _ _ _ (OpenName name)

pub call_form_is : (call : Call) → expr_tokens (CallForm call) ≡ call_tokens call
call_form_is call = ap expr_tokens (sym (rolls-Call call)) ∙ fold-roll-Expr _ _ _ _ _ _ _ _ _ _ _ _ _ _ _ _ (OpenCall call)

pub call_is : (name : QualifiedName) (arguments : List Expr) (token : ℕ) → call_tokens (roll-Call (record { name = name; arguments = arguments; token = token }))
    ≡ token ∷ (name_tokens name ++ all_tokens expr_tokens arguments)
call_is name arguments token = fold-roll-Call _ _ _ _ _ _ _ _ _ _ _ _ _ _ _ _ (record { name = name; arguments = arguments; token = token })

pub path_is : (root : Expr) (steps : List Step) → expr_tokens (PathForm (roll-Path (record { root = root; steps = steps })))
    ≡ expr_tokens root ++ all_tokens step_tokens steps
path_is root steps = ap expr_tokens (sym (rolls-Path _)) ∙ fold-roll-Expr _ _ _ _ _ _ _ _ _ _ _ _ _ _ _ _ (OpenPath _) ∙ fold-roll-Path _ _ _ _ _ _ _ _ _ _ _ _ _ _ _ _ (record { root = root; steps = steps })

pub unary_is : (operator : UnaryOperator) (operand : Expr) (token : ℕ) → expr_tokens (UnaryForm (roll-Unary (record { operator = operator; operand = operand; token = token })))
    ≡ token ∷ expr_tokens operand
unary_is operator operand token = ap expr_tokens (sym (rolls-Unary _)) ∙ fold-roll-Expr _ _ _ _ _ _ _ _ _ _ _ _ _ _ _ _ (OpenUnary _) ∙ fold-roll-Unary _ _ _ _ _ _ _ _ _ _ _ _ _ _ _ _ (record { operator = operator; operand = operand; token = token })

pub chain_is : (first : Expr) (links : List Link) (token : ℕ) → expr_tokens (ChainForm (roll-Chain (record { first = first; links = links; token = token })))
    ≡ token ∷ (expr_tokens first ++ all_tokens link_tokens links)
chain_is first links token = ap expr_tokens (sym (rolls-Chain _)) ∙ fold-roll-Expr _ _ _ _ _ _ _ _ _ _ _ _ _ _ _ _ (OpenChain _) ∙ fold-roll-Chain _ _ _ _ _ _ _ _ _ _ _ _ _ _ _ _ (record { first = first; links = links; token = token })

pub link_is : (operator : Operator) (operand : Expr) (token : ℕ) → link_tokens (roll-Link (record { operator = operator; operand = operand; token = token }))
    ≡ token ∷ expr_tokens operand
link_is operator operand token = fold-roll-Link _ _ _ _ _ _ _ _ _ _ _ _ _ _ _ _ (record { operator = operator; operand = operand; token = token })

pub index_is : (index : Expr) (token : ℕ) → step_tokens (IndexForm (roll-Index (record { index = index; token = token })))
    ≡ token ∷ expr_tokens index
index_is index token = ap step_tokens (sym (rolls-Index _)) ∙ fold-roll-Step _ _ _ _ _ _ _ _ _ _ _ _ _ _ _ _ (OpenIndex _) ∙ fold-roll-Index _ _ _ _ _ _ _ _ _ _ _ _ _ _ _ _ (record { index = index; token = token })

pub field_is : (field : FieldAccess) → step_tokens (FieldForm field) ≡ field.token ∷ []
field_is field = ap step_tokens (sym (rolls-Field field)) ∙ fold-roll-Step _ _ _ _ _ _ _ _ _ _ _ _ _ _ _ _ (OpenField field)

-- initialisers

pub expr_form_is : (e : Expr) → initialiser_tokens (ExprForm e) ≡ expr_tokens e
expr_form_is e = ap initialiser_tokens (sym (rolls-Expr e)) ∙ fold-roll-Initialiser _ _ _ _ (OpenExpr e)

pub brace_list_is : (elements : List Initialiser) (token : ℕ) → initialiser_tokens (ListForm (roll-BraceList (record { elements = elements; token = token })))
    ≡ token ∷ all_tokens initialiser_tokens elements
brace_list_is elements token = ap initialiser_tokens (sym (rolls-List _)) ∙ fold-roll-Initialiser _ _ _ _ (OpenList _) ∙ fold-roll-BraceList _ _ _ _ (record { elements = elements; token = token })

-- statements

pub block_form_is : (block : Block) → statement_tokens (BlockForm block) ≡ block_tokens block
block_form_is block = ap statement_tokens (sym (rolls-Block block)) ∙ fold-roll-Statement _ _ _ _ _ _ _ _ _ _ _ _ (OpenBlock block)

pub constant_form_is : (constant : Constant) → statement_tokens (ConstantForm constant) ≡ constant_tokens constant
constant_form_is constant = ap statement_tokens (sym (rolls-Constant constant)) ∙ fold-roll-Statement _ _ _ _ _ _ _ _ _ _ _ _ (OpenConstant constant)

pub variable_form_is : (variable : Variable) → statement_tokens (VariableForm variable) ≡ variable_tokens variable
variable_form_is variable = ap statement_tokens (sym (rolls-Variable variable)) ∙ fold-roll-Statement _ _ _ _ _ _ _ _ _ _ _ _ (OpenVariable variable)

pub assignment_form_is : (assignment : Assignment) → statement_tokens (AssignmentForm assignment) ≡ assignment_tokens assignment
assignment_form_is assignment = ap statement_tokens (sym (rolls-Assignment assignment)) ∙ fold-roll-Statement _ _ _ _ _ _ _ _ _ _ _ _ (OpenAssignment assignment)

pub call_statement_is : (call : Call) → statement_tokens (CallStatement call) ≡ call_tokens call
call_statement_is call = ap statement_tokens (sym (rolls-CallStatement call)) ∙ fold-roll-Statement _ _ _ _ _ _ _ _ _ _ _ _ (OpenCallStatement call)

pub if_is : (arms : List Arm) (otherwise : Option Statement) (token : ℕ) → statement_tokens (IfForm (roll-If (record { arms = arms; otherwise = otherwise; token = token })))
    ≡ token ∷ (all_tokens arm_tokens arms ++ some_tokens statement_tokens otherwise)
if_is arms None token = ap statement_tokens (sym (rolls-If _)) ∙ fold-roll-Statement _ _ _ _ _ _ _ _ _ _ _ _ (OpenIf _) ∙ fold-roll-If _ _ _ _ _ _ _ _ _ _ _ _ (record { arms = arms; otherwise = None; token = token })
if_is arms (Some statement) token = ap statement_tokens (sym (rolls-If _)) ∙ fold-roll-Statement _ _ _ _ _ _ _ _ _ _ _ _ (OpenIf _) ∙ fold-roll-If _ _ _ _ _ _ _ _ _ _ _ _ (record { arms = arms; otherwise = Some statement; token = token })

pub while_is : (test : Expr) (body : Statement) (token : ℕ) → statement_tokens (WhileForm (roll-While (record { test = test; body = body; token = token })))
    ≡ token ∷ (expr_tokens test ++ statement_tokens body)
while_is test body token = ap statement_tokens (sym (rolls-While _)) ∙ fold-roll-Statement _ _ _ _ _ _ _ _ _ _ _ _ (OpenWhile _) ∙ fold-roll-While _ _ _ _ _ _ _ _ _ _ _ _ (record { test = test; body = body; token = token })

pub for_is : (start : ForStart) (test : Expr) (next : Assignment) (body : Statement) (token : ℕ) → statement_tokens (ForForm (roll-For (record { start = start; test = test; next = next; body = body; token = token })))
    ≡ token ∷ (start_tokens start ++ expr_tokens test ++ assignment_tokens next ++ statement_tokens body)
for_is start test next body token = ap statement_tokens (sym (rolls-For _)) ∙ fold-roll-Statement _ _ _ _ _ _ _ _ _ _ _ _ (OpenFor _) ∙ fold-roll-For _ _ _ _ _ _ _ _ _ _ _ _ (record { start = start; test = test; next = next; body = body; token = token })

pub return_is : (leave : Return) → statement_tokens (ReturnForm leave) ≡ return_tokens leave
return_is leave = ap statement_tokens (sym (rolls-Return leave)) ∙ fold-roll-Statement _ _ _ _ _ _ _ _ _ _ _ _ (OpenReturn leave)

pub print_is : (print : Print) → statement_tokens (PrintForm print) ≡ print_tokens print
print_is print = ap statement_tokens (sym (rolls-Print print)) ∙ fold-roll-Statement _ _ _ _ _ _ _ _ _ _ _ _ (OpenPrint print)

pub empty_is : (empty : Empty) → statement_tokens (EmptyForm empty) ≡ empty.token ∷ []
empty_is empty = ap statement_tokens (sym (rolls-Empty empty)) ∙ fold-roll-Statement _ _ _ _ _ _ _ _ _ _ _ _ (OpenEmpty empty)

pub block_is : (statements : List Statement) (token : ℕ) → block_tokens (roll-Block (record { statements = statements; token = token }))
    ≡ token ∷ all_tokens statement_tokens statements
block_is statements token = fold-roll-Block _ _ _ _ _ _ _ _ _ _ _ _ (record { statements = statements; token = token })

pub arm_is : (test : Expr) (body : Statement) → arm_tokens (roll-Arm (record { test = test; body = body }))
    ≡ expr_tokens test ++ statement_tokens body
arm_is test body = fold-roll-Arm _ _ _ _ _ _ _ _ _ _ _ _ (record { test = test; body = body })

-- definitions

pub namespace_is : (name : List ℕ) (definitions : List Definition) (token : ℕ) → definition_tokens (NamespaceForm (roll-Namespace (record { name = name; definitions = definitions; token = token })))
    ≡ token ∷ all_tokens definition_tokens definitions
namespace_is name definitions token = ap definition_tokens (sym (rolls-Namespace _)) ∙ fold-roll-Definition _ _ _ _ (OpenNamespace _) ∙ fold-roll-Namespace _ _ _ _ (record { name = name; definitions = definitions; token = token })

pub struct_is : (struct : Struct) → definition_tokens (StructForm struct) ≡ struct_tokens struct
struct_is struct = ap definition_tokens (sym (rolls-Struct struct)) ∙ fold-roll-Definition _ _ _ _ (OpenStruct struct)

pub constant_definition_is : (constant : Constant) → definition_tokens (ConstantDefinition constant) ≡ constant_tokens constant
constant_definition_is constant = ap definition_tokens (sym (rolls-ConstantDefinition constant)) ∙ fold-roll-Definition _ _ _ _ (OpenConstantDefinition constant)

pub function_is : (function : Function) → definition_tokens (FunctionForm function) ≡ function_tokens function
function_is function = ap definition_tokens (sym (rolls-Function function)) ∙ fold-roll-Definition _ _ _ _ (OpenFunction function)
