-- What stands at a limit of the nesting stands without one.
use Rattle.std.proofs.Common.{ℕ, List, Option, None}
use Rattle.ctl_tree.specs.declared.statement.Arm.{Arm}
use Rattle.ctl_tree.specs.declared.declaration.ArraySize.{ArraySize}
use Rattle.ctl_tree.specs.declared.statement.Assignment.{Assignment}
use Rattle.ctl_tree.specs.declared.statement.Block.{Block}
use Rattle.ctl_tree.specs.declared.expression.Call.{Call}
use Rattle.ctl_tree.specs.declared.declaration.Constant.{Constant}
use Rattle.ctl_tree.specs.declared.definition.Definition.{Definition}
use Rattle.ctl_tree.specs.declared.expression.Expr.{Expr}
use Rattle.ctl_tree.specs.declared.definition.Field.{Field}
use Rattle.ctl_tree.specs.declared.statement.ForStart.{ForStart}
use Rattle.ctl_tree.specs.declared.definition.Function.{Function}
use Rattle.ctl_tree.specs.declared.declaration.Initialiser.{Initialiser}
use Rattle.ctl_tree.specs.declared.expression.Link.{Link}
use Rattle.ctl_tree.specs.declared.definition.Module.{Module}
use Rattle.ctl_tree.specs.declared.definition.Parameter.{Parameter}
use Rattle.ctl_tree.specs.declared.statement.PrintItem.{PrintItem}
use Rattle.ctl_tree.specs.declared.definition.SizedShape.{SizedShape}
use Rattle.ctl_tree.specs.declared.statement.Statement.{Statement}
use Rattle.ctl_tree.specs.declared.expression.Step.{Step}
use Rattle.ctl_tree.specs.declared.definition.Struct.{Struct}
use Rattle.ctl_tree.specs.declared.declaration.Variable.{Variable}
use Rattle.ctl_tree.specs.Lexemes.{Lexeme}
use Rattle.ctl_tree.specs.Expressions.{IsOperand, linked, alone, tightest, AreLinks, no_link, more_links, IsUnary, operated, plain, IsPostfix, stepped, bare, AreSteps, no_step, index_step, field_step, IsPrimary, literal, named, called, bracketed, IsCall, call_of, AreArguments, no_argument, arguments, AreMoreArguments, arguments_end, more_arguments}
use Rattle.ctl_tree.specs.Declarations.{AreSizes, no_size, sizes, AreArraySizes, no_array_size, open_size, stated_size, IsInitialiser, one, brace_list, AreMoreElements, elements_end, more_elements, IsValue, no_value, value, IsConstant, constant, IsVariable, variable}
use Rattle.ctl_tree.specs.Statements.{IsAssignment, assignment, IsItem, text_item, expr_item, AreMoreItems, items_end, more_items, IsForStart, variable_start, assignment_start, IsStatement, block_statement, constant_statement, variable_statement, assignment_statement, call_statement, if_statement, while_statement, for_statement, return_nothing, return_value, print_statement, empty_statement, IsBlock, block, AreStatements, statements_end, statements, IsArm, arm, AreElses, no_else, last_else, more_arms}
use Rattle.ctl_tree.specs.Modules.{IsParameter, parameter, AreMoreParameters, parameters_end, more_parameters, AreParameters, no_parameter, parameters, IsResult, no_result, result, IsFunction, function, IsField, field_of, AreMoreFields, fields_end, more_fields, IsStruct, structure, IsDefinition, namespace, struct_definition, constant_definition, function_definition, AreDefinitions, definitions_end, definitions, IsModule, module_of}

mutual
  unlimited_operand : {lexemes : List Lexeme} {limit : Option ℕ} {level n i : ℕ} {form : Expr} {j : ℕ} → IsOperand lexemes limit level n i form j → IsOperand lexemes None level n i form j
  unlimited_operand (linked k loose h h' some) = linked k loose (unlimited_operand h) (unlimited_links h') some
  unlimited_operand (alone loose h known) = alone loose (unlimited_operand h) known
  unlimited_operand (tightest known h) = tightest known (unlimited_unary h)

  unlimited_links : {lexemes : List Lexeme} {limit : Option ℕ} {level n i : ℕ} {form : List Link} {j : ℕ} → AreLinks lexemes limit level n i form j → AreLinks lexemes None level n i form j
  unlimited_links (no_link known is) = no_link known is
  unlimited_links (more_links k known h h') = more_links k known (unlimited_operand h) (unlimited_links h')

  unlimited_unary : {lexemes : List Lexeme} {limit : Option ℕ} {n i : ℕ} {form : Expr} {j : ℕ} → IsUnary lexemes limit n i form j → IsUnary lexemes None n i form j
  unlimited_unary (operated known within h) = operated known tt (unlimited_unary h)
  unlimited_unary (plain known h) = plain known (unlimited_postfix h)

  unlimited_postfix : {lexemes : List Lexeme} {limit : Option ℕ} {n i : ℕ} {form : Expr} {j : ℕ} → IsPostfix lexemes limit n i form j → IsPostfix lexemes None n i form j
  unlimited_postfix (stepped k h h' some) = stepped k (unlimited_primary h) (unlimited_steps h') some
  unlimited_postfix (bare h h') = bare (unlimited_primary h) (unlimited_steps h')

  unlimited_steps : {lexemes : List Lexeme} {limit : Option ℕ} {n i : ℕ} {form : List Step} {j : ℕ} → AreSteps lexemes limit n i form j → AreSteps lexemes None n i form j
  unlimited_steps (no_step lacks lacks' is) = no_step lacks lacks' is
  unlimited_steps (index_step k sees within h sees' h') = index_step k sees tt (unlimited_operand h) sees' (unlimited_steps h')
  unlimited_steps (field_step sees name h) = field_step sees name (unlimited_steps h)

  unlimited_primary : {lexemes : List Lexeme} {limit : Option ℕ} {n i : ℕ} {form : Expr} {j : ℕ} → IsPrimary lexemes limit n i form j → IsPrimary lexemes None n i form j
  unlimited_primary (literal known is) = literal known is
  unlimited_primary (named root lacks) = named root lacks
  unlimited_primary (called h) = called (unlimited_call h)
  unlimited_primary (bracketed k sees within h sees' is) = bracketed k sees tt (unlimited_operand h) sees' is

  unlimited_call : {lexemes : List Lexeme} {limit : Option ℕ} {n i : ℕ} {form : Call} {j : ℕ} → IsCall lexemes limit n i form j → IsCall lexemes None n i form j
  unlimited_call (call_of k root sees h) = call_of k root sees (unlimited_arguments h)

  unlimited_arguments : {lexemes : List Lexeme} {limit : Option ℕ} {n i : ℕ} {form : List Expr} {j : ℕ} → AreArguments lexemes limit n i form j → AreArguments lexemes None n i form j
  unlimited_arguments (no_argument sees is) = no_argument sees is
  unlimited_arguments (arguments k within h h') = arguments k tt (unlimited_operand h) (unlimited_more_arguments h')

  unlimited_more_arguments : {lexemes : List Lexeme} {limit : Option ℕ} {n i : ℕ} {form : List Expr} {j : ℕ} → AreMoreArguments lexemes limit n i form j → AreMoreArguments lexemes None n i form j
  unlimited_more_arguments (arguments_end sees is) = arguments_end sees is
  unlimited_more_arguments (more_arguments k sees within h h') = more_arguments k sees tt (unlimited_operand h) (unlimited_more_arguments h')

unlimited_sizes : {lexemes : List Lexeme} {limit : Option ℕ} {n i : ℕ} {form : List ArraySize} {j : ℕ} → AreSizes lexemes limit n i form j → AreSizes lexemes None n i form j
unlimited_sizes (no_size lacks is) = no_size lacks is
unlimited_sizes (sizes k sees within h sees' h') = sizes k sees tt (unlimited_operand h) sees' (unlimited_sizes h')

unlimited_array_sizes : {lexemes : List Lexeme} {limit : Option ℕ} {n i : ℕ} {form : List ArraySize} {j : ℕ} → AreArraySizes lexemes limit n i form j → AreArraySizes lexemes None n i form j
unlimited_array_sizes (no_array_size lacks is) = no_array_size lacks is
unlimited_array_sizes (open_size sees sees' h) = open_size sees sees' (unlimited_array_sizes h)
unlimited_array_sizes (stated_size k sees within h sees' h') = stated_size k sees tt (unlimited_operand h) sees' (unlimited_array_sizes h')

mutual
  unlimited_initialiser : {lexemes : List Lexeme} {limit : Option ℕ} {n inner i : ℕ} {form : Initialiser} {j : ℕ} → IsInitialiser lexemes limit n inner i form j → IsInitialiser lexemes None n inner i form j
  unlimited_initialiser (one lacks h) = one lacks (unlimited_operand h)
  unlimited_initialiser (brace_list k sees within h h') = brace_list k sees tt (unlimited_initialiser h) (unlimited_more_elements h')

  unlimited_more_elements : {lexemes : List Lexeme} {limit : Option ℕ} {n i : ℕ} {form : List Initialiser} {j : ℕ} → AreMoreElements lexemes limit n i form j → AreMoreElements lexemes None n i form j
  unlimited_more_elements (elements_end sees is) = elements_end sees is
  unlimited_more_elements (more_elements k sees h h') = more_elements k sees (unlimited_initialiser h) (unlimited_more_elements h')

unlimited_value : {lexemes : List Lexeme} {limit : Option ℕ} {n inner i : ℕ} {form : Option Initialiser} {j : ℕ} → IsValue lexemes limit n inner i form j → IsValue lexemes None n inner i form j
unlimited_value (no_value lacks is) = no_value lacks is
unlimited_value (value sees h) = value sees (unlimited_initialiser h)

unlimited_constant : {lexemes : List Lexeme} {limit : Option ℕ} {n i : ℕ} {form : Constant} {j : ℕ} → IsConstant lexemes limit n i form j → IsConstant lexemes None n i form j
unlimited_constant (constant k m p sees shape name h sees' h' sees'' is) = constant k m p sees shape name (unlimited_array_sizes h) sees' (unlimited_initialiser h') sees'' is

unlimited_variable : {lexemes : List Lexeme} {limit : Option ℕ} {n inner i : ℕ} {form : Variable} {j : ℕ} → IsVariable lexemes limit n inner i form j → IsVariable lexemes None n inner i form j
unlimited_variable (variable k m p shape name h h' sees is) = variable k m p shape name (unlimited_array_sizes h) (unlimited_value h') sees is

unlimited_assignment : {lexemes : List Lexeme} {limit : Option ℕ} {n inner i : ℕ} {form : Assignment} {j : ℕ} → IsAssignment lexemes limit n inner i form j → IsAssignment lexemes None n inner i form j
unlimited_assignment (assignment k m root h sees h') = assignment k m root (unlimited_steps h) sees (unlimited_operand h')

unlimited_item : {lexemes : List Lexeme} {limit : Option ℕ} {n i : ℕ} {form : PrintItem} {j : ℕ} → IsItem lexemes limit n i form j → IsItem lexemes None n i form j
unlimited_item (text_item known is) = text_item known is
unlimited_item (expr_item lacks within h) = expr_item lacks tt (unlimited_operand h)

unlimited_more_items : {lexemes : List Lexeme} {limit : Option ℕ} {n i : ℕ} {form : List PrintItem} {j : ℕ} → AreMoreItems lexemes limit n i form j → AreMoreItems lexemes None n i form j
unlimited_more_items (items_end sees sees' is) = items_end sees sees' is
unlimited_more_items (more_items k sees h h') = more_items k sees (unlimited_item h) (unlimited_more_items h')

unlimited_for_start : {lexemes : List Lexeme} {limit : Option ℕ} {n i : ℕ} {form : ForStart} {j : ℕ} → IsForStart lexemes limit n i form j → IsForStart lexemes None n i form j
unlimited_for_start (variable_start h) = variable_start (unlimited_variable h)
unlimited_for_start (assignment_start k h sees is) = assignment_start k (unlimited_assignment h) sees is

mutual
  unlimited_statement : {lexemes : List Lexeme} {limit : Option ℕ} {n i : ℕ} {form : Statement} {j : ℕ} → IsStatement lexemes limit n i form j → IsStatement lexemes None n i form j
  unlimited_statement (block_statement h) = block_statement (unlimited_block h)
  unlimited_statement (constant_statement h) = constant_statement (unlimited_constant h)
  unlimited_statement (variable_statement h) = variable_statement (unlimited_variable h)
  unlimited_statement (assignment_statement k h sees is) = assignment_statement k (unlimited_assignment h) sees is
  unlimited_statement (call_statement k h sees is) = call_statement k (unlimited_call h) sees is
  unlimited_statement (if_statement k sees h h') = if_statement k sees (unlimited_arm h) (unlimited_elses h')
  unlimited_statement (while_statement sees h) = while_statement sees (unlimited_arm h)
  unlimited_statement (for_statement k m p sees sees' within h h' sees'' h'' sees''' h''') = for_statement k m p sees sees' tt (unlimited_for_start h) (unlimited_operand h') sees'' (unlimited_assignment h'') sees''' (unlimited_statement h''')
  unlimited_statement (return_nothing sees sees' is) = return_nothing sees sees' is
  unlimited_statement (return_value k sees lacks h sees' is) = return_value k sees lacks (unlimited_operand h) sees' is
  unlimited_statement (print_statement k sees sees' h h') = print_statement k sees sees' (unlimited_item h) (unlimited_more_items h')
  unlimited_statement (empty_statement sees is) = empty_statement sees is

  unlimited_block : {lexemes : List Lexeme} {limit : Option ℕ} {n i : ℕ} {form : Block} {j : ℕ} → IsBlock lexemes limit n i form j → IsBlock lexemes None n i form j
  unlimited_block (block sees h) = block sees (unlimited_statements h)

  unlimited_statements : {lexemes : List Lexeme} {limit : Option ℕ} {n i : ℕ} {form : List Statement} {j : ℕ} → AreStatements lexemes limit n i form j → AreStatements lexemes None n i form j
  unlimited_statements (statements_end sees is) = statements_end sees is
  unlimited_statements (statements k lacks within h h') = statements k lacks tt (unlimited_statement h) (unlimited_statements h')

  unlimited_arm : {lexemes : List Lexeme} {limit : Option ℕ} {n i : ℕ} {form : Arm} {j : ℕ} → IsArm lexemes limit n i form j → IsArm lexemes None n i form j
  unlimited_arm (arm k sees within h sees' h') = arm k sees tt (unlimited_operand h) sees' (unlimited_statement h')

  unlimited_elses : {lexemes : List Lexeme} {limit : Option ℕ} {n i : ℕ} {arms : List Arm} {otherwise : Option Statement} {j : ℕ} → AreElses lexemes limit n i arms otherwise j → AreElses lexemes None n i arms otherwise j
  unlimited_elses (no_else lacks is) = no_else lacks is
  unlimited_elses (last_else sees lacks within h) = last_else sees lacks tt (unlimited_statement h)
  unlimited_elses (more_arms k sees sees' h h') = more_arms k sees sees' (unlimited_arm h) (unlimited_elses h')

unlimited_parameter : {lexemes : List Lexeme} {limit : Option ℕ} {n i : ℕ} {form : Parameter} {j : ℕ} → IsParameter lexemes limit n i form j → IsParameter lexemes None n i form j
unlimited_parameter (parameter k m p qualified shape name h h') = parameter k m p qualified shape name (unlimited_array_sizes h) (unlimited_value h')

unlimited_more_parameters : {lexemes : List Lexeme} {limit : Option ℕ} {n i : ℕ} {form : List Parameter} {j : ℕ} → AreMoreParameters lexemes limit n i form j → AreMoreParameters lexemes None n i form j
unlimited_more_parameters (parameters_end sees is) = parameters_end sees is
unlimited_more_parameters (more_parameters k sees h h') = more_parameters k sees (unlimited_parameter h) (unlimited_more_parameters h')

unlimited_parameters : {lexemes : List Lexeme} {limit : Option ℕ} {n i : ℕ} {form : List Parameter} {j : ℕ} → AreParameters lexemes limit n i form j → AreParameters lexemes None n i form j
unlimited_parameters (no_parameter sees is) = no_parameter sees is
unlimited_parameters (parameters k lacks h h') = parameters k lacks (unlimited_parameter h) (unlimited_more_parameters h')

unlimited_result : {lexemes : List Lexeme} {limit : Option ℕ} {n i : ℕ} {form : Option SizedShape} {j : ℕ} → IsResult lexemes limit n i form j → IsResult lexemes None n i form j
unlimited_result (no_result sees is) = no_result sees is
unlimited_result (result k shape h) = result k shape (unlimited_sizes h)

unlimited_function : {lexemes : List Lexeme} {limit : Option ℕ} {n i : ℕ} {form : Function} {j : ℕ} → IsFunction lexemes limit n i form j → IsFunction lexemes None n i form j
unlimited_function (function k m h name sees h' within h'') = function k m (unlimited_result h) name sees (unlimited_parameters h') tt (unlimited_block h'')

unlimited_field : {lexemes : List Lexeme} {limit : Option ℕ} {n i : ℕ} {form : Field} {j : ℕ} → IsField lexemes limit n i form j → IsField lexemes None n i form j
unlimited_field (field_of k m shape name h sees is) = field_of k m shape name (unlimited_sizes h) sees is

unlimited_more_fields : {lexemes : List Lexeme} {limit : Option ℕ} {n i : ℕ} {form : List Field} {j : ℕ} → AreMoreFields lexemes limit n i form j → AreMoreFields lexemes None n i form j
unlimited_more_fields (fields_end sees is) = fields_end sees is
unlimited_more_fields (more_fields k lacks h h') = more_fields k lacks (unlimited_field h) (unlimited_more_fields h')

unlimited_struct : {lexemes : List Lexeme} {limit : Option ℕ} {n i : ℕ} {form : Struct} {j : ℕ} → IsStruct lexemes limit n i form j → IsStruct lexemes None n i form j
unlimited_struct (structure k m sees name sees' h h' last) = structure k m sees name sees' (unlimited_field h) (unlimited_more_fields h') last

mutual
  unlimited_definition : {lexemes : List Lexeme} {limit : Option ℕ} {n i : ℕ} {form : Definition} {j : ℕ} → IsDefinition lexemes limit n i form j → IsDefinition lexemes None n i form j
  unlimited_definition (namespace k sees name sees' h sees'' is) = namespace k sees name sees' (unlimited_definitions h) sees'' is
  unlimited_definition (struct_definition h) = struct_definition (unlimited_struct h)
  unlimited_definition (constant_definition h) = constant_definition (unlimited_constant h)
  unlimited_definition (function_definition h) = function_definition (unlimited_function h)

  unlimited_definitions : {lexemes : List Lexeme} {limit : Option ℕ} {n i : ℕ} {form : List Definition} {j : ℕ} → AreDefinitions lexemes limit n i form j → AreDefinitions lexemes None n i form j
  unlimited_definitions (definitions_end known is) = definitions_end known is
  unlimited_definitions (definitions k within h h') = definitions k tt (unlimited_definition h) (unlimited_definitions h')

pub unlimited_module : {lexemes : List Lexeme} {limit : Option ℕ} {m : Module} → IsModule lexemes limit m → IsModule lexemes None m
unlimited_module (module_of i j begin brought h) = module_of i j begin brought (unlimited_definitions h)
