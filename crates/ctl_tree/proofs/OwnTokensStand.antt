-- The own token of each form that stands among tokens is one of them.
use Rattle.std.proofs.Common.{◌≡◌, ◌≢◌, ℕ, ◌<◌, ◌≤◌, arith, List, [], ◌∷◌, ◌++◌, length, fold, Option, Some, None, ap, sym, subst, refl}
use Rattle.std.specs.Prelude.{slice_get}
use Rattle.std.specs.Option.{option_map}
use Rattle.std.proofs.lemmas.Option.{slice_get_within}
use Rattle.std.proofs.lemmas.List.Elements.{All-nil, All-cons, All-append}
use Rattle.ctl_tree.specs.declared.keyword.Keyword.{Keyword}
use Rattle.ctl_tree.specs.declared.keyword.Keyword.TheVariants.{Bool as BoolWord, Int as IntWord, Half as HalfWord, Float as FloatWord}
use Rattle.ctl_tree.specs.declared.token.TokenKind.{TokenKind}
use Rattle.ctl_tree.specs.declared.expression.QualifiedName.{QualifiedName}
use Rattle.ctl_tree.specs.declared.expression.Expr.{Expr}
use Rattle.ctl_tree.specs.declared.expression.Call.{Call}
use Rattle.ctl_tree.specs.declared.expression.Link.{Link, out-Link}
use Rattle.ctl_tree.specs.declared.expression.Step.{Step}
use Rattle.ctl_tree.specs.declared.declaration.ShapeKind.{ShapeKind}
use Rattle.ctl_tree.specs.declared.declaration.ShapeName.{ShapeName}
use Rattle.ctl_tree.specs.Lexemes.{Lexeme, kind_at}
use Rattle.ctl_tree.specs.Names.{AreNames, last_name, space, IsQualifiedName, local_name, global_name, shape_of, IsShape, word_shape, unsigned_shape, unsigned_int_shape, named_shape, literal_of, unary_operator_of, operator_of}
use Rattle.ctl_tree.specs.Expressions.{last_operator, IsOperand, linked, alone, tightest, AreLinks, no_link, more_links, IsUnary, operated, plain, IsPostfix, stepped, bare, AreSteps, no_step, index_step, field_step, IsPrimary, literal, named, called, bracketed, IsCall, call_of, AreArguments, no_argument, arguments, AreMoreArguments, arguments_end, more_arguments}
use Rattle.ctl_tree.specs.declared.declaration.ArraySize.{ArraySize}
use Rattle.ctl_tree.specs.declared.declaration.Initialiser.{Initialiser}
use Rattle.ctl_tree.specs.declared.declaration.Constant.{Constant}
use Rattle.ctl_tree.specs.declared.declaration.Variable.{Variable}
use Rattle.ctl_tree.specs.declared.statement.Assignment.{Assignment}
use Rattle.ctl_tree.specs.declared.statement.PrintItem.{PrintItem}
use Rattle.ctl_tree.specs.declared.statement.ForStart.{ForStart}
use Rattle.ctl_tree.specs.declared.statement.Statement.{Statement}
use Rattle.ctl_tree.specs.declared.statement.Block.{Block}
use Rattle.ctl_tree.specs.declared.statement.Arm.{Arm}
use Rattle.ctl_tree.specs.declared.definition.Parameter.{Parameter}
use Rattle.ctl_tree.specs.declared.definition.SizedShape.{SizedShape}
use Rattle.ctl_tree.specs.declared.definition.Function.{Function}
use Rattle.ctl_tree.specs.declared.definition.Field.{Field}
use Rattle.ctl_tree.specs.declared.definition.Struct.{Struct}
use Rattle.ctl_tree.specs.declared.definition.Definition.{Definition}
use Rattle.ctl_tree.specs.declared.definition.Import.{Import}
use Rattle.ctl_tree.specs.declared.definition.Module.{Module}
use Rattle.ctl_tree.specs.Declarations.{AreSizes, no_size, sizes, AreArraySizes, no_array_size, open_size, stated_size, IsInitialiser, one, brace_list, AreMoreElements, elements_end, more_elements, IsValue, no_value, value, IsConstant, constant, IsVariable, variable}
use Rattle.ctl_tree.specs.Statements.{IsAssignment, assignment, IsItem, text_item, expr_item, AreMoreItems, items_end, more_items, IsForStart, variable_start, assignment_start, IsStatement, block_statement, constant_statement, variable_statement, assignment_statement, call_statement, if_statement, while_statement, for_statement, return_nothing, return_value, print_statement, empty_statement, IsBlock, block, AreStatements, statements_end, statements, IsArm, arm, AreElses, no_else, last_else, more_arms}
use Rattle.ctl_tree.specs.Modules.{IsParameter, parameter, AreMoreParameters, parameters_end, more_parameters, AreParameters, no_parameter, parameters, IsResult, no_result, result, IsFunction, function, IsField, field_of, AreMoreFields, fields_end, more_fields, IsStruct, structure, IsDefinition, namespace, struct_definition, constant_definition, function_definition, AreDefinitions, definitions_end, definitions, AreImports, no_import, imports, IsModule, module_of}
use Rattle.ctl_tree.specs.OwnTokens.{Tokens, Below, OwnTokensBelow, all_tokens, some_tokens, shape_kind_tokens, shape_tokens, expr_tokens, link_tokens, step_tokens, call_tokens, array_size_tokens, initialiser_tokens, constant_tokens, variable_tokens, assignment_tokens, item_tokens, start_tokens, statement_tokens, block_tokens, arm_tokens, parameter_tokens, sized_shape_tokens, function_tokens, field_tokens, struct_tokens, definition_tokens, import_tokens}
use Rattle.ctl_tree.proofs.OwnTokens.{literal_is, name_is, call_form_is, call_is, path_is, unary_is, chain_is, link_is, index_is, field_is, expr_form_is, brace_list_is, block_form_is, constant_form_is, variable_form_is, assignment_form_is, call_statement_is, if_is, while_is, for_is, return_is, print_is, empty_is, block_is, arm_is, namespace_is, struct_is, constant_definition_is, function_is}

-- Tokens below a number

-- `Below` as a record, so that its type names the list
record Stand (n : ℕ) (tokens : Tokens) : Type 0 where
  pub below : Below n tokens

no_token : {n : ℕ} → Stand n []
no_token {n = n} = record { below = All-nil (λ token. token < n) }

own : {n token : ℕ} {tokens : Tokens} → token < n → Stand n tokens → Stand n (token ∷ tokens)
own {n = n} {token = token} {tokens = tokens} here h = record { below = All-cons (λ token. token < n) token tokens here h.below }

both : {n : ℕ} {ts us : Tokens} → Stand n ts → Stand n us → Stand n (ts ++ us)
both {n = n} {ts = ts} {us = us} h k = record { below = All-append (λ token. token < n) ts us h.below k.below }

through : {n : ℕ} {ts us : Tokens} → ts ≡ us → Stand n us → Stand n ts
through {n = n} is h = subst (Stand n) (sym is) h

-- Places at which a token is seen

seen_there : (lexemes : List Lexeme) (i : ℕ) (there : Option Lexeme) {kind : TokenKind} → slice_get lexemes i ≡ there → option_map (λ (lexeme : Lexeme). lexeme.kind) there ≡ Some kind
    → i < length lexemes
seen_there lexemes i None is sees = absurd cc
seen_there lexemes i (Some lexeme) is sees = slice_get_within lexemes i lexeme is

seen : (lexemes : List Lexeme) (i : ℕ) {kind : TokenKind} → kind_at lexemes i ≡ Some kind → i < length lexemes
seen lexemes i sees = seen_there lexemes i (slice_get lexemes i) refl sees

known_there : {X : Type 0} (f : Option TokenKind → Option X) (lexemes : List Lexeme) (i : ℕ) (there : Option TokenKind) {x : X} → f None ≡ None → kind_at lexemes i ≡ there
    → f there ≡ Some x → i < length lexemes
known_there f lexemes i None none is known = absurd cc
known_there f lexemes i (Some kind) none is known = seen _ _ is

-- something that only a token gives is known at a place
known_at : {X : Type 0} (f : Option TokenKind → Option X) (lexemes : List Lexeme) (i : ℕ) {x : X} → f None ≡ None → f (kind_at lexemes i) ≡ Some x → i < length lexemes
known_at f lexemes i none known = known_there f lexemes i (kind_at lexemes i) none refl known

-- Names and shapes

names_end : {lexemes : List Lexeme} {i : ℕ} {spaces : List (List ℕ)} {name : List ℕ} {j : ℕ} → AreNames lexemes i spaces name j → (0 < j) × (j ≤ length lexemes)
names_end {lexemes = lexemes} {i = i} (last_name name lacks is) = let here = seen lexemes i name.0 in (omega arith, omega arith)
names_end (space name sees more) = names_end more

name_stands : {lexemes : List Lexeme} {i : ℕ} {name : QualifiedName} {j : ℕ} → IsQualifiedName lexemes i name j → name.token < length lexemes
name_stands {lexemes = lexemes} (local_name names) = let end = names_end names in omega arith
name_stands {lexemes = lexemes} (global_name sees names) = let end = names_end names in omega arith

word_kind : (word : Keyword) {kind : ShapeKind} → shape_of word ≡ Some kind → shape_kind_tokens kind ≡ []
word_kind BoolWord known = sym (ap (some_tokens shape_kind_tokens) known)
word_kind IntWord known = sym (ap (some_tokens shape_kind_tokens) known)
word_kind HalfWord known = sym (ap (some_tokens shape_kind_tokens) known)
word_kind FloatWord known = sym (ap (some_tokens shape_kind_tokens) known)
word_kind _ known = absurd cc

shape_stands : {lexemes : List Lexeme} {i : ℕ} {shape : ShapeName} {j : ℕ} → IsShape lexemes i shape j → Stand (length lexemes) (shape_tokens shape)
shape_stands (word_shape word sees known is) = own (seen _ _ sees) (through (word_kind word known) no_token)
shape_stands (unsigned_shape sees lacks is) = own (seen _ _ sees) no_token
shape_stands (unsigned_int_shape sees int is) = own (seen _ _ int) no_token
shape_stands (named_shape h) = own (name_stands h) (own (name_stands h) no_token)

-- Expressions

last_from : {lexemes : List Lexeme} {limit : Option ℕ} {level n i : ℕ} {links : List Link} {j : ℕ} (before : ℕ) → before < length lexemes
    → AreLinks lexemes limit level n i links j → fold (λ before (link : Link). (out-Link link).token) before links < length lexemes
last_from before within (no_link none is) = within
last_from {lexemes = lexemes} {level = level} {i = i} before within (more_links k known h more) = last_from i (known_at (operator_of level) lexemes i refl known) more

last_stands : {lexemes : List Lexeme} {limit : Option ℕ} {level n i : ℕ} {links : List Link} {j : ℕ} → AreLinks lexemes limit level n i links j → links ≢ []
    → last_operator links < length lexemes
last_stands (no_link none is) some = absurd (some refl)
last_stands {lexemes = lexemes} {level = level} {i = i} (more_links k known h more) some = last_from i (known_at (operator_of level) lexemes i refl known) more

mutual
  operand_stands : {lexemes : List Lexeme} {limit : Option ℕ} {level n i : ℕ} {e : Expr} {j : ℕ} → IsOperand lexemes limit level n i e j → Stand (length lexemes) (expr_tokens e)
  operand_stands (linked k loose first links some) = through (chain_is _ _ _) (own (last_stands links some) (both (operand_stands first) (links_stand links)))
  operand_stands (alone loose h none) = operand_stands h
  operand_stands (tightest tight h) = unary_stands h

  links_stand : {lexemes : List Lexeme} {limit : Option ℕ} {level n i : ℕ} {links : List Link} {j : ℕ} → AreLinks lexemes limit level n i links j
      → Stand (length lexemes) (all_tokens link_tokens links)
  links_stand (no_link none is) = no_token
  links_stand {lexemes = lexemes} {level = level} {i = i} (more_links k known h more) =
      both (through (link_is _ _ _) (own (known_at (operator_of level) lexemes i refl known) (operand_stands h))) (links_stand more)

  unary_stands : {lexemes : List Lexeme} {limit : Option ℕ} {n i : ℕ} {e : Expr} {j : ℕ} → IsUnary lexemes limit n i e j → Stand (length lexemes) (expr_tokens e)
  unary_stands {lexemes = lexemes} {i = i} (operated is within h) =
      through (unary_is _ _ _) (own (known_at unary_operator_of lexemes i refl is) (unary_stands h))
  unary_stands (plain none h) = postfix_stands h

  postfix_stands : {lexemes : List Lexeme} {limit : Option ℕ} {n i : ℕ} {e : Expr} {j : ℕ} → IsPostfix lexemes limit n i e j → Stand (length lexemes) (expr_tokens e)
  postfix_stands (stepped k h steps some) = through (path_is _ _) (both (primary_stands h) (steps_stand steps))
  postfix_stands (bare h none) = primary_stands h

  steps_stand : {lexemes : List Lexeme} {limit : Option ℕ} {n i : ℕ} {steps : List Step} {j : ℕ} → AreSteps lexemes limit n i steps j
      → Stand (length lexemes) (all_tokens step_tokens steps)
  steps_stand (no_step lacks no_dot is) = no_token
  steps_stand (index_step k sees within h close more) =
      both (through (index_is _ _) (own (seen _ _ sees) (operand_stands h))) (steps_stand more)
  steps_stand (field_step sees name more) = both (through (field_is _) (own (seen _ _ name.0) no_token)) (steps_stand more)

  primary_stands : {lexemes : List Lexeme} {limit : Option ℕ} {n i : ℕ} {e : Expr} {j : ℕ} → IsPrimary lexemes limit n i e j → Stand (length lexemes) (expr_tokens e)
  primary_stands {lexemes = lexemes} {i = i} (literal known is) = through (literal_is _) (own (known_at literal_of lexemes i refl known) no_token)
  primary_stands (named h lacks) = through (name_is _) (own (name_stands h) no_token)
  primary_stands (called h) = through (call_form_is _) (call_stands h)
  primary_stands (bracketed k sees within h close is) = operand_stands h

  call_stands : {lexemes : List Lexeme} {limit : Option ℕ} {n i : ℕ} {call : Call} {j : ℕ} → IsCall lexemes limit n i call j → Stand (length lexemes) (call_tokens call)
  call_stands (call_of k h sees inside) =
      through (call_is _ _ _) (own (seen _ _ sees) (both (own (name_stands h) no_token) (arguments_stand inside)))

  arguments_stand : {lexemes : List Lexeme} {limit : Option ℕ} {n i : ℕ} {es : List Expr} {j : ℕ} → AreArguments lexemes limit n i es j
      → Stand (length lexemes) (all_tokens expr_tokens es)
  arguments_stand (no_argument close is) = no_token
  arguments_stand (arguments k within h more) = both (operand_stands h) (more_arguments_stand more)

  more_arguments_stand : {lexemes : List Lexeme} {limit : Option ℕ} {n i : ℕ} {es : List Expr} {j : ℕ} → AreMoreArguments lexemes limit n i es j
      → Stand (length lexemes) (all_tokens expr_tokens es)
  more_arguments_stand (arguments_end close is) = no_token
  more_arguments_stand (more_arguments k comma within h more) = both (operand_stands h) (more_arguments_stand more)

-- Declarations

sizes_stand : {lexemes : List Lexeme} {limit : Option ℕ} {n i : ℕ} {forms : List ArraySize} {j : ℕ} → AreSizes lexemes limit n i forms j
    → Stand (length lexemes) (all_tokens array_size_tokens forms)
sizes_stand (no_size lacks is) = no_token
sizes_stand (sizes k sees within h close more) = both (own (seen _ _ sees) (operand_stands h)) (sizes_stand more)

array_sizes_stand : {lexemes : List Lexeme} {limit : Option ℕ} {n i : ℕ} {forms : List ArraySize} {j : ℕ} → AreArraySizes lexemes limit n i forms j
    → Stand (length lexemes) (all_tokens array_size_tokens forms)
array_sizes_stand (no_array_size lacks is) = no_token
array_sizes_stand (open_size sees close more) = both (own (seen _ _ sees) no_token) (array_sizes_stand more)
array_sizes_stand (stated_size k sees within h close more) = both (own (seen _ _ sees) (operand_stands h)) (array_sizes_stand more)

mutual
  initialiser_stands : {lexemes : List Lexeme} {limit : Option ℕ} {n inner i : ℕ} {form : Initialiser} {j : ℕ} → IsInitialiser lexemes limit n inner i form j
      → Stand (length lexemes) (initialiser_tokens form)
  initialiser_stands (one lacks h) = through (expr_form_is _) (operand_stands h)
  initialiser_stands (brace_list k sees within h more) =
      through (brace_list_is _ _) (own (seen _ _ sees) (both (initialiser_stands h) (more_elements_stand more)))

  more_elements_stand : {lexemes : List Lexeme} {limit : Option ℕ} {n i : ℕ} {forms : List Initialiser} {j : ℕ} → AreMoreElements lexemes limit n i forms j
      → Stand (length lexemes) (all_tokens initialiser_tokens forms)
  more_elements_stand (elements_end close is) = no_token
  more_elements_stand (more_elements k comma h more) = both (initialiser_stands h) (more_elements_stand more)

value_stands : {lexemes : List Lexeme} {limit : Option ℕ} {n inner i : ℕ} {form : Option Initialiser} {j : ℕ} → IsValue lexemes limit n inner i form j
    → Stand (length lexemes) (some_tokens initialiser_tokens form)
value_stands (no_value lacks is) = no_token
value_stands (value sees h) = initialiser_stands h

constant_stands : {lexemes : List Lexeme} {limit : Option ℕ} {n i : ℕ} {form : Constant} {j : ℕ} → IsConstant lexemes limit n i form j
    → Stand (length lexemes) (constant_tokens form)
constant_stands (constant k m p sees h name array assign h' semicolon is) =
    own (seen _ _ name.0) (both (both (shape_stands h) (array_sizes_stand array)) (initialiser_stands h'))

variable_stands : {lexemes : List Lexeme} {limit : Option ℕ} {n inner i : ℕ} {form : Variable} {j : ℕ} → IsVariable lexemes limit n inner i form j
    → Stand (length lexemes) (variable_tokens form)
variable_stands (variable k m p h name array h' semicolon is) =
    own (seen _ _ name.0) (both (both (shape_stands h) (array_sizes_stand array)) (value_stands h'))

-- Statements

assignment_stands : {lexemes : List Lexeme} {limit : Option ℕ} {n inner i : ℕ} {form : Assignment} {j : ℕ} → IsAssignment lexemes limit n inner i form j
    → Stand (length lexemes) (assignment_tokens form)
assignment_stands (assignment k m root steps sees h) =
    own (seen _ _ sees) (both (both (own (name_stands root) no_token) (steps_stand steps)) (operand_stands h))

item_stands : {lexemes : List Lexeme} {limit : Option ℕ} {n i : ℕ} {form : PrintItem} {j : ℕ} → IsItem lexemes limit n i form j
    → Stand (length lexemes) (item_tokens form)
item_stands (text_item sees is) = own (seen _ _ sees) no_token
item_stands (expr_item lacks within h) = operand_stands h

more_items_stand : {lexemes : List Lexeme} {limit : Option ℕ} {n i : ℕ} {forms : List PrintItem} {j : ℕ} → AreMoreItems lexemes limit n i forms j
    → Stand (length lexemes) (all_tokens item_tokens forms)
more_items_stand (items_end close semicolon is) = no_token
more_items_stand (more_items k comma h more) = both (item_stands h) (more_items_stand more)

start_stands : {lexemes : List Lexeme} {limit : Option ℕ} {n i : ℕ} {form : ForStart} {j : ℕ} → IsForStart lexemes limit n i form j
    → Stand (length lexemes) (start_tokens form)
start_stands (variable_start h) = variable_stands h
start_stands (assignment_start k h semicolon is) = assignment_stands h

mutual
  statement_stands : {lexemes : List Lexeme} {limit : Option ℕ} {n i : ℕ} {form : Statement} {j : ℕ} → IsStatement lexemes limit n i form j
      → Stand (length lexemes) (statement_tokens form)
  statement_stands (block_statement h) = through (block_form_is _) (block_stands h)
  statement_stands (constant_statement h) = through (constant_form_is _) (constant_stands h)
  statement_stands (variable_statement h) = through (variable_form_is _) (variable_stands h)
  statement_stands (assignment_statement k h semicolon is) = through (assignment_form_is _) (assignment_stands h)
  statement_stands (call_statement k h semicolon is) = through (call_statement_is _) (call_stands h)
  statement_stands (if_statement k sees h others) =
      let rest = elses_stand others in
      through (if_is _ _ _) (own (seen _ _ sees) (both (both (arm_stands h) rest.0) rest.1))
  statement_stands (while_statement sees h) = through (while_is _ _ _) (own (seen _ _ sees) (through (sym (arm_is _ _)) (arm_stands h)))
  statement_stands (for_statement k m p sees opens within start test semicolon next close body) =
      through (for_is _ _ _ _ _) (own (seen _ _ sees) (both (both (both (start_stands start) (operand_stands test)) (assignment_stands next)) (statement_stands body)))
  statement_stands (return_nothing sees semicolon is) = through (return_is _) (own (seen _ _ sees) no_token)
  statement_stands (return_value k sees lacks h semicolon is) = through (return_is _) (own (seen _ _ sees) (operand_stands h))
  statement_stands (print_statement k sees opens h others) = through (print_is _) (own (seen _ _ sees) (both (item_stands h) (more_items_stand others)))
  statement_stands (empty_statement sees is) = through (empty_is _) (own (seen _ _ sees) no_token)

  block_stands : {lexemes : List Lexeme} {limit : Option ℕ} {n i : ℕ} {form : Block} {j : ℕ} → IsBlock lexemes limit n i form j → Stand (length lexemes) (block_tokens form)
  block_stands (block sees h) = through (block_is _ _) (own (seen _ _ sees) (statements_stand h))

  statements_stand : {lexemes : List Lexeme} {limit : Option ℕ} {n i : ℕ} {forms : List Statement} {j : ℕ} → AreStatements lexemes limit n i forms j
      → Stand (length lexemes) (all_tokens statement_tokens forms)
  statements_stand (statements_end close is) = no_token
  statements_stand (statements k lacks within h more) = both (statement_stands h) (statements_stand more)

  arm_stands : {lexemes : List Lexeme} {limit : Option ℕ} {n i : ℕ} {form : Arm} {j : ℕ} → IsArm lexemes limit n i form j → Stand (length lexemes) (arm_tokens form)
  arm_stands (arm k opens within test close body) = through (arm_is _ _) (both (operand_stands test) (statement_stands body))

  elses_stand : {lexemes : List Lexeme} {limit : Option ℕ} {n i : ℕ} {arms : List Arm} {otherwise : Option Statement} {j : ℕ} → AreElses lexemes limit n i arms otherwise j
      → Stand (length lexemes) (all_tokens arm_tokens arms) × Stand (length lexemes) (some_tokens statement_tokens otherwise)
  elses_stand (no_else lacks is) = (no_token, no_token)
  elses_stand (last_else sees lacks within h) = (no_token, statement_stands h)
  elses_stand (more_arms k sees is_if h more) =
      let rest = elses_stand more in
      (both (arm_stands h) rest.0, rest.1)

-- Definitions and modules

parameter_stands : {lexemes : List Lexeme} {limit : Option ℕ} {n i : ℕ} {form : Parameter} {j : ℕ} → IsParameter lexemes limit n i form j
    → Stand (length lexemes) (parameter_tokens form)
parameter_stands (parameter k m p qualifiers h name array h') =
    own (seen _ _ name.0) (both (both (shape_stands h) (array_sizes_stand array)) (value_stands h'))

more_parameters_stand : {lexemes : List Lexeme} {limit : Option ℕ} {n i : ℕ} {forms : List Parameter} {j : ℕ} → AreMoreParameters lexemes limit n i forms j
    → Stand (length lexemes) (all_tokens parameter_tokens forms)
more_parameters_stand (parameters_end close is) = no_token
more_parameters_stand (more_parameters k comma h more) = both (parameter_stands h) (more_parameters_stand more)

parameters_stand : {lexemes : List Lexeme} {limit : Option ℕ} {n i : ℕ} {forms : List Parameter} {j : ℕ} → AreParameters lexemes limit n i forms j
    → Stand (length lexemes) (all_tokens parameter_tokens forms)
parameters_stand (no_parameter close is) = no_token
parameters_stand (parameters k lacks h more) = both (parameter_stands h) (more_parameters_stand more)

result_stands : {lexemes : List Lexeme} {limit : Option ℕ} {n i : ℕ} {form : Option SizedShape} {j : ℕ} → IsResult lexemes limit n i form j
    → Stand (length lexemes) (some_tokens sized_shape_tokens form)
result_stands (no_result sees is) = no_token
result_stands (result k h array) = both (shape_stands h) (sizes_stand array)

function_stands : {lexemes : List Lexeme} {limit : Option ℕ} {n i : ℕ} {form : Function} {j : ℕ} → IsFunction lexemes limit n i form j
    → Stand (length lexemes) (function_tokens form)
function_stands (function k m h name opens given within body) =
    own (seen _ _ name.0) (both (both (result_stands h) (parameters_stand given)) (block_stands body))

field_stands : {lexemes : List Lexeme} {limit : Option ℕ} {n i : ℕ} {form : Field} {j : ℕ} → IsField lexemes limit n i form j → Stand (length lexemes) (field_tokens form)
field_stands (field_of k m h name array semicolon is) = own (seen _ _ name.0) (both (shape_stands h) (sizes_stand array))

more_fields_stand : {lexemes : List Lexeme} {limit : Option ℕ} {n i : ℕ} {forms : List Field} {j : ℕ} → AreMoreFields lexemes limit n i forms j
    → Stand (length lexemes) (all_tokens field_tokens forms)
more_fields_stand (fields_end close is) = no_token
more_fields_stand (more_fields k lacks h more) = both (field_stands h) (more_fields_stand more)

struct_stands : {lexemes : List Lexeme} {limit : Option ℕ} {n i : ℕ} {form : Struct} {j : ℕ} → IsStruct lexemes limit n i form j
    → Stand (length lexemes) (struct_tokens form)
struct_stands (structure k m sees name opens h more last) = own (seen _ _ name.0) (both (field_stands h) (more_fields_stand more))

mutual
  definition_stands : {lexemes : List Lexeme} {limit : Option ℕ} {n i : ℕ} {form : Definition} {j : ℕ} → IsDefinition lexemes limit n i form j
      → Stand (length lexemes) (definition_tokens form)
  definition_stands (namespace k sees name opens h close is) = through (namespace_is _ _ _) (own (seen _ _ name.0) (definitions_stand h))
  definition_stands (struct_definition h) = through (struct_is _) (struct_stands h)
  definition_stands (constant_definition h) = through (constant_definition_is _) (constant_stands h)
  definition_stands (function_definition h) = through (function_is _) (function_stands h)

  definitions_stand : {lexemes : List Lexeme} {limit : Option ℕ} {n i : ℕ} {forms : List Definition} {j : ℕ} → AreDefinitions lexemes limit n i forms j
      → Stand (length lexemes) (all_tokens definition_tokens forms)
  definitions_stand (definitions_end ends is) = no_token
  definitions_stand (definitions k within h more) = both (definition_stands h) (definitions_stand more)

imports_stand : {lexemes : List Lexeme} {i : ℕ} {forms : List Import} {j : ℕ} → AreImports lexemes i forms j → Stand (length lexemes) (all_tokens import_tokens forms)
imports_stand (no_import lacks is) = no_token
imports_stand (imports sees text printable semicolon more) = both (own (seen _ _ text) no_token) (imports_stand more)

pub module_stands : {lexemes : List Lexeme} {limit : Option ℕ} {m : Module} → IsModule lexemes limit m → OwnTokensBelow (length lexemes) m
module_stands (module_of i j begin brought h) = (both (imports_stand brought) (definitions_stand h)).below
