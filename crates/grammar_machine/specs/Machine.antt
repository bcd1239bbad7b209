-- A machine that tells from left to right whether some module may still begin with the tokens so far. It has a stack of
-- symbols, each of which stands for what has still to come, and moves by the topmost symbol and the next token alone.
-- It comes to its end where the tokens spell a module; where it has to stop before, no module goes on with the token there.
use Rattle.std.specs.Prelude.{◌≡◌, ℕ, ◌+◌, ◌==◌, List, [], ◌∷◌, ◌++◌, Bool, true, false, Option, Some, None, cond, nat_lt}
use Rattle.ctl_tree.specs.declared.keyword.Keyword.TheVariants.{Bool as BoolWord, Const, Ctlversion, Else, Float as FloatWord, For, Half as HalfWord, If, Import, Int as IntWord, Namespace, Print, Return, Struct, Unsigned as UnsignedWord, Void, While}
use Rattle.ctl_tree.specs.declared.sign.Sign.{Sign}
use Rattle.ctl_tree.specs.declared.sign.Sign.TheVariants.{OpenRound, CloseRound, OpenSquare, CloseSquare, OpenCurly, CloseCurly, Comma, Semicolon, Dot, ColonColon, Assign}
use Rattle.ctl_tree.specs.declared.token.TokenKind.{TokenKind}
use Rattle.ctl_tree.specs.declared.token.TokenKind.TheVariants.{Word, Name, Whole, Text, Sign as SignKind}
use Rattle.ctl_tree.specs.declared.expression.Operator.{Operator}
use Rattle.ctl_tree.specs.declared.expression.UnaryOperator.{UnaryOperator}
use Rattle.ctl_tree.specs.declared.expression.LiteralValue.{LiteralValue}
use Rattle.ctl_tree.specs.declared.definition.Direction.{Direction}
use Rattle.ctl_tree.specs.declared.definition.Level.{Level}
use Rattle.ctl_tree.specs.Lexemes.{Lexeme, kind_at, bytes_at, Within}
use Rattle.ctl_tree.specs.Names.{literal_of, unary_operator_of, operator_levels, operator_of}
use Rattle.ctl_tree.specs.Modules.{direction_of, level_of, ends}
use Rattle.grammar_machine.specs.Front.{is_printable_text, sees, begins_expr, begins_word_shape, begins_statement, begins_result}

-- What has still to come. The numbers are nestings, but for the level of an operand or of links
pub data Symbol : Type 0 where
  TheSign : Sign → Symbol
  TheName : Symbol
  TheOne : Symbol
  ImportText : Symbol
  -- names and shapes
  QualifiedName : Symbol
  MoreNames : Symbol
  Shape : Symbol
  MayInt : Symbol
  -- expressions
  Operand : ℕ → ℕ → Symbol
  Links : ℕ → ℕ → Symbol
  UnaryForm : ℕ → Symbol
  Postfix : ℕ → Symbol
  Steps : ℕ → Symbol
  Primary : ℕ → Symbol
  CallOrName : ℕ → Symbol
  Arguments : ℕ → Symbol
  MoreArguments : ℕ → Symbol
  -- declarations
  Sizes : ℕ → Symbol
  ArraySizes : ℕ → Symbol
  ArraySize : ℕ → Symbol
  Initialiser : ℕ → ℕ → Symbol
  MoreElements : ℕ → Symbol
  Value : ℕ → ℕ → Symbol
  -- statements
  Block : ℕ → Symbol
  Statements : ℕ → Symbol
  Statement : ℕ → Symbol
  AfterName : ℕ → Symbol
  Assignment : ℕ → ℕ → Symbol
  Arm : ℕ → Symbol
  Elses : ℕ → Symbol
  AfterElse : ℕ → Symbol
  ForStart : ℕ → Symbol
  AfterForName : ℕ → Symbol
  ReturnValue : ℕ → Symbol
  Item : ℕ → Symbol
  MoreItems : ℕ → Symbol
  -- definitions
  Qualifiers : Symbol
  MayLevel : Symbol
  MayDirection : Symbol
  Parameter : ℕ → Symbol
  Parameters : ℕ → Symbol
  MoreParameters : ℕ → Symbol
  Result : ℕ → Symbol
  Field : ℕ → Symbol
  MoreFields : ℕ → Symbol
  MayEnd : Symbol
  Definition : ℕ → Symbol
  Definitions : ℕ → Symbol
  Imports : Symbol
  Version : Symbol
  -- the end of all tokens
  TheEnd : Symbol

-- what the machine does: it reads the token or it does not, and puts symbols in place of the topmost; or it stops. The number is a nesting that can then no longer be avoided, where that was not so before
pub data Move : Type 0 where
  Reads : ℕ → List Symbol → Move
  Expands : ℕ → List Symbol → Move
  Stops : Move

-- the symbols of a module, after which no token is left
abbrev pub start : List Symbol
start = Version ∷ Imports ∷ Definitions 0 ∷ TheEnd ∷ []

-- the symbol of an expression, which is an operand of the loosest level
abbrev pub Expr : ℕ → Symbol
Expr n = Operand 0 n

-- a token is read where it is the right one
abbrev pub read_if : Bool → Move
read_if right = cond right (Reads 0 []) Stops

-- the moves at a token of a kind, which has these bytes
abbrev pub after_operator : ℕ → ℕ → Option Operator → Move
after_operator level n (Some operator) = Reads 0 (Operand (level + 1) n ∷ Links level n ∷ [])
after_operator level n None = Expands 0 []

abbrev pub after_unary : ℕ → Option UnaryOperator → Move
after_unary n (Some operator) = Reads (n + 1) (UnaryForm (n + 1) ∷ [])
after_unary n None = Expands 0 (Postfix n ∷ [])

abbrev pub after_literal : ℕ → Option TokenKind → Option LiteralValue → Move
after_literal n k (Some value) = Reads 0 []
after_literal n (Some Name) None = Expands 0 (QualifiedName ∷ CallOrName n ∷ [])
after_literal n (Some (SignKind ColonColon)) None = Expands 0 (QualifiedName ∷ CallOrName n ∷ [])
after_literal n (Some (SignKind OpenRound)) None = Reads (n + 1) (Expr (n + 1) ∷ TheSign CloseRound ∷ [])
after_literal n _ None = Stops

abbrev pub qualified_move : Option TokenKind → Move
qualified_move (Some Name) = Reads 0 (MoreNames ∷ [])
qualified_move (Some (SignKind ColonColon)) = Reads 0 (TheName ∷ MoreNames ∷ [])
qualified_move _ = Stops

abbrev pub more_names_move : Option TokenKind → Move
more_names_move (Some (SignKind ColonColon)) = Reads 0 (TheName ∷ MoreNames ∷ [])
more_names_move _ = Expands 0 []

abbrev pub shape_word_move : Option TokenKind → Move
shape_word_move (Some Name) = Expands 0 (QualifiedName ∷ [])
shape_word_move (Some (SignKind ColonColon)) = Expands 0 (QualifiedName ∷ [])
shape_word_move (Some (Word UnsignedWord)) = Reads 0 (MayInt ∷ [])
shape_word_move (Some (Word BoolWord)) = Reads 0 []
shape_word_move (Some (Word IntWord)) = Reads 0 []
shape_word_move (Some (Word HalfWord)) = Reads 0 []
shape_word_move (Some (Word FloatWord)) = Reads 0 []
shape_word_move _ = Stops

abbrev pub may_int_move : Option TokenKind → Move
may_int_move (Some (Word IntWord)) = Reads 0 []
may_int_move _ = Expands 0 []

abbrev pub steps_move : ℕ → Option TokenKind → Move
steps_move n (Some (SignKind OpenSquare)) = Reads (n + 1) (Expr (n + 1) ∷ TheSign CloseSquare ∷ Steps n ∷ [])
steps_move n (Some (SignKind Dot)) = Reads 0 (TheName ∷ Steps n ∷ [])
steps_move n _ = Expands 0 []

abbrev pub call_or_name_move : ℕ → Option TokenKind → Move
call_or_name_move n (Some (SignKind OpenRound)) = Reads 0 (Arguments n ∷ [])
call_or_name_move n _ = Expands 0 []

-- the first of some forms that may be missing: it is looked for where a token begins one
abbrev pub first_move : Bool → ℕ → List Symbol → Move
first_move begins n symbols = cond begins (Expands n symbols) Stops

abbrev pub arguments_move : ℕ → Option TokenKind → Move
arguments_move n (Some (SignKind CloseRound)) = Reads 0 []
arguments_move n k = first_move (begins_expr k) (n + 1) (Expr (n + 1) ∷ MoreArguments n ∷ [])

abbrev pub more_arguments_move : ℕ → Option TokenKind → Move
more_arguments_move n (Some (SignKind Comma)) = Reads 0 (Expr (n + 1) ∷ MoreArguments n ∷ [])
more_arguments_move n (Some (SignKind CloseRound)) = Reads 0 []
more_arguments_move n _ = Stops

abbrev pub sizes_move : ℕ → Option TokenKind → Move
sizes_move n (Some (SignKind OpenSquare)) = Reads (n + 1) (Expr (n + 1) ∷ TheSign CloseSquare ∷ Sizes n ∷ [])
sizes_move n _ = Expands 0 []

abbrev pub array_sizes_move : ℕ → Option TokenKind → Move
array_sizes_move n (Some (SignKind OpenSquare)) = Reads 0 (ArraySize n ∷ ArraySizes n ∷ [])
array_sizes_move n _ = Expands 0 []

abbrev pub array_size_move : ℕ → Option TokenKind → Move
array_size_move n (Some (SignKind CloseSquare)) = Reads 0 []
array_size_move n k = first_move (begins_expr k) (n + 1) (Expr (n + 1) ∷ TheSign CloseSquare ∷ [])

abbrev pub initialiser_move : ℕ → ℕ → Option TokenKind → Move
initialiser_move n inner (Some (SignKind OpenCurly)) = Reads (n + 1) (Initialiser (n + 1) (n + 1) ∷ MoreElements n ∷ [])
initialiser_move n inner _ = Expands 0 (Expr inner ∷ [])

abbrev pub more_elements_move : ℕ → Option TokenKind → Move
more_elements_move n (Some (SignKind Comma)) = Reads 0 (Initialiser (n + 1) (n + 1) ∷ MoreElements n ∷ [])
more_elements_move n (Some (SignKind CloseCurly)) = Reads 0 []
more_elements_move n _ = Stops

abbrev pub value_move : ℕ → ℕ → Option TokenKind → Move
value_move n inner (Some (SignKind Assign)) = Reads 0 (Initialiser n inner ∷ [])
value_move n inner _ = Expands 0 []

abbrev pub statements_move : ℕ → Option TokenKind → Move
statements_move n (Some (SignKind CloseCurly)) = Reads 0 []
statements_move n k = first_move (begins_statement k) (n + 1) (Statement (n + 1) ∷ Statements n ∷ [])

-- the symbols of a variable after its shape and name
abbrev pub variable_end : ℕ → ℕ → List Symbol
variable_end n inner = ArraySizes n ∷ Value n inner ∷ TheSign Semicolon ∷ []

abbrev pub statement_move : ℕ → Option TokenKind → Move
statement_move n (Some (SignKind OpenCurly)) = Expands 0 (Block n ∷ [])
statement_move n (Some (SignKind Semicolon)) = Reads 0 []
statement_move n (Some (SignKind ColonColon)) = Expands 0 (QualifiedName ∷ AfterName n ∷ [])
statement_move n (Some Name) = Expands 0 (QualifiedName ∷ AfterName n ∷ [])
statement_move n (Some (Word Const)) = Reads 0 (Shape ∷ TheName ∷ ArraySizes n ∷ TheSign Assign ∷ Initialiser n n ∷ TheSign Semicolon ∷ [])
statement_move n (Some (Word If)) = Reads (n + 1) (Arm n ∷ Elses n ∷ [])
statement_move n (Some (Word While)) = Reads (n + 1) (Arm n ∷ [])
statement_move n (Some (Word For)) = Reads (n + 1) (TheSign OpenRound ∷ ForStart n ∷ Expr (n + 1) ∷ TheSign Semicolon ∷ Assignment n (n + 1) ∷ TheSign CloseRound ∷ Statement (n + 1) ∷ [])
statement_move n (Some (Word Return)) = Reads 0 (ReturnValue n ∷ [])
statement_move n (Some (Word Print)) = Reads 0 (TheSign OpenRound ∷ Item n ∷ MoreItems n ∷ [])
statement_move n k = cond (begins_word_shape k) (Expands 0 (Shape ∷ TheName ∷ variable_end n n)) Stops

-- after the name with which a statement begins: a variable's name, a call's bracket, or the rest of an assignment
abbrev pub after_name_move : ℕ → Option TokenKind → Move
after_name_move n (Some Name) = Expands 0 (TheName ∷ variable_end n n)
after_name_move n (Some (SignKind OpenRound)) = Reads 0 (Arguments n ∷ TheSign Semicolon ∷ [])
after_name_move n (Some (SignKind OpenSquare)) = Expands 0 (Steps n ∷ TheSign Assign ∷ Expr n ∷ TheSign Semicolon ∷ [])
after_name_move n (Some (SignKind Dot)) = Expands 0 (Steps n ∷ TheSign Assign ∷ Expr n ∷ TheSign Semicolon ∷ [])
after_name_move n (Some (SignKind Assign)) = Expands 0 (Steps n ∷ TheSign Assign ∷ Expr n ∷ TheSign Semicolon ∷ [])
after_name_move n _ = Stops

abbrev pub elses_move : ℕ → Option TokenKind → Move
elses_move n (Some (Word Else)) = Reads 0 (AfterElse n ∷ [])
elses_move n _ = Expands 0 []

abbrev pub after_else_move : ℕ → Option TokenKind → Move
after_else_move n (Some (Word If)) = Reads 0 (Arm n ∷ Elses n ∷ [])
after_else_move n _ = Expands 0 (Statement (n + 1) ∷ [])

abbrev pub for_start_move : ℕ → Option TokenKind → Move
for_start_move n (Some (SignKind ColonColon)) = Expands 0 (QualifiedName ∷ AfterForName n ∷ [])
for_start_move n (Some Name) = Expands 0 (QualifiedName ∷ AfterForName n ∷ [])
for_start_move n k = cond (begins_word_shape k) (Expands 0 (Shape ∷ TheName ∷ variable_end n (n + 1))) Stops

abbrev pub after_for_name_move : ℕ → Option TokenKind → Move
after_for_name_move n (Some Name) = Expands 0 (TheName ∷ variable_end n (n + 1))
after_for_name_move n (Some (SignKind OpenSquare)) = Expands 0 (Steps n ∷ TheSign Assign ∷ Expr (n + 1) ∷ TheSign Semicolon ∷ [])
after_for_name_move n (Some (SignKind Dot)) = Expands 0 (Steps n ∷ TheSign Assign ∷ Expr (n + 1) ∷ TheSign Semicolon ∷ [])
after_for_name_move n (Some (SignKind Assign)) = Expands 0 (Steps n ∷ TheSign Assign ∷ Expr (n + 1) ∷ TheSign Semicolon ∷ [])
after_for_name_move n _ = Stops

abbrev pub return_move : ℕ → Option TokenKind → Move
return_move n (Some (SignKind Semicolon)) = Reads 0 []
return_move n _ = Expands 0 (Expr n ∷ TheSign Semicolon ∷ [])

abbrev pub item_move : ℕ → Option TokenKind → Move
item_move n (Some Text) = Reads 0 []
item_move n k = first_move (begins_expr k) (n + 1) (Expr (n + 1) ∷ [])

abbrev pub more_items_move : ℕ → Option TokenKind → Move
more_items_move n (Some (SignKind Comma)) = Reads 0 (Item n ∷ MoreItems n ∷ [])
more_items_move n (Some (SignKind CloseRound)) = Reads 0 (TheSign Semicolon ∷ [])
more_items_move n _ = Stops

abbrev pub after_direction : Option Direction → Option Level → Move
after_direction (Some direction) l = Reads 0 (MayLevel ∷ [])
after_direction None (Some level) = Reads 0 (MayDirection ∷ [])
after_direction None None = Expands 0 []

abbrev pub may_level_move : Option Level → Move
may_level_move (Some level) = Reads 0 []
may_level_move None = Expands 0 []

abbrev pub may_direction_move : Option Direction → Move
may_direction_move (Some direction) = Reads 0 []
may_direction_move None = Expands 0 []

abbrev pub parameters_move : ℕ → Option TokenKind → Move
parameters_move n (Some (SignKind CloseRound)) = Reads 0 []
parameters_move n _ = Expands 0 (Parameter n ∷ MoreParameters n ∷ [])

abbrev pub more_parameters_move : ℕ → Option TokenKind → Move
more_parameters_move n (Some (SignKind Comma)) = Reads 0 (Parameter n ∷ MoreParameters n ∷ [])
more_parameters_move n (Some (SignKind CloseRound)) = Reads 0 []
more_parameters_move n _ = Stops

abbrev pub result_move : ℕ → Option TokenKind → Move
result_move n (Some (Word Void)) = Reads 0 []
result_move n _ = Expands 0 (Shape ∷ Sizes n ∷ [])

abbrev pub more_fields_move : ℕ → Option TokenKind → Move
more_fields_move n (Some (SignKind CloseCurly)) = Reads 0 []
more_fields_move n _ = Expands 0 (Field n ∷ MoreFields n ∷ [])

abbrev pub may_end_move : Option TokenKind → Move
may_end_move (Some (SignKind Semicolon)) = Reads 0 []
may_end_move _ = Expands 0 []

abbrev pub definition_move : ℕ → Option TokenKind → Move
definition_move n (Some (Word Namespace)) = Reads 0 (TheName ∷ TheSign OpenCurly ∷ Definitions (n + 1) ∷ TheSign CloseCurly ∷ [])
definition_move n (Some (Word Struct)) = Reads 0 (TheName ∷ TheSign OpenCurly ∷ Field n ∷ MoreFields n ∷ MayEnd ∷ [])
definition_move n (Some (Word Const)) = Reads 0 (Shape ∷ TheName ∷ ArraySizes n ∷ TheSign Assign ∷ Initialiser n n ∷ TheSign Semicolon ∷ [])
definition_move n k = first_move (begins_result k) (n + 1) (Result n ∷ TheName ∷ TheSign OpenRound ∷ Parameters n ∷ Block (n + 1) ∷ [])

-- whether a token begins a definition
abbrev pub begins_definition : Option TokenKind → Bool
begins_definition (Some (Word Namespace)) = true
begins_definition (Some (Word Struct)) = true
begins_definition (Some (Word Const)) = true
begins_definition k = begins_result k

abbrev pub definitions_move : ℕ → Bool → Bool → Move
definitions_move n true begins = Expands 0 []
definitions_move n false begins = first_move begins n (Definition n ∷ Definitions n ∷ [])

abbrev pub imports_move : Option TokenKind → Move
imports_move (Some (Word Import)) = Reads 0 (ImportText ∷ TheSign Semicolon ∷ Imports ∷ [])
imports_move _ = Expands 0 []

abbrev pub version_move : Option TokenKind → Move
version_move (Some (Word Ctlversion)) = Reads 0 (TheOne ∷ TheSign Semicolon ∷ [])
version_move _ = Expands 0 []

abbrev pub one_move : Option TokenKind → Move
one_move (Some (Whole n)) = read_if (n == 1)
one_move _ = Stops

abbrev pub name_move : Option TokenKind → Move
name_move (Some Name) = Reads 0 []
name_move _ = Stops

abbrev pub import_text_move : Option TokenKind → Bool → Move
import_text_move (Some Text) printable = read_if printable
import_text_move _ printable = Stops

abbrev pub end_move : Option TokenKind → Move
end_move None = Expands 0 []
end_move (Some kind) = Stops

-- the move of a symbol at a token of a kind, if there is one, and its bytes
abbrev pub move : Symbol → Option TokenKind → List ℕ → Move
move (TheSign sign) k bytes = read_if (sees sign k)
move TheName k bytes = name_move k
move TheOne k bytes = one_move k
move ImportText k bytes = import_text_move k (is_printable_text bytes)
move QualifiedName k bytes = qualified_move k
move MoreNames k bytes = more_names_move k
move Shape k bytes = shape_word_move k
move MayInt k bytes = may_int_move k
move (Operand level n) k bytes = cond (nat_lt level operator_levels) (Expands 0 (Operand (level + 1) n ∷ Links level n ∷ [])) (Expands 0 (UnaryForm n ∷ []))
move (Links level n) k bytes = after_operator level n (operator_of level k)
move (UnaryForm n) k bytes = after_unary n (unary_operator_of k)
move (Postfix n) k bytes = Expands 0 (Primary n ∷ Steps n ∷ [])
move (Steps n) k bytes = steps_move n k
move (Primary n) k bytes = after_literal n k (literal_of k)
move (CallOrName n) k bytes = call_or_name_move n k
move (Arguments n) k bytes = arguments_move n k
move (MoreArguments n) k bytes = more_arguments_move n k
move (Sizes n) k bytes = sizes_move n k
move (ArraySizes n) k bytes = array_sizes_move n k
move (ArraySize n) k bytes = array_size_move n k
move (Initialiser n inner) k bytes = initialiser_move n inner k
move (MoreElements n) k bytes = more_elements_move n k
move (Value n inner) k bytes = value_move n inner k
move (Block n) k bytes = cond (sees OpenCurly k) (Reads 0 (Statements n ∷ [])) Stops
move (Statements n) k bytes = statements_move n k
move (Statement n) k bytes = statement_move n k
move (AfterName n) k bytes = after_name_move n k
move (Assignment n inner) k bytes = Expands 0 (QualifiedName ∷ Steps n ∷ TheSign Assign ∷ Expr inner ∷ [])
move (Arm n) k bytes = cond (sees OpenRound k) (Reads 0 (Expr (n + 1) ∷ TheSign CloseRound ∷ Statement (n + 1) ∷ [])) Stops
move (Elses n) k bytes = elses_move n k
move (AfterElse n) k bytes = after_else_move n k
move (ForStart n) k bytes = for_start_move n k
move (AfterForName n) k bytes = after_for_name_move n k
move (ReturnValue n) k bytes = return_move n k
move (Item n) k bytes = item_move n k
move (MoreItems n) k bytes = more_items_move n k
move Qualifiers k bytes = after_direction (direction_of k) (level_of k)
move MayLevel k bytes = may_level_move (level_of k)
move MayDirection k bytes = may_direction_move (direction_of k)
move (Parameter n) k bytes = Expands 0 (Qualifiers ∷ Shape ∷ TheName ∷ ArraySizes n ∷ Value n n ∷ [])
move (Parameters n) k bytes = parameters_move n k
move (MoreParameters n) k bytes = more_parameters_move n k
move (Result n) k bytes = result_move n k
move (Field n) k bytes = Expands 0 (Shape ∷ TheName ∷ Sizes n ∷ TheSign Semicolon ∷ [])
move (MoreFields n) k bytes = more_fields_move n k
move MayEnd k bytes = may_end_move k
move (Definition n) k bytes = definition_move n k
move (Definitions n) k bytes = definitions_move n (ends k) (begins_definition k)
move Imports k bytes = imports_move k
move Version k bytes = version_move k
move TheEnd k bytes = end_move k

-- the machine gets from one stack and place to another, without a form that is nested too deeply
pub data Reaches (lexemes : List Lexeme) (limit : Option ℕ) : List Symbol → ℕ → List Symbol → ℕ → Type 0 where
  here : {stack stack' : List Symbol} {i j : ℕ} → stack ≡ stack' → i ≡ j → Reaches lexemes limit stack i stack' j
  expands : {stack stack' : List Symbol} {i j : ℕ} (top : Symbol) (below symbols : List Symbol) (m : ℕ) → stack ≡ top ∷ below
      → move top (kind_at lexemes i) (bytes_at lexemes i) ≡ Expands m symbols → Within limit m → Reaches lexemes limit (symbols ++ below) i stack' j
      → Reaches lexemes limit stack i stack' j
  reads : {stack stack' : List Symbol} {i j : ℕ} (top : Symbol) (below symbols : List Symbol) (m : ℕ) → stack ≡ top ∷ below
      → move top (kind_at lexemes i) (bytes_at lexemes i) ≡ Reads m symbols → Within limit m → Reaches lexemes limit (symbols ++ below) (i + 1) stack' j
      → Reaches lexemes limit stack i stack' j

-- whatever stands below, the machine gets from some symbols at one place to others at another place
abbrev pub Passes : List Lexeme → Option ℕ → List Symbol → ℕ → List Symbol → ℕ → Type 0
Passes lexemes limit symbols i others j = (below : List Symbol) → Reaches lexemes limit (symbols ++ below) i (others ++ below) j

-- the machine has to stop at a place: no form goes on with the token there
pub record StopsAt (lexemes : List Lexeme) (limit : Option ℕ) (stack : List Symbol) (i : ℕ) (place : ℕ) : Type 0 where
  pub top : Symbol
  pub below : List Symbol
  pub reached : Reaches lexemes limit stack i (top ∷ below) place
  pub stops : move top (kind_at lexemes place) (bytes_at lexemes place) ≡ Stops

-- the nesting that a move makes unavoidable
abbrev pub needs : Move → ℕ
needs (Reads m symbols) = m
needs (Expands m symbols) = m
needs Stops = 0

-- the machine has to stop at a place: with the token there a form that is nested too deeply can no longer be avoided
pub record SinksAt (lexemes : List Lexeme) (limit : Option ℕ) (stack : List Symbol) (i : ℕ) (place : ℕ) : Type 0 where
  pub top : Symbol
  pub below : List Symbol
  pub reached : Reaches lexemes limit stack i (top ∷ below) place
  pub sinks : Within limit (needs (move top (kind_at lexemes place) (bytes_at lexemes place))) → ⊥
