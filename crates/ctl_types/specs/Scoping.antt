-- Which statements, functions, definitions and programs keep the rules: one fold over statements carries the variables
-- that are visible, and tells whether a statement surely returns.
use Rattle.std.specs.Prelude.{◌≡◌, ℕ, suc, ◌+◌, max, List, [], ◌∷◌, ◌++◌, map, replicate, length, Option, Some, None, is_some, Bool, true, false, not, ◌&&◌, ◌||◌, ◌==◌, slice_get, slice_set, nat_lt, nat_le, refl}
use Rattle.std.specs.Coded.{Coded, code_by, coded×, coded_option, coded_ℕ}
use Rattle.ctl_base.specs.declared.kind.ScalarKind.TheVariants as kind
use Rattle.ctl_base.specs.declared.limits.TheConstants.{SCALARS, CALL_DEPTH}
use Rattle.ctl_tree.specs.Units.{SourceUnit}
use Rattle.ctl_types.specs.declared.shape.Base.{Base}
use Rattle.ctl_types.specs.declared.shape.Base.TheVariants.{Scalar, Struct}
use Rattle.ctl_types.specs.declared.shape.Shape.{Shape}
use Rattle.ctl_types.specs.declared.shape.LocalShape.{LocalShape}
use Rattle.ctl_types.specs.declared.value.Value.{Value}
use Rattle.ctl_types.specs.declared.expression.Operand.{Operand}
use Rattle.ctl_types.specs.declared.statement.Initialiser.{Initialiser}
use Rattle.ctl_types.specs.declared.statement.Declaration.{Declaration}
use Rattle.ctl_types.specs.declared.statement.Assignment.{Assignment}
use Rattle.ctl_types.specs.declared.statement.ForStart.{ForStart}
use Rattle.ctl_types.specs.declared.statement.ForStart.TheVariants as start
use Rattle.ctl_types.specs.declared.statement.PrintItem.{PrintItem}
use Rattle.ctl_types.specs.declared.statement.PrintItem.TheVariants as item
use Rattle.ctl_types.specs.declared.statement.TypedStatement.{TypedStatement, out-TypedStatement}
use Rattle.ctl_types.specs.declared.statement.Arm.{Arm}
use Rattle.ctl_types.specs.declared.statement.TypedStatement.TheOpen.{TypedStatement-F, Arm-F, Empty, Block, Declare, Assign, Call, If, While, For, Return, Print}
use Rattle.ctl_types.specs.declared.statement.TypedStatement.TheFolds.{fold-TypedStatement}
use Rattle.ctl_types.specs.declared.program.Field.{Field}
use Rattle.ctl_types.specs.declared.program.Struct.{Struct as StructForm}
use Rattle.ctl_types.specs.declared.program.Constant.{Constant}
use Rattle.ctl_types.specs.declared.program.Parameter.{Parameter}
use Rattle.ctl_types.specs.declared.program.Function.{Function}
use Rattle.ctl_types.specs.Shapes.{extents, base_of, local, whole, whole_of, struct_scalars, struct_counts}
use Rattle.ctl_types.specs.Values.{fits, sizes_at, sizes_fit, scalars}
use Rattle.ctl_types.specs.Definitions.{Defined, defined_code, library_structs, library_constants, entry_number}
use Rattle.ctl_types.specs.Typing.{Typed, has, besides, is_scalar, are_stated, shape_stands, node_stands, Variables, Variable, Scene, Signature, Formal, signature_of, result_type, expr_type, operand_type, call_form_type, PlaceType, place_type, initialiser_type}

-- ---- statements

-- the variables that are visible, and the numbers of all declarations before, also of those that are not visible any more
pub record Scope : Type 0 where
  pub variables : Variables
  pub used : List ℕ

-- whether a statement is well typed, the scope after it, whether it surely returns, and the greatest depth of a function
-- that is called in it
pub record Scoped : Type 0 where
  pub well : Bool
  pub after : Scope
  pub returns : Bool
  pub depth : ℕ

-- from the scope before a statement
abbrev pub Scoping : Type 0
Scoping = Scope → Scoped

-- what declares nothing and does not return
abbrev pub simple : Bool → ℕ → Scoping
simple well depth scope = record { well = well; after = scope; returns = false; depth = depth }

-- after a scope of its own the variables are those before it, and the numbers stay used
abbrev pub closed : Scope → Scope → Scope
closed before after = record { variables = before.variables; used = after.used }

-- a scope of its own
abbrev pub own_scope : Scoping → Scoping
own_scope a scope = record { well = (a scope).well; after = closed scope (a scope).after; returns = (a scope).returns; depth = (a scope).depth }

-- what is well typed where this holds too
abbrev pub asked : Bool → Scoping → Scoping
asked b a scope = record { well = b && (a scope).well; after = (a scope).after; returns = (a scope).returns; depth = (a scope).depth }

-- one after another: it returns where one of them does
abbrev pub scope_all : List Scoping → Scoping
scope_all [] scope = simple true 0 scope
scope_all (a ∷ rest) scope = record {
  well = (a scope).well && (scope_all rest (a scope).after).well;
  after = (scope_all rest (a scope).after).after;
  returns = (a scope).returns || (scope_all rest (a scope).after).returns;
  depth = max (a scope).depth (scope_all rest (a scope).after).depth;
}

-- the arms of an `if`: it returns where all of them do
abbrev pub scope_arms : List Scoping → Scoping → Scoping
scope_arms [] otherwise scope = otherwise scope
scope_arms (a ∷ arms) otherwise scope = record {
  well = (a scope).well && (scope_arms arms otherwise (a scope).after).well;
  after = (scope_arms arms otherwise (a scope).after).after;
  returns = (a scope).returns && (scope_arms arms otherwise (a scope).after).returns;
  depth = max (a scope).depth (scope_arms arms otherwise (a scope).after).depth;
}

-- an `if` without `else` may do nothing, and does not surely return
abbrev pub scope_otherwise : Option Scoping → Scoping
scope_otherwise None = simple true 0
scope_otherwise (Some a) = own_scope a

-- a test before what it decides
abbrev pub tested : Typed → Bool → Scoping → Scoping
tested t stands a scope = record { well = (is_scalar kind.Bool t && stands) && (a scope).well; after = (a scope).after; returns = (a scope).returns; depth = max t.depth (a scope).depth }

-- a loop does not surely return
abbrev pub looped : Scoping → Scoping
looped a scope = record { well = (a scope).well; after = (a scope).after; returns = false; depth = (a scope).depth }

-- a number in range, of a variable that is not visible
abbrev pub is_free : Option (Option Variable) → Bool
is_free None = false
is_free (Some None) = true
is_free (Some (Some v)) = false

-- it is one of these
abbrev pub is_among : ℕ → List ℕ → Bool
is_among x [] = false
is_among x (y ∷ ys) = x == y || is_among x ys

-- each declaration has a number of its own, in whatever order: it is in range, no parameter's, and of no declaration before
abbrev pub may_declare : Scope → ℕ → Bool
may_declare scope x = is_free (slice_get scope.variables x) && not (is_among x scope.used)

-- the scope after a declaration
abbrev pub declared_in : Scope → ℕ → Variable → Scope
declared_in scope x v = record { variables = slice_set scope.variables x (Some v); used = x ∷ scope.used }

-- a constant has a first value
abbrev pub begins_well : Declaration → Bool
begins_well d = is_some d.first || not d.is_constant

module _ (s : Scene) (result : Typed) where
  -- the first value of a variable: without an initialiser the sizes are stated
  abbrev pub first_type : Variables → LocalShape → Option Initialiser → Typed
  first_type scope shape None = record { well = are_stated shape.sizes; sizes = shape.sizes; base = Some shape.base; depth = 0 }
  first_type scope shape (Some i) = initialiser_type s scope i

  -- a declaration has a number of its own, and its shape is that of its first value
  abbrev pub scope_declaration : Declaration → Scoping
  scope_declaration d scope = record {
    well = (may_declare scope d.variable && begins_well d) && (shape_stands s d.shape && has (first_type scope.variables d.shape d.first) d.shape.sizes (Some d.shape.base));
    after = declared_in scope d.variable (record { shape = d.shape; is_assignable = not d.is_constant });
    returns = false;
    depth = (first_type scope.variables d.shape d.first).depth;
  }

  -- the place may be assigned, and the value has its shape, with stated sizes
  abbrev pub assignment_type : PlaceType → Typed → Typed
  assignment_type place t = record {
    well = (place.is_assignable && place.type.well) && (has t place.type.sizes place.type.base && are_stated t.sizes);
    sizes = t.sizes;
    base = t.base;
    depth = max place.type.depth t.depth;
  }

  -- an assignment
  abbrev pub scope_assignment : Assignment → Scoping
  scope_assignment a scope = simple (assignment_type (place_type s scope.variables a.place) (operand_type s scope.variables a.value)).well (assignment_type (place_type s scope.variables a.place) (operand_type s scope.variables a.value)).depth scope

  -- how a `for` begins: it declares no constant
  abbrev pub scope_start : ForStart → Scoping
  scope_start (start.Declare d) = asked (not d.is_constant) (scope_declaration d)
  scope_start (start.Assign a) = scope_assignment a

  -- what is printed has a value
  abbrev pub item_type : Variables → PrintItem → Typed
  item_type scope (item.Text text) = record { well = true; sizes = []; base = None; depth = 0 }
  item_type scope (item.Value e) = record { well = (expr_type s scope e).well && is_some (expr_type s scope e).base; sizes = []; base = None; depth = (expr_type s scope e).depth }

  -- all that is printed
  abbrev pub scope_items : List PrintItem → Scoping
  scope_items [] scope = simple true 0 scope
  scope_items (i ∷ items) scope = simple ((item_type scope.variables i).well && (scope_items items scope).well) (max (item_type scope.variables i).depth (scope_items items scope).depth) scope

  -- A void function returns nothing, any other one a value of its result's shape. A void call is no operand.
  abbrev pub left_type : Variables → Option Operand → Typed
  left_type scope None = record { well = true; sizes = []; base = None; depth = 0 }
  left_type scope (Some o) = besides (is_some (operand_type s scope o).base) 0 (operand_type s scope o)

  -- a return
  abbrev pub scope_return : Option Operand → Scoping
  scope_return o scope = record { well = has (left_type scope.variables o) result.sizes result.base; after = scope; returns = true; depth = (left_type scope.variables o).depth }

  -- A `for` is a scope of its own. What its head declares is visible in the test, the body and the assignment.
  abbrev pub scope_for : Scoping → Operand → Scoping → Scoping → Bool → Scoping
  scope_for first test next body stands =
      own_scope (scope_all (first ∷ (λ scope. looped (tested (operand_type s scope.variables test) stands (scope_all (own_scope body ∷ next ∷ []))) scope) ∷ []))

  -- an arm: its body is a scope of its own
  abbrev pub scope_arm : Arm-F Scoping Scoping → Scoping
  scope_arm a scope = tested (operand_type s scope.variables a.test) true (own_scope a.body) scope

  -- a statement, by its parts: an `if` has an arm, and a `print` an item
  abbrev pub scope_step : TypedStatement-F Scoping Scoping → Scoping
  scope_step Empty scope = simple true 0 scope
  scope_step (Block all) scope = own_scope (scope_all all) scope
  scope_step (Declare d) scope = scope_declaration d scope
  scope_step (Assign a) scope = scope_assignment a scope
  scope_step (Call c) scope = simple (call_form_type s scope.variables c).well (call_form_type s scope.variables c).depth scope
  scope_step (If arms otherwise) scope = asked (nat_lt 0 (length arms)) (scope_arms arms (scope_otherwise otherwise)) scope
  scope_step (While test body node) scope = looped (tested (operand_type s scope.variables test) (node_stands s node) (own_scope body)) scope
  scope_step (For first test next body node) scope = scope_for (scope_start first) test (scope_assignment next) body (node_stands s node) scope
  scope_step (Return o) scope = scope_return o scope
  scope_step (Print items) scope = asked (nat_lt 0 (length items)) (scope_items items) scope

  -- a statement
  abbrev pub scope_statement : TypedStatement → Scoping
  scope_statement = fold-TypedStatement Scoping Scoping scope_step scope_arm

-- ---- functions

-- the parameters are the first variables; an output may be assigned
abbrev pub parameter_variables : List Formal → Variables
parameter_variables = map (λ (q : Formal). Some (record { shape = q.shape; is_assignable = q.is_output }))

-- the scope of a body, where n variables will be declared
abbrev pub first_scope : List Formal → ℕ → Scope
first_scope formals n = record { variables = parameter_variables formals ++ replicate n None; used = [] }

-- a default is of its parameter's shape, and within the limits
abbrev pub default_stands : List StructForm → Shape → Option Value → Bool
default_stands structs shape None = true
default_stands structs shape (Some v) =
    (sizes_fit (sizes_at (extents shape) (Some v)) && nat_le (scalars v) SCALARS)
    && fits structs v (whole (sizes_at (extents shape) (Some v)) (local 0 shape).sizes (Some (base_of shape))).sizes (Some (base_of shape))

-- each parameter has a shape, a default and a node that stand
abbrev pub parameters_stand : Scene → List Formal → List Parameter → Bool
parameters_stand s [] parameters = true
parameters_stand s (q ∷ formals) [] = false
parameters_stand s (q ∷ formals) (p ∷ parameters) =
    ((shape_stands s q.shape && default_stands s.structs p.shape p.default) && node_stands s p.node) && parameters_stand s formals parameters

-- a result has stated sizes
abbrev pub result_stands : Scene → Option Shape → Bool
result_stands s None = true
result_stands s (Some shape) = are_stated (local 0 shape).sizes && shape_stands s (local 0 shape)

-- it gives no value
abbrev pub is_void : Option Shape → Bool
is_void None = true
is_void (Some shape) = false

-- the scene inside a function, which calls none of the greatest depth
abbrev pub inside : Scene → Function → Scene
inside s f = record { tokens = s.tokens; structs = s.structs; counts = s.counts; constants = s.constants; functions = s.functions; too_deep = CALL_DEPTH; opens = (signature_of 0 f).opens }

-- a block
abbrev pub is_block : TypedStatement-F TypedStatement Arm → Bool
is_block Empty = false
is_block (Block all) = true
is_block (Declare d) = false
is_block (Assign a) = false
is_block (Call c) = false
is_block (If arms otherwise) = false
is_block (While test body node) = false
is_block (For first test next body node) = false
is_block (Return o) = false
is_block (Print items) = false

-- the body of a function
abbrev pub body_scope : Scene → Function → Scoped
body_scope s f = scope_statement (inside s f) (result_type f.result) f.body (first_scope (signature_of 0 f).formals f.variables)

-- a function as a call of it sees it: it is one deeper than the deepest function that it calls
abbrev pub function_signature : Scene → Function → Signature
function_signature s f = signature_of (suc (body_scope s f).depth) f

-- a function is well typed, its body is a block that declares all its variables, and it returns where it is to give a value
abbrev pub function_stands : Scene → Function → Bool
function_stands s f =
    ((node_stands s f.node && parameters_stand (inside s f) (signature_of 0 f).formals f.parameters) && result_stands s f.result)
    && ((((body_scope s f).well && is_block (out-TypedStatement f.body)) && length (body_scope s f).after.used == f.variables) && (is_void f.result || (body_scope s f).returns))

-- a scene with these functions
abbrev pub with_functions : Scene → List Signature → Scene
with_functions s functions = record { tokens = s.tokens; structs = s.structs; counts = s.counts; constants = s.constants; functions = functions; too_deep = s.too_deep; opens = s.opens }

-- each function, by those before it
abbrev pub functions_stand : Scene → List Function → Bool
functions_stand s [] = true
functions_stand s (f ∷ functions) = function_stands s f && functions_stand (with_functions s (s.functions ++ function_signature s f ∷ [])) functions

-- the signatures of functions, each by those before it
abbrev pub signatures_after : Scene → List Function → List Signature
signatures_after s [] = s.functions
signatures_after s (f ∷ functions) = signatures_after (with_functions s (s.functions ++ function_signature s f ∷ [])) functions

-- ---- definitions

-- the fields of struct n have stated sizes, and are of structs before it
abbrev pub field_stands : Scene → Field → Bool
field_stands s f = are_stated (local 0 f.shape).sizes && shape_stands s (local 0 f.shape)

-- each field stands
abbrev pub fields_stand : Scene → List Field → Bool
fields_stand s [] = true
fields_stand s (f ∷ fields) = field_stands s f && fields_stand s fields

-- the scene of a struct, by the structs before it
abbrev pub empty_scene : List ℕ → List StructForm → List ℕ → Scene
empty_scene tokens structs counts = record { tokens = tokens; structs = structs; counts = counts; constants = []; functions = []; too_deep = 0; opens = 0 }

-- a struct has a field, and not too many scalars
abbrev pub struct_stands : List StructForm → List ℕ → StructForm → Bool
struct_stands before counts d = (nat_lt 0 (length d.fields) && fields_stand (empty_scene [] before counts) d.fields) && nat_le (struct_scalars counts d) SCALARS

-- each struct stands, by those before it
abbrev pub structs_stand : List StructForm → List ℕ → List StructForm → Bool
structs_stand before counts [] = true
structs_stand before counts (d ∷ structs) = struct_stands before counts d && structs_stand (before ++ d ∷ []) (counts ++ struct_scalars counts d ∷ []) structs

-- a constant is of its shape, which has stated sizes
abbrev pub constant_stands : Scene → Constant → Bool
constant_stands s c = result_stands s (Some c.shape) && fits s.structs c.value (whole_of c.shape).sizes (whole_of c.shape).base

-- each constant stands
abbrev pub constants_stand : Scene → List Constant → Bool
constants_stand s [] = true
constants_stand s (c ∷ constants) = constant_stands s c && constants_stand s constants

-- how many tokens each unit has
abbrev pub tokens_of : List SourceUnit → List ℕ
tokens_of = map (λ (u : SourceUnit). length u.tokens)

-- What a function sees that stands before all functions. An initialiser outside functions calls one of any depth.
abbrev pub scene_before : Defined → Scene
scene_before d = record { tokens = tokens_of d.units; structs = d.structs; counts = struct_counts d.structs; constants = map (λ (c : Constant). c.shape) d.constants; functions = []; too_deep = suc CALL_DEPTH; opens = 0 }

-- what an initialiser sees, or a function that is defined next
abbrev pub scene_of : Defined → Scene
scene_of d = with_functions (scene_before d) (signatures_after (scene_before d) d.functions)

-- the definitions so far keep the rules
abbrev pub definitions_stand : Defined → Bool
definitions_stand d = structs_stand [] [] d.structs && (constants_stand (scene_before d) d.constants && functions_stand (scene_before d) d.functions)

-- the definitions so far, behind those of the library
pub record IsDefined (d : Defined) : Type 0 where
  pub structs : (more : List StructForm) × (d.structs ≡ library_structs ++ more)
  pub constants : (more : List Constant) × (d.constants ≡ library_constants ++ more)
  pub stand : definitions_stand d ≡ true

-- ---- programs

-- a program: its definitions, and the number of its entry
pub record ProgramForm : Type 0 where
  pub definitions : Defined
  pub entry : Option ℕ

-- a parameter of an entry has no struct and no open size
abbrev pub is_plain_base : Base → Bool
is_plain_base (Scalar k) = true
is_plain_base (Struct n) = false

-- each parameter is plain
abbrev pub are_plain : List Parameter → Bool
are_plain [] = true
are_plain (q ∷ parameters) = (is_plain_base (base_of q.shape) && are_stated (local 0 q.shape).sizes) && are_plain parameters

-- a function that gives no value, with plain parameters
abbrev pub is_entry : Option Function → Bool
is_entry None = false
is_entry (Some f) = is_void f.result && are_plain f.parameters

-- the entry, where there is one, is such a function
abbrev pub entry_stands : Defined → Option ℕ → Bool
entry_stands d None = true
entry_stands d (Some k) = is_entry (slice_get d.functions k)

-- a checked program: its definitions keep the rules, and its entry is the function that the rule of entries names
pub record IsProgram (p : ProgramForm) : Type 0 where
  pub defined : IsDefined p.definitions
  pub named : p.entry ≡ entry_number p.definitions
  pub entry : entry_stands p.definitions p.entry ≡ true

-- ---- how definitions grow

-- the definitions that stand before all modules
abbrev pub library_definitions : List SourceUnit → Defined
library_definitions units = record { units = units; structs = library_structs; constants = library_constants; functions = [] }

-- one more struct
abbrev pub with_struct : Defined → StructForm → Defined
with_struct d s = record { units = d.units; structs = d.structs ++ s ∷ []; constants = d.constants; functions = d.functions }

-- one more constant
abbrev pub with_constant : Defined → Constant → Defined
with_constant d c = record { units = d.units; structs = d.structs; constants = d.constants ++ c ∷ []; functions = d.functions }

-- one more function
abbrev pub with_function : Defined → Function → Defined
with_function d f = record { units = d.units; structs = d.structs; constants = d.constants; functions = d.functions ++ f ∷ [] }

-- ---- programs as they are stored

-- a program is stored as its parts
abbrev pub program_code : Coded ProgramForm
program_code = code_by (Defined × Option ℕ) (coded× defined_code (coded_option coded_ℕ)) (λ p. (p.definitions, p.entry)) (λ parts. record { definitions = parts.0; entry = parts.1 }) (λ p. refl)
