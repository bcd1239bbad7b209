-- Which expressions, places and initialisers are well typed, and with which shapes. One fold over the typed forms.
use Rattle.std.specs.Prelude.{ℕ, ◌+◌, ◌*◌, max, List, [], ◌∷◌, map, length, get_or, Option, Some, None, is_some, Bool, true, false, not, ◌&&◌, ◌||◌, ◌==◌, if◌then◌else◌, slice_get, nat_lt, nat_le, pos}
use Rattle.fix_num.specs.declared.TheConstants.{FRACTION}
use Rattle.ctl_base.specs.declared.kind.Node.{Node}
use Rattle.ctl_base.specs.declared.kind.ScalarKind.{ScalarKind}
use Rattle.ctl_base.specs.declared.kind.ScalarKind.TheVariants as kind
use Rattle.ctl_base.specs.declared.limits.TheConstants.{ARRAY_SIZE, SCALARS}
use Rattle.ctl_tree.specs.declared.expression.UnaryOperator.{UnaryOperator}
use Rattle.ctl_tree.specs.declared.expression.UnaryOperator.TheVariants.{Minus, Plus, Not, BitNot}
use Rattle.ctl_types.specs.declared.shape.Base.{Base}
use Rattle.ctl_types.specs.declared.shape.Base.TheVariants.{Scalar, Struct}
use Rattle.ctl_types.specs.declared.shape.Size.{Size}
use Rattle.ctl_types.specs.declared.shape.Size.TheVariants.{Stated, Open}
use Rattle.ctl_types.specs.declared.shape.Shape.{Shape}
use Rattle.ctl_types.specs.declared.shape.LocalShape.{LocalShape}
use Rattle.ctl_types.specs.declared.value.Value.{Value}
use Rattle.ctl_types.specs.declared.expression.Conversion.{Conversion}
use Rattle.ctl_types.specs.declared.expression.Conversion.TheVariants.{Same, Between}
use Rattle.ctl_types.specs.declared.expression.LinkOperator.{LinkOperator}
use Rattle.ctl_types.specs.declared.expression.Callee.{Callee}
use Rattle.ctl_types.specs.declared.expression.Callee.TheVariants as callee
use Rattle.ctl_types.specs.declared.expression.TypedExpr.{TypedExpr}
use Rattle.ctl_types.specs.declared.expression.Operand.{Operand}
use Rattle.ctl_types.specs.declared.expression.TypedCall.{TypedCall}
use Rattle.ctl_types.specs.declared.expression.TypedPlace.{TypedPlace}
use Rattle.ctl_types.specs.declared.expression.Argument.TheOpen as form
use Rattle.ctl_types.specs.declared.expression.Argument.TheOpen.{Argument-F, TypedExpr-F, TypedStep-F, Operand-F, TypedCall-F, TypedLink-F, TypedPlace-F}
use Rattle.ctl_types.specs.declared.statement.Initialiser.{Initialiser}
use Rattle.ctl_types.specs.declared.statement.Initialiser.TheOpen as initial
use Rattle.ctl_types.specs.declared.statement.Initialiser.TheOpen.{Initialiser-F}
use Rattle.ctl_types.specs.declared.statement.Initialiser.TheFolds.{fold-Initialiser}
use Rattle.ctl_types.specs.declared.program.Struct.{Struct as StructForm}
use Rattle.ctl_types.specs.declared.program.Parameter.{Parameter}
use Rattle.ctl_types.specs.declared.program.Function.{Function}
use Rattle.ctl_types.specs.declared.row.Row.{Row}
use Rattle.ctl_types.specs.declared.row.RowParam.{RowParam}
use Rattle.ctl_types.specs.Scalars.{kind_of, word_of, same_kind, in_range, operate, operator_kind, operate_alone}
use Rattle.ctl_types.specs.Shapes.{extents, open_count, local, through, size_in, numbered, field_shapes, product, base_scalars, open_sizes_of}
use Rattle.ctl_types.specs.Values.{sizes_at}
use Rattle.ctl_types.specs.Library.{library_row}
use Rattle.ctl_types.specs.Folds.{ExprFold, expr_fold, operand_fold, call_fold, place_fold}

-- ---- types

-- whether a form is well typed, its shape, and the greatest depth of a function of the program that is called in it. What
-- gives no value has no base.
pub record Typed : Type 0 where
  pub well : Bool
  pub sizes : List Size
  pub base : Option Base
  pub depth : ℕ

-- one base
abbrev pub same_base : Base → Base → Bool
same_base (Scalar k) (Scalar l) = same_kind k l
same_base (Scalar k) (Struct n) = false
same_base (Struct m) (Scalar k) = false
same_base (Struct m) (Struct n) = m == n

-- one base, or none
abbrev pub same_bases : Option Base → Option Base → Bool
same_bases None None = true
same_bases None (Some b) = false
same_bases (Some a) None = false
same_bases (Some a) (Some b) = same_base a b

-- one size
abbrev pub same_size : Size → Size → Bool
same_size (Stated m) (Stated n) = m == n
same_size (Stated m) (Open k) = false
same_size (Open k) (Stated n) = false
same_size (Open k) (Open l) = k == l

-- the same sizes
abbrev pub same_sizes : List Size → List Size → Bool
same_sizes [] [] = true
same_sizes [] (t ∷ ts) = false
same_sizes (s ∷ ss) [] = false
same_sizes (s ∷ ss) (t ∷ ts) = same_size s t && same_sizes ss ts

-- well typed with this shape
abbrev pub has : Typed → List Size → Option Base → Bool
has t sizes base = t.well && (same_sizes t.sizes sizes && same_bases t.base base)

-- well typed as a scalar of this kind
abbrev pub is_scalar : ScalarKind → Typed → Bool
is_scalar k t = has t [] (Some (Scalar k))

-- the type of a scalar
abbrev pub scalar_type : Bool → ScalarKind → ℕ → Typed
scalar_type well k depth = record { well = well; sizes = []; base = Some (Scalar k); depth = depth }

-- what is not well typed
abbrev pub ill : Typed
ill = record { well = false; sizes = []; base = None; depth = 0 }

-- the type of a value of a shape
abbrev pub local_type : LocalShape → Typed
local_type s = record { well = true; sizes = s.sizes; base = Some s.base; depth = 0 }

-- a type that is well where this holds too, with calls of this depth beside its own
abbrev pub besides : Bool → ℕ → Typed → Typed
besides b depth t = record { well = b && t.well; sizes = t.sizes; base = t.base; depth = max depth t.depth }

-- no size is open
abbrev pub are_stated : List Size → Bool
are_stated [] = true
are_stated (Stated n ∷ sizes) = are_stated sizes
are_stated (Open k ∷ sizes) = false

-- the greatest depth of several forms
abbrev pub depth_of : List Typed → ℕ
depth_of [] = 0
depth_of (t ∷ types) = max t.depth (depth_of types)

-- ---- what a form may name

-- a parameter, as a call sees it: the sizes of its default, where it has one
pub record Formal : Type 0 where
  pub shape : LocalShape
  pub is_output : Bool
  pub default : Option (List ℕ)

-- a function, as a call sees it: its parameters, how many open sizes they have, its result, its depth
pub record Signature : Type 0 where
  pub formals : List Formal
  pub opens : ℕ
  pub result : Typed
  pub depth : ℕ

-- a variable, and whether it may be assigned
pub record Variable : Type 0 where
  pub shape : LocalShape
  pub is_assignable : Bool

-- the variables of a function by their numbers; none before its declaration and where it is not visible any more
abbrev pub Variables : Type 0
Variables = List (Option Variable)

-- what stands around a form: how many tokens each unit has, the structs with the scalars of each, the shapes of constants,
-- the functions before, the least depth that none may have which is called here, and how many open sizes the function has
pub record Scene : Type 0 where
  pub tokens : List ℕ
  pub structs : List StructForm
  pub counts : List ℕ
  pub constants : List Shape
  pub functions : List Signature
  pub too_deep : ℕ
  pub opens : ℕ

-- there is such a token
abbrev pub node_stands : Scene → Node → Bool
node_stands s node = nat_lt node.token (get_or s.tokens node.«module» 0)

-- a size from 1 to the limit of arrays, or one of the open ones
abbrev pub size_stands : Scene → Size → Bool
size_stands s (Stated n) = nat_le 1 n && nat_le n ARRAY_SIZE
size_stands s (Open k) = nat_lt k s.opens

-- each size is in range or one of the open ones
abbrev pub sizes_stand : Scene → List Size → Bool
sizes_stand s [] = true
sizes_stand s (size ∷ sizes) = size_stands s size && sizes_stand s sizes

-- a struct is there
abbrev pub base_stands : Scene → Base → Bool
base_stands s (Scalar k) = true
base_stands s (Struct n) = nat_lt n (length s.structs)

-- an open size counts as one
abbrev pub size_counted : Size → ℕ
size_counted (Stated n) = n
size_counted (Open k) = 1

-- a shape with sizes in range, a struct that is there, and not too many scalars
abbrev pub shape_stands : Scene → LocalShape → Bool
shape_stands s shape = (sizes_stand s shape.sizes && base_stands s shape.base) && nat_le (product (map size_counted shape.sizes) * base_scalars s.counts shape.base) SCALARS

-- the sizes of a default, by its value
abbrev pub default_sizes : Shape → Option Value → Option (List ℕ)
default_sizes shape None = None
default_sizes shape (Some v) = Some (map (size_in (sizes_at (extents shape) (Some v))) (numbered 0 (extents shape)))

-- the parameters of a function, where k open extents stand before
abbrev pub formals_from : ℕ → List Parameter → List Formal
formals_from k [] = []
formals_from k (q ∷ parameters) = record { shape = local k q.shape; is_output = q.is_output; default = default_sizes q.shape q.default } ∷ formals_from (k + open_count (extents q.shape)) parameters

-- the same of a function of the library, which has no defaults
abbrev pub row_formals_from : ℕ → List RowParam → List Formal
row_formals_from k [] = []
row_formals_from k (q ∷ params) = record { shape = local k q.shape; is_output = q.is_output; default = None } ∷ row_formals_from (k + open_count (extents q.shape)) params

-- the type of a call's value
abbrev pub result_type : Option Shape → Typed
result_type None = record { well = true; sizes = []; base = None; depth = 0 }
result_type (Some shape) = local_type (local 0 shape)

-- a function of this depth
abbrev pub signature_of : ℕ → Function → Signature
signature_of depth f = record { formals = formals_from 0 f.parameters; opens = open_sizes_of (map (λ (q : Parameter). q.shape) f.parameters); result = result_type f.result; depth = depth }

-- a function of the library, which calls none of the program
abbrev pub row_signature : Row → Signature
row_signature r = record { formals = row_formals_from 0 r.params; opens = open_sizes_of (map (λ (q : RowParam). q.shape) r.params); result = result_type r.result; depth = 0 }

-- the function that is called, where it is there
abbrev pub signature_in : Scene → Callee → Option Signature
signature_in s (callee.Program k) = slice_get s.functions k
signature_in s (callee.Library id) = Some (row_signature (library_row id))

-- ---- expressions

-- the type of a variable that is visible
abbrev pub variable_type : Option (Option Variable) → Typed
variable_type None = ill
variable_type (Some None) = ill
variable_type (Some (Some v)) = local_type v.shape

-- the type of a constant that is there
abbrev pub constant_type : Option Shape → Typed
constant_type None = ill
constant_type (Some shape) = local_type (local 0 shape)

-- A type after a conversion. It is written where the kinds differ, and there alone, so a text has one typed form.
abbrev pub as_converted : Conversion → Typed → Typed
as_converted Same t = t
as_converted (Between a b) t = scalar_type (is_scalar a t && not (same_kind a b)) b t.depth

-- nothing is converted
abbrev pub is_same : Conversion → Bool
is_same Same = true
is_same (Between a b) = false

-- an operand: the type of its value, and what is done to the value where it is taken
pub record OperandType : Type 0 where
  pub value : Typed
  pub conversion : Conversion

-- the type with which it is taken
abbrev pub taken : OperandType → Typed
taken o = as_converted o.conversion o.value

-- ---- the kinds of operators

-- the kinds in their order
abbrev pub rank : ScalarKind → ℕ
rank kind.Bool = 0
rank kind.Int = 1
rank kind.Unsigned = 2
rank kind.Half = 3
rank kind.Float = 4

-- the later of two kinds
abbrev pub later : ScalarKind → ScalarKind → ScalarKind
later a b = if nat_lt (rank a) (rank b) then b else a

-- a bool counts as an int
abbrev pub number_kind : ScalarKind → ScalarKind
number_kind kind.Bool = kind.Int
number_kind kind.Int = kind.Int
number_kind kind.Unsigned = kind.Unsigned
number_kind kind.Half = kind.Half
number_kind kind.Float = kind.Float

-- an operator between two sides works in the later of their kinds, and in int where both are bool
abbrev pub is_kind_between : ScalarKind → Option Base → Option Base → Bool
is_kind_between k None right = false
is_kind_between k (Some (Struct m)) right = false
is_kind_between k (Some (Scalar a)) None = false
is_kind_between k (Some (Scalar a)) (Some (Struct n)) = false
is_kind_between k (Some (Scalar a)) (Some (Scalar b)) = same_kind k (number_kind (later a b))

-- an operator before its operand works in the operand's kind, a bool counting as an int; `!` works in bool
abbrev pub kind_alone : UnaryOperator → ScalarKind → ScalarKind
kind_alone Minus a = number_kind a
kind_alone Plus a = number_kind a
kind_alone Not a = kind.Bool
kind_alone BitNot a = number_kind a

-- the kind in which an operator works before an operand of this base
abbrev pub is_kind_alone : UnaryOperator → ScalarKind → Option Base → Bool
is_kind_alone op k None = false
is_kind_alone op k (Some (Struct n)) = false
is_kind_alone op k (Some (Scalar a)) = same_kind k (kind_alone op a)

-- an operator can work in a kind where it makes something of its words
abbrev pub works : LinkOperator → ScalarKind → Bool
works op k = is_some (operate FRACTION op k (pos 0) (pos 0))

-- likewise an operator before its operand
abbrev pub works_alone : UnaryOperator → ScalarKind → Bool
works_alone op k = is_some (operate_alone FRACTION op k (pos 0))

-- an index is a bool, an int or an unsigned
abbrev pub is_index : Typed → Bool
is_index t = is_scalar kind.Bool t || (is_scalar kind.Int t || is_scalar kind.Unsigned t)

-- an array's sizes without the outermost
abbrev pub element_in : Bool → List Size → Option Base → ℕ → Typed
element_in well [] base depth = ill
element_in well (s ∷ sizes) base depth = record { well = well; sizes = sizes; base = base; depth = depth }

-- the type of an array's elements
abbrev pub element_type : Typed → Typed
element_type t = element_in t.well t.sizes t.base t.depth

-- the type of a field that is there
abbrev pub shape_type : Bool → ℕ → Option Shape → Typed
shape_type well depth None = ill
shape_type well depth (Some shape) = besides well depth (local_type (local 0 shape))

-- a field is in a struct alone
abbrev pub field_in : Scene → Bool → List Size → Option Base → ℕ → ℕ → Typed
field_in s well [] None depth n = ill
field_in s well [] (Some (Scalar k)) depth n = ill
field_in s well [] (Some (Struct m)) depth n = shape_type well depth (slice_get (field_shapes s.structs m) n)
field_in s well (size ∷ sizes) base depth n = ill

-- the type of a struct's field
abbrev pub field_type : Scene → Typed → ℕ → Typed
field_type s t n = field_in s t.well t.sizes t.base t.depth n

-- the type after all steps
abbrev pub steps_type : List (Typed → Typed) → Typed → Typed
steps_type [] t = t
steps_type (s ∷ steps) t = steps_type steps (s t)

-- the type after all links
abbrev pub links_type : List (Typed → Typed) → Typed → Typed
links_type [] t = t
links_type (l ∷ links) t = links_type links (l t)

-- each is a scalar of this kind
abbrev pub all_scalars : ScalarKind → List Typed → Bool
all_scalars k [] = true
all_scalars k (t ∷ types) = is_scalar k t && all_scalars k types

-- the outermost size of an array
abbrev pub first_is : Size → List Size → Bool
first_is size [] = false
first_is size (s ∷ sizes) = same_size s size

-- ---- arguments

-- a place, and whether it may be assigned
pub record PlaceType : Type 0 where
  pub type : Typed
  pub is_assignable : Bool

-- an argument as it is passed: of an input, of an output with whether its place may be assigned, or missing
pub data Passing : Type 0 where
  In : Typed → Passing
  Out : Typed → Bool → Passing
  Absent : Passing

-- the depth of an argument
abbrev pub passing_depth : Passing → ℕ
passing_depth (In t) = t.depth
passing_depth (Out t assignable) = t.depth
passing_depth Absent = 0

-- the greatest depth of the arguments
abbrev pub passings_depth : List Passing → ℕ
passings_depth [] = 0
passings_depth (a ∷ arguments) = max (passing_depth a) (passings_depth arguments)

-- the default stands for an input alone, and has the sizes with which the function is called
abbrev pub default_fits : List Size → Formal → Option (List ℕ) → Bool
default_fits sizes q None = false
default_fits sizes q (Some ns) = not q.is_output && same_sizes (map (through sizes) q.shape.sizes) (map Stated ns)

-- an argument suits its parameter: the value, or the place, has its shape
abbrev pub argument_suits : List Size → Formal → Passing → Bool
argument_suits sizes q (In t) = not q.is_output && has t (map (through sizes) q.shape.sizes) (Some q.shape.base)
argument_suits sizes q (Out t assignable) = q.is_output && (assignable && has t (map (through sizes) q.shape.sizes) (Some q.shape.base))
argument_suits sizes q Absent = default_fits sizes q q.default

-- all are missing
abbrev pub are_absent : List Passing → Bool
are_absent [] = true
are_absent (In t ∷ arguments) = false
are_absent (Out t assignable ∷ arguments) = false
are_absent (Absent ∷ arguments) = are_absent arguments

-- behind an argument that is missing all are
abbrev pub may_precede : Passing → List Passing → Bool
may_precede (In t) arguments = true
may_precede (Out t assignable) arguments = true
may_precede Absent arguments = are_absent arguments

-- there is an argument for each parameter, in their order, and it suits
abbrev pub arguments_suit : List Size → List Formal → List Passing → Bool
arguments_suit sizes [] [] = true
arguments_suit sizes [] (a ∷ arguments) = false
arguments_suit sizes (q ∷ formals) [] = false
arguments_suit sizes (q ∷ formals) (a ∷ arguments) = (argument_suits sizes q a && may_precede a arguments) && arguments_suit sizes formals arguments

-- a call: of a function before, which is not too deep, with as many sizes as its parameters have open ones, and
-- an argument for each parameter
abbrev pub call_type : Scene → Option Signature → List Size → List Passing → Typed
call_type s None sizes arguments = ill
call_type s (Some f) sizes arguments = record {
  well = (nat_lt f.depth s.too_deep && (length sizes == f.opens && sizes_stand s sizes)) && arguments_suit sizes f.formals arguments;
  sizes = map (through sizes) f.result.sizes;
  base = f.result.base;
  depth = max f.depth (passings_depth arguments);
}

-- ---- the fold

-- both sides are taken as scalars of the kind in which the operator works between them
abbrev pub link_type : LinkOperator → ScalarKind → OperandType → OperandType → Typed
link_type op k left right =
    scalar_type ((works op k && is_kind_between k left.value.base right.value.base) && (is_scalar k (taken left) && is_scalar k (taken right))) (operator_kind op k) (max (taken left).depth (taken right).depth)

-- the operand is taken as a scalar of the kind in which the operator works before it
abbrev pub unary_type : UnaryOperator → ScalarKind → OperandType → Typed
unary_type op k o = scalar_type ((works_alone op k && is_kind_alone op k o.value.base) && is_scalar k (taken o)) k (taken o).depth

-- A chain has links. Its first operand stays as it is, since the first link says what is done to what is on its left.
abbrev pub chain_type : OperandType → List (Typed → Typed) → Typed
chain_type o links = besides (is_same o.conversion && nat_lt 0 (length links)) 0 (links_type links o.value)

-- the operands of `&&` or `||` are taken as bools, and there are two or more
abbrev pub logic_type : List Typed → Typed
logic_type operands = scalar_type (nat_lt 1 (length operands) && all_scalars kind.Bool operands) kind.Bool (depth_of operands)

-- a variable that may be assigned
abbrev pub place_assignable : Option (Option Variable) → Bool
place_assignable None = false
place_assignable (Some None) = false
place_assignable (Some (Some v)) = v.is_assignable

-- each element has the shape
abbrev pub all_have : List Typed → List Size → Option Base → Bool
all_have [] sizes base = true
all_have (t ∷ types) sizes base = has t sizes base && all_have types sizes base

-- each field has its shape, and none is missing or left over
abbrev pub each_has : List Typed → List Shape → Bool
each_has [] [] = true
each_has [] (shape ∷ shapes) = false
each_has (t ∷ types) [] = false
each_has (t ∷ types) (shape ∷ shapes) = has t (local 0 shape).sizes (Some (local 0 shape).base) && each_has types shapes

module _ (s : Scene) (scope : Variables) where
  -- an argument
  abbrev pub type_argument : Argument-F Passing Typed (Typed → Typed) OperandType Typed (Typed → Typed) PlaceType → Passing
  type_argument (form.Input o node) = In (besides (node_stands s node) 0 (taken o))
  type_argument (form.Output place c node) = Out (besides (node_stands s node) 0 (as_converted c place.type)) place.is_assignable
  type_argument form.Missing = Absent

  -- the type of a part, by that of the whole
  abbrev pub type_step : TypedStep-F Passing Typed (Typed → Typed) OperandType Typed (Typed → Typed) PlaceType → Typed → Typed
  type_step (form.Index e node) t = besides (is_index e && node_stands s node) e.depth (element_type t)
  type_step (form.Field n) t = field_type s t n

  -- an operand
  abbrev pub type_operand : Operand-F Passing Typed (Typed → Typed) OperandType Typed (Typed → Typed) PlaceType → OperandType
  type_operand o = record { value = o.value; conversion = o.conversion }

  -- a call
  abbrev pub type_call : TypedCall-F Passing Typed (Typed → Typed) OperandType Typed (Typed → Typed) PlaceType → Typed
  type_call c = besides (node_stands s c.node) 0 (call_type s (signature_in s c.callee) c.sizes c.arguments)

  -- the type after a link, by that on its left
  abbrev pub type_link : TypedLink-F Passing Typed (Typed → Typed) OperandType Typed (Typed → Typed) PlaceType → Typed → Typed
  type_link l t = link_type l.operator l.kind (record { value = t; conversion = l.left }) l.right

  -- a place
  abbrev pub type_place : TypedPlace-F Passing Typed (Typed → Typed) OperandType Typed (Typed → Typed) PlaceType → PlaceType
  type_place place = record { type = steps_type place.steps (variable_type (slice_get scope place.variable)); is_assignable = place_assignable (slice_get scope place.variable) }

  -- an expression, by the types of its parts
  abbrev pub type_form : TypedExpr-F Passing Typed (Typed → Typed) OperandType Typed (Typed → Typed) PlaceType → Typed
  type_form (form.Literal x) = scalar_type (in_range FRACTION (kind_of x) (word_of x)) (kind_of x) 0
  type_form (form.Constant n) = constant_type (slice_get s.constants n)
  type_form (form.Variable x) = variable_type (slice_get scope x)
  type_form (form.Unary op k o) = unary_type op k o
  type_form (form.Chain o links) = chain_type o links
  type_form (form.Logic l os) = logic_type (map taken os)
  type_form (form.Path e steps) = besides (nat_lt 0 (length steps)) 0 (steps_type steps e)
  type_form (form.Size e size) = scalar_type ((e.well && first_is size e.sizes) && size_stands s size) kind.Int e.depth
  type_form (form.Call c) = c

  -- the types of all forms
  abbrev pub type_fold : ExprFold Passing Typed (Typed → Typed) OperandType Typed (Typed → Typed) PlaceType
  type_fold = record { argument = type_argument; expr = type_form; step = type_step; operand = type_operand; call = type_call; link = type_link; place = type_place }

  -- the type of an expression
  abbrev pub expr_type : TypedExpr → Typed
  expr_type = expr_fold type_fold

  -- the type with which an operand is taken
  abbrev pub operand_type : Operand → Typed
  operand_type o = taken (operand_fold type_fold o)

  -- the type of a call
  abbrev pub call_form_type : TypedCall → Typed
  call_form_type = call_fold type_fold

  -- the type of a place
  abbrev pub place_type : TypedPlace → PlaceType
  place_type = place_fold type_fold

  -- ---- initialisers

  -- a brace list has elements, and they have stated sizes; a struct is there with all its fields
  abbrev pub type_initialiser : Initialiser-F Typed → Typed
  type_initialiser (initial.Value o) = operand_type o
  type_initialiser (initial.Elements shape types) = record {
    well = nat_lt 0 (length types) && (are_stated (local 0 shape).sizes && all_have types (local 0 shape).sizes (Some (local 0 shape).base));
    sizes = Stated (length types) ∷ (local 0 shape).sizes;
    base = Some (local 0 shape).base;
    depth = depth_of types;
  }
  type_initialiser (initial.Fields n types) = record { well = nat_lt n (length s.structs) && each_has types (field_shapes s.structs n); sizes = []; base = Some (Struct n); depth = depth_of types }

  -- the type of an initialiser
  abbrev pub initialiser_type : Initialiser → Typed
  initialiser_type = fold-Initialiser Typed type_initialiser
