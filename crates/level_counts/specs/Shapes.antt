-- The shapes of values in an instance, all of whose sizes are numbers, and those of the variables of a function.
use Rattle.std.specs.Prelude.{ℕ, ◌*◌, List, [], ◌∷◌, ◌++◌, map, replicate, get_or, drop, Option, Some, None, slice_get, slice_set, refl}
use Rattle.std.specs.Coded.{Coded, code_by, coded×, coded_list}
use Rattle.ctl_types.specs.contracts.program.Struct as struct_row
use Rattle.ctl_types.specs.contracts.program.Constant as constant_row
use Rattle.ctl_types.specs.contracts.program.Function as function_row
use Rattle.ctl_types.specs.declared.shape.Base.{Base}
use Rattle.ctl_types.specs.declared.shape.Base.TheVariants as base
use Rattle.ctl_types.specs.declared.shape.Shape.{Shape}
use Rattle.ctl_types.specs.declared.shape.LocalShape.{LocalShape}
use Rattle.ctl_types.specs.declared.expression.Callee.{Callee}
use Rattle.ctl_types.specs.declared.expression.Callee.TheVariants as callee
use Rattle.ctl_types.specs.declared.statement.Declaration.{Declaration}
use Rattle.ctl_types.specs.declared.statement.ForStart.{ForStart}
use Rattle.ctl_types.specs.declared.statement.ForStart.TheVariants as start
use Rattle.ctl_types.specs.declared.statement.TypedStatement.{TypedStatement}
use Rattle.ctl_types.specs.declared.statement.TypedStatement.TheOpen.{TypedStatement-F, Arm-F, Empty, Block, Declare, Assign, Call, If, While, For, Return, Print}
use Rattle.ctl_types.specs.declared.statement.TypedStatement.TheFolds.{fold-TypedStatement, fold-Arm}
use Rattle.ctl_types.specs.declared.statement.Arm.{Arm}
use Rattle.ctl_types.specs.declared.program.Struct.{Struct as StructForm}
use Rattle.ctl_types.specs.declared.program.Constant.{Constant}
use Rattle.ctl_types.specs.declared.program.Parameter.{Parameter}
use Rattle.ctl_types.specs.declared.program.Function.{Function}
use Rattle.ctl_types.specs.Library.{library_row}
use Rattle.ctl_types.specs.Definitions.{Defined}
use Rattle.ctl_types.specs.Shapes.{locals, local, size_in, product, field_shapes}
use Rattle.level_counts.specs.declared.value.Item.{Item}
use Rattle.level_counts.specs.declared.value.Item.TheVariants.{Nothing, Scalar, Struct}
use Rattle.level_counts.specs.declared.value.ValueShape.{ValueShape}

-- ---- values

-- what arrays of this base hold
abbrev pub item_of : Base → Item
item_of (base.Scalar k) = Scalar
item_of (base.Struct n) = Struct n

-- the shape in an instance with these open sizes
abbrev pub value_shape : List ℕ → LocalShape → ValueShape
value_shape opens shape = record { sizes = map (size_in opens) shape.sizes; item = item_of shape.base }

-- a shape whose sizes are all stated
abbrev pub stated_shape : Shape → ValueShape
stated_shape shape = value_shape [] (local 0 shape)

-- what gives no value
abbrev pub no_value : ValueShape
no_value = record { sizes = []; item = Nothing }

-- a scalar
abbrev pub one_scalar : ValueShape
one_scalar = record { sizes = []; item = Scalar }

-- a struct by its number
abbrev pub one_struct : ℕ → ValueShape
one_struct n = record { sizes = []; item = Struct n }

-- the element of an array
abbrev pub element_shape : ValueShape → ValueShape
element_shape v = record { sizes = drop 1 v.sizes; item = v.item }

-- a shape that may be absent
abbrev pub stated_if : Option Shape → ValueShape
stated_if None = no_value
stated_if (Some shape) = stated_shape shape

-- a field is in a struct alone
abbrev pub field_in : List StructForm → Item → ℕ → ValueShape
field_in structs Nothing n = no_value
field_in structs Scalar n = no_value
field_in structs (Struct m) n = stated_if (slice_get (field_shapes structs m) n)

-- the scalars of what arrays hold, by those of each struct
abbrev pub item_scalars : List ℕ → Item → ℕ
item_scalars counts Nothing = 0
item_scalars counts Scalar = 1
item_scalars counts (Struct n) = get_or counts n 0

-- the scalars of a value
abbrev pub scalars_in : List ℕ → ValueShape → ℕ
scalars_in counts v = product v.sizes * item_scalars counts v.item

-- ---- definitions

-- the structs, the constants and the functions of a program
pub record DefinitionsForm : Type 0 where
  pub structs : List StructForm
  pub constants : List Constant
  pub functions : List Function

-- they are stored as their lists
abbrev pub definitions_code : Coded DefinitionsForm
definitions_code =
    code_by (List StructForm × (List Constant × List Function)) (coded× (coded_list struct_row.the_row.coded) (coded× (coded_list constant_row.the_row.coded) (coded_list function_row.the_row.coded)))
    (λ d. (d.structs, (d.constants, d.functions))) (λ parts. record { structs = parts.0; constants = parts.1.0; functions = parts.1.1 }) (λ d. refl)

-- those of a program
abbrev pub definitions_of : Defined → DefinitionsForm
definitions_of d = record { structs = d.structs; constants = d.constants; functions = d.functions }

-- the value of a constant that is there
abbrev pub constant_value : Option Constant → ValueShape
constant_value None = no_value
constant_value (Some c) = stated_shape c.shape

-- the result of a function that is there
abbrev pub result_value : Option Function → ValueShape
result_value None = no_value
result_value (Some f) = stated_if f.result

-- the value of a call
abbrev pub callee_value : List Function → Callee → ValueShape
callee_value functions (callee.Program k) = result_value (slice_get functions k)
callee_value functions (callee.Library id) = stated_if (library_row id).result

-- ---- the variables of a function

-- the shapes of variables in an instance by their numbers, as far as they are declared
abbrev pub Table : Type 0
Table = List (Option ValueShape)

-- a declaration gives its variable a shape
abbrev pub declared : List ℕ → Declaration → Table → Table
declared opens d table = slice_set table d.variable (Some (value_shape opens d.shape))

-- one after the other
abbrev pub in_turn : List (Table → Table) → Table → Table
in_turn [] table = table
in_turn (declare ∷ rest) table = in_turn rest (declare table)

-- what stands after the last `else`
abbrev pub otherwise_declared : Option (Table → Table) → Table → Table
otherwise_declared None table = table
otherwise_declared (Some declare) table = declare table

-- the head of a `for`
abbrev pub start_declared : List ℕ → ForStart → Table → Table
start_declared opens (start.Declare d) table = declared opens d table
start_declared opens (start.Assign a) table = table

-- a statement, by what its parts declare
abbrev pub declared_step : List ℕ → TypedStatement-F (Table → Table) (Table → Table) → Table → Table
declared_step opens Empty table = table
declared_step opens (Block parts) table = in_turn parts table
declared_step opens (Declare d) table = declared opens d table
declared_step opens (Assign a) table = table
declared_step opens (Call c) table = table
declared_step opens (If arms otherwise) table = otherwise_declared otherwise (in_turn arms table)
declared_step opens (While test body node) table = body table
declared_step opens (For first test next body node) table = body (start_declared opens first table)
declared_step opens (Return o) table = table
declared_step opens (Print items) table = table

-- an arm declares what its body does
abbrev pub declared_arm : Arm-F (Table → Table) (Table → Table) → Table → Table
declared_arm a = a.body

-- what a statement declares, in source order
abbrev pub statement_declared : List ℕ → TypedStatement → Table → Table
statement_declared opens = fold-TypedStatement (Table → Table) (Table → Table) (declared_step opens) declared_arm

-- what an arm declares
abbrev pub arm_declared : List ℕ → Arm → Table → Table
arm_declared opens = fold-Arm (Table → Table) (Table → Table) (declared_step opens) declared_arm

-- what stands after the last `else`, where there is something
abbrev pub otherwise_statement_declared : List ℕ → Option TypedStatement → Table → Table
otherwise_statement_declared opens None table = table
otherwise_statement_declared opens (Some s) table = statement_declared opens s table

-- the parameters, of which k open sizes stand before
abbrev pub parameter_table : List ℕ → ℕ → List Parameter → Table
parameter_table opens k parameters = map (λ (s : LocalShape). Some (value_shape opens s)) (locals k (map (λ (q : Parameter). q.shape) parameters))

-- the variables of a function in an instance with these open sizes, the parameters first
abbrev pub variables_of : Function → List ℕ → Table
variables_of f opens = statement_declared opens f.body (parameter_table opens 0 f.parameters ++ replicate f.variables None)

-- the value of a variable that is declared
abbrev pub variable_value : Option (Option ValueShape) → ValueShape
variable_value None = no_value
variable_value (Some None) = no_value
variable_value (Some (Some v)) = v
