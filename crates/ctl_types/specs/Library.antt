-- The functions of the library, with their shapes and over values.
use Rattle.std.specs.Prelude.{ℕ, ℤ, List, [], ◌∷◌, ◌++◌, map, replicate, Option, Some, None, Bool, ◌||◌, not, if◌then◌else◌}
use Rattle.fix_num.specs.declared.TheConstants.{FRACTION}
use Rattle.ctl_stdlib.specs.declared.row.LibraryId.{LibraryId}
use Rattle.ctl_stdlib.specs.declared.row.Param.{Param}
use Rattle.ctl_stdlib.specs.declared.row.RowShape.{RowShape}
use Rattle.ctl_stdlib.specs.declared.row.Base.{Base as RowBase}
use Rattle.ctl_stdlib.specs.declared.row.Base.TheVariants.{Scalar as RowScalar, Chromaticities}
use Rattle.ctl_stdlib.specs.Rows.{row}
use Rattle.ctl_stdlib.specs.Shapes.{base, open_sizes, stated_sizes, is_table}
use Rattle.ctl_types.specs.declared.shape.Base.{Base}
use Rattle.ctl_types.specs.declared.shape.Base.TheVariants.{Scalar, Struct}
use Rattle.ctl_types.specs.declared.shape.Extent.{Extent}
use Rattle.ctl_types.specs.declared.shape.Extent.TheVariants.{Stated, Unstated}
use Rattle.ctl_types.specs.declared.shape.Shape.{Shape, roll-Shape}
use Rattle.ctl_types.specs.declared.shape.Shape.TheOpen as layer
use Rattle.ctl_types.specs.declared.value.Value.{Value}
use Rattle.ctl_types.specs.declared.program.Struct.{Struct as StructForm}
use Rattle.ctl_types.specs.declared.row.Row.{Row}
use Rattle.ctl_types.specs.declared.row.RowParam.{RowParam}
use Rattle.ctl_types.specs.Shapes.{arrays}
use Rattle.ctl_types.specs.Values.{Env, nothing, flat, Filled, filled, zero_of, takes}

-- ---- shapes

-- the struct Chromaticities has the number 0 in each program
abbrev pub shape_of_base : RowBase → Shape
shape_of_base (RowScalar k) = roll-Shape (layer.Scalar k)
shape_of_base Chromaticities = roll-Shape (layer.Struct 0)

-- the open sizes stand outermost
abbrev pub row_extents : RowShape → List Extent
row_extents shape = replicate (open_sizes shape) Unstated ++ map Stated (stated_sizes shape)

-- the shape of a parameter or a result
abbrev pub shape_of : RowShape → Shape
shape_of shape = arrays (row_extents shape) (shape_of_base (base shape))

-- a parameter with its shape
abbrev pub param_of : Param → RowParam
param_of p = record { shape = shape_of p.shape; is_output = p.is_output }

-- the shape of a result, where there is one
abbrev pub result_of : Option RowShape → Option Shape
result_of None = None
result_of (Some shape) = Some (shape_of shape)

-- the parameters and the result of a function of the library
abbrev pub library_row : LibraryId → Row
library_row id = record { params = map param_of (row id).params; result = result_of (row id).result }

-- the shapes of the parameters
abbrev pub param_shapes : LibraryId → List Shape
param_shapes id = map (λ (p : Param). shape_of p.shape) (row id).params

-- ---- what a call gives

-- the words of the arguments for the parameters that are chosen
abbrev pub words_of : (Param → Bool) → List Param → Env → List ℤ
words_of chosen [] frame = []
words_of chosen (p ∷ params) [] = []
words_of chosen (p ∷ params) (None ∷ frame) = words_of chosen params frame
words_of chosen (p ∷ params) (Some v ∷ frame) = if chosen p then flat v ++ words_of chosen params frame else words_of chosen params frame

-- the look-up's table
abbrev pub holds_table : Param → Bool
holds_table p = is_table p.shape

-- an input beside the table
abbrev pub holds_input : Param → Bool
holds_input p = not (is_table p.shape || p.is_output)

-- what the arrays of a result hold
abbrev pub zero_base_of : RowBase → Base
zero_base_of (RowScalar k) = Scalar k
zero_base_of Chromaticities = Struct 0

-- the first words make the result
abbrev pub result_from : Option RowShape → List ℤ → Filled Value
result_from None words = record { value = nothing; rest = words }
result_from (Some shape) words = filled (zero_of [] (stated_sizes shape) (zero_base_of (base shape))) words

-- the words behind them make the outputs in their order
abbrev pub outputs_from : List Param → Env → List ℤ → Env
outputs_from [] frame words = frame
outputs_from (p ∷ params) [] words = []
outputs_from (p ∷ params) (None ∷ frame) words = None ∷ outputs_from params frame words
outputs_from (p ∷ params) (Some v ∷ frame) words =
    if p.is_output then Some (filled v words).value ∷ outputs_from params frame (filled v words).rest
    else Some v ∷ outputs_from params frame words

-- the arguments are not what it takes, an assertion is false, or there is a result and the arguments after the call
pub data LibraryAnswer : Type 0 where
  Unfit : LibraryAnswer
  Refused : LibraryAnswer
  Given : Value → Env → LibraryAnswer

-- the result and the outputs, from the words that the function fills
abbrev pub given_by : LibraryId → Env → List ℤ → LibraryAnswer
given_by id frame words = Given (result_from (row id).result words).value (outputs_from (row id).params frame (result_from (row id).result words).rest)

-- the call from the words of the inputs beside the table
abbrev pub answered : LibraryId → List ℕ → Env → List ℤ → LibraryAnswer
answered id opens frame args =
    if (row id).answer args then given_by id frame ((row id).value FRACTION opens (words_of holds_table (row id).params frame) args) else Refused

-- the call of a function of the library with these open sizes and arguments
abbrev pub library_answer : List StructForm → LibraryId → List ℕ → Env → LibraryAnswer
library_answer structs id opens frame =
    if takes structs (param_shapes id) opens frame then answered id opens frame (words_of holds_input (row id).params frame) else Unfit
