-- Shapes: their extents, the sizes that stand for open ones, and how many scalars a value of a shape has.
use Rattle.std.specs.Prelude.{ℕ, ◌+◌, ◌*◌, List, [], ◌∷◌, ◌++◌, map, get_or, sum_by, Option, Some, None, slice_get}
use Rattle.ctl_types.specs.declared.shape.Extent.{Extent}
use Rattle.ctl_types.specs.declared.shape.Extent.TheVariants as extent
use Rattle.ctl_types.specs.declared.shape.Size.{Size}
use Rattle.ctl_types.specs.declared.shape.Size.TheVariants.{Stated, Open}
use Rattle.ctl_types.specs.declared.shape.Base.{Base}
use Rattle.ctl_types.specs.declared.shape.Base.TheVariants.{Scalar, Struct}
use Rattle.ctl_types.specs.declared.shape.LocalShape.{LocalShape}
use Rattle.ctl_types.specs.declared.shape.Shape.{Shape, roll-Shape}
use Rattle.ctl_types.specs.declared.shape.Shape.TheOpen as layer
use Rattle.ctl_types.specs.declared.shape.Shape.TheOpen.{Shape-F}
use Rattle.ctl_types.specs.declared.shape.Shape.TheFolds.{fold-Shape}
use Rattle.ctl_types.specs.declared.program.Field.{Field}
use Rattle.ctl_types.specs.declared.program.Struct.{Struct as StructForm}

-- an array adds its extent in front
abbrev pub extents_step : Shape-F (List Extent) → List Extent
extents_step (layer.Scalar k) = []
extents_step (layer.Struct n) = []
extents_step (layer.Array inner x) = x ∷ inner

-- the extents of a shape, the outermost first
abbrev pub extents : Shape → List Extent
extents = fold-Shape (List Extent) extents_step

-- an array holds what its elements hold
abbrev pub base_step : Shape-F Base → Base
base_step (layer.Scalar k) = Scalar k
base_step (layer.Struct n) = Struct n
base_step (layer.Array inner x) = inner

-- what a shape's arrays hold in the end
abbrev pub base_of : Shape → Base
base_of = fold-Shape Base base_step

-- arrays of these extents, the outermost first, around a shape
abbrev pub arrays : List Extent → Shape → Shape
arrays [] inner = inner
arrays (x ∷ xs) inner = roll-Shape (layer.Array (arrays xs inner) x)

-- how many extents are open
abbrev pub open_count : List Extent → ℕ
open_count [] = 0
open_count (extent.Stated n ∷ xs) = open_count xs
open_count (extent.Unstated ∷ xs) = 1 + open_count xs

-- the extents as sizes: the open ones are numbered from k
abbrev pub numbered : ℕ → List Extent → List Size
numbered k [] = []
numbered k (extent.Stated n ∷ xs) = Stated n ∷ numbered k xs
numbered k (extent.Unstated ∷ xs) = Open k ∷ numbered (k + 1) xs

-- a shape inside the function whose parameter has it, where k open extents stand before
abbrev pub local : ℕ → Shape → LocalShape
local k shape = record { sizes = numbered k (extents shape); base = base_of shape }

-- the shapes of all parameters inside their function, where k open extents stand before
abbrev pub locals : ℕ → List Shape → List LocalShape
locals k [] = []
locals k (s ∷ shapes) = local k s ∷ locals (k + open_count (extents s)) shapes

-- how many extents of all parameters are open
abbrev pub open_sizes_of : List Shape → ℕ
open_sizes_of shapes = sum_by (λ s. open_count (extents s)) shapes

-- a size of a function where it is called with these sizes
abbrev pub through : List Size → Size → Size
through sizes (Stated n) = Stated n
through sizes (Open k) = get_or sizes k (Stated 0)

-- a size as a number, in a call with these open sizes
abbrev pub size_in : List ℕ → Size → ℕ
size_in sizes (Stated n) = n
size_in sizes (Open k) = get_or sizes k 0

-- a shape all of whose sizes are numbers; base is none for what gives no value
pub record Whole : Type 0 where
  pub sizes : List ℕ
  pub base : Option Base

-- a shape in a call with these open sizes
abbrev pub whole : List ℕ → List Size → Option Base → Whole
whole opens sizes base = record { sizes = map (size_in opens) sizes; base = base }

-- a shape whose sizes are all stated, as those of fields, constants and results
abbrev pub whole_of : Shape → Whole
whole_of shape = whole [] (numbered 0 (extents shape)) (Some (base_of shape))

-- the shapes of a struct's fields; none for a struct that is not there
abbrev pub field_shapes_in : Option StructForm → List Shape
field_shapes_in None = []
field_shapes_in (Some s) = map (λ (f : Field). f.shape) s.fields

-- the shapes of the fields of struct n
abbrev pub field_shapes : List StructForm → ℕ → List Shape
field_shapes structs n = field_shapes_in (slice_get structs n)

-- the product of sizes
abbrev pub product : List ℕ → ℕ
product [] = 1
product (n ∷ sizes) = n * product sizes

-- the scalars of a base, by those of each struct
abbrev pub base_scalars : List ℕ → Base → ℕ
base_scalars counts (Scalar k) = 1
base_scalars counts (Struct n) = get_or counts n 0

-- the scalars of a shape
abbrev pub scalars_of : List ℕ → List ℕ → Base → ℕ
scalars_of counts sizes base = product sizes * base_scalars counts base

-- the scalars of a struct, by those of the structs before it
abbrev pub struct_scalars : List ℕ → StructForm → ℕ
struct_scalars counts s = sum_by (λ (f : Field). scalars_of counts (whole_of f.shape).sizes (base_of f.shape)) s.fields

-- the scalars of each struct, each by those before it
abbrev pub counts_after : List ℕ → List StructForm → List ℕ
counts_after counts [] = counts
counts_after counts (s ∷ structs) = counts_after (counts ++ struct_scalars counts s ∷ []) structs

-- the scalars of each struct
abbrev pub struct_counts : List StructForm → List ℕ
struct_counts structs = counts_after [] structs
