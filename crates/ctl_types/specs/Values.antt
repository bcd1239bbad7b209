-- Values: their parts, their shapes, zeros, their scalars as words, and the variables of a function.
use Rattle.std.specs.Prelude.{ℕ, ℤ, ◌+◌, take, pos, List, [], ◌∷◌, ◌++◌, map, replicate, length, get_or, Option, Some, None, Bool, true, false, ◌&&◌, ◌==◌, slice_get, slice_set, flat_map, nat_le, ◌≡◌}
use Rattle.ctl_base.specs.declared.limits.TheConstants.{ARRAY_SIZE, SCALARS}
use Rattle.fix_num.specs.declared.TheConstants.{FRACTION}
use Rattle.ctl_types.specs.declared.scalar.Scalar.{Scalar as ScalarForm}
use Rattle.ctl_types.specs.declared.shape.Base.{Base}
use Rattle.ctl_types.specs.declared.shape.Base.TheVariants.{Scalar, Struct}
use Rattle.ctl_types.specs.declared.shape.Extent.{Extent}
use Rattle.ctl_types.specs.declared.shape.Extent.TheVariants.{Stated, Unstated}
use Rattle.ctl_types.specs.declared.shape.Shape.{Shape}
use Rattle.ctl_types.specs.declared.value.Value.{Value, roll-Value, out-Value}
use Rattle.ctl_types.specs.declared.value.Value.TheOpen as layer
use Rattle.ctl_types.specs.declared.value.Value.TheOpen.{Value-F}
use Rattle.ctl_types.specs.declared.value.Value.TheFolds.{fold-Value}
use Rattle.ctl_types.specs.declared.program.Field.{Field}
use Rattle.ctl_types.specs.declared.program.Struct.{Struct as StructForm}
use Rattle.ctl_types.specs.Scalars.{kind_of, word_of, scalar, same_kind, in_range}
use Rattle.ctl_types.specs.declared.shape.LocalShape.{LocalShape}
use Rattle.ctl_types.specs.Shapes.{Whole, whole, whole_of, field_shapes, extents, base_of, locals, open_sizes_of}

-- the variables of a function by their numbers, the parameters first; none before its declaration
abbrev pub Env : Type 0
Env = List (Option Value)

-- a scalar as a value
abbrev pub one : ScalarForm → Value
one s = roll-Value (layer.One s)

-- the value of an array with these elements
abbrev pub list : List Value → Value
list vs = roll-Value (layer.List vs)

-- the value of a struct with these fields
abbrev pub fields : List Value → Value
fields vs = roll-Value (layer.Fields vs)

-- what a call gives that gives no value
abbrev pub nothing : Value
nothing = fields []

-- ---- parts

-- an element of an array or a field of a struct, by its number
abbrev pub part_in : Value-F Value → ℕ → Option Value
part_in (layer.One s) i = None
part_in (layer.List vs) i = slice_get vs i
part_in (layer.Fields vs) i = slice_get vs i

-- a part of a value that may be absent
abbrev pub part_of : Option Value → ℕ → Option Value
part_of None i = None
part_of (Some v) i = part_in (out-Value v) i

-- the part at the end of a path
abbrev pub part_at : List ℕ → Option Value → Option Value
part_at [] v = v
part_at (i ∷ path) v = part_at path (part_of v i)

-- a form with another part
abbrev pub with_in : Value-F Value → ℕ → Value → Value-F Value
with_in (layer.One s) i part = layer.One s
with_in (layer.List vs) i part = layer.List (slice_set vs i part)
with_in (layer.Fields vs) i part = layer.Fields (slice_set vs i part)

-- a value with another part
abbrev pub with_part : Option Value → ℕ → Option Value → Option Value
with_part None i part = None
with_part (Some v) i None = None
with_part (Some v) i (Some part) = Some (roll-Value (with_in (out-Value v) i part))

-- a value with another part at the end of a path
abbrev pub put_at : List ℕ → Value → Option Value → Option Value
put_at [] new old = Some new
put_at (i ∷ path) new old = with_part old i (put_at path new (part_of old i))

-- a value that may be absent twice over
abbrev pub joined : Option (Option Value) → Option Value
joined None = None
joined (Some v) = v

-- the value of a variable
abbrev pub var_of : Env → ℕ → Option Value
var_of env x = joined (slice_get env x)

-- the variables after a value is stored at a place
abbrev pub stored : ℕ → List ℕ → Value → Env → Env
stored x path v env = slice_set env x (put_at path v (var_of env x))

-- ---- values of a shape

-- whether a value is of a shape: its lists have the sizes, its records the fields, its scalars the kind and its range
abbrev pub Fit : Type 0
Fit = List ℕ → Option Base → Bool

-- a scalar fits no array
abbrev pub fit_one : ScalarForm → Fit
fit_one s [] (Some (Scalar k)) = same_kind (kind_of s) k && in_range FRACTION k (word_of s)
fit_one s [] (Some (Struct n)) = false
fit_one s [] None = false
fit_one s (n ∷ sizes) base = false

-- each element is of the shape of elements
abbrev pub all_fit : List Fit → Fit
all_fit [] sizes base = true
all_fit (f ∷ fs) sizes base = f sizes base && all_fit fs sizes base

-- an array has as many elements as its outermost size says
abbrev pub fit_list : List Fit → Fit
fit_list fs [] base = false
fit_list fs (n ∷ sizes) base = length fs == n && all_fit fs sizes base

-- each field is of its shape, and none is missing or left over
abbrev pub each_fit : List Fit → List Shape → Bool
each_fit [] [] = true
each_fit [] (s ∷ shapes) = false
each_fit (f ∷ fs) [] = false
each_fit (f ∷ fs) (s ∷ shapes) = f (whole_of s).sizes (whole_of s).base && each_fit fs shapes

-- a struct has its fields, and what gives no value has none
abbrev pub fit_fields : List StructForm → List Fit → Fit
fit_fields structs fs [] None = each_fit fs []
fit_fields structs fs [] (Some (Scalar k)) = false
fit_fields structs fs [] (Some (Struct n)) = each_fit fs (field_shapes structs n)
fit_fields structs fs (n ∷ sizes) base = false

-- whether a form fits, by its parts
abbrev pub fit_step : List StructForm → Value-F Fit → Fit
fit_step structs (layer.One s) = fit_one s
fit_step structs (layer.List fs) = fit_list fs
fit_step structs (layer.Fields fs) = fit_fields structs fs

-- whether a value fits sizes and a base
abbrev pub fits : List StructForm → Value → Fit
fits structs = fold-Value Fit (fit_step structs)

-- v is of the shape w
abbrev pub Fits : List StructForm → Whole → Value → Type 0
Fits structs w v = fits structs v w.sizes w.base ≡ true

-- whether a value has the shape of another one, and its scalars are in the range of their kind
abbrev pub Likeness : Type 0
Likeness = Value → Bool

-- a scalar of the same kind, in range
abbrev pub alike_one : ScalarForm → Value-F Value → Bool
alike_one s (layer.One t) = same_kind (kind_of s) (kind_of t) && in_range FRACTION (kind_of s) (word_of t)
alike_one s (layer.List vs) = false
alike_one s (layer.Fields vs) = false

-- as many parts, each like its counterpart
abbrev pub all_alike : List Likeness → List Value → Bool
all_alike [] [] = true
all_alike [] (v ∷ vs) = false
all_alike (f ∷ fs) [] = false
all_alike (f ∷ fs) (v ∷ vs) = f v && all_alike fs vs

-- an array like an array
abbrev pub alike_list : List Likeness → Value-F Value → Bool
alike_list fs (layer.One t) = false
alike_list fs (layer.List vs) = all_alike fs vs
alike_list fs (layer.Fields vs) = false

-- a struct like a struct
abbrev pub alike_fields : List Likeness → Value-F Value → Bool
alike_fields fs (layer.One t) = false
alike_fields fs (layer.List vs) = false
alike_fields fs (layer.Fields vs) = all_alike fs vs

-- whether a value is like a form, by its parts
abbrev pub alike_step : Value-F Likeness → Likeness
alike_step (layer.One s) w = alike_one s (out-Value w)
alike_step (layer.List fs) w = alike_list fs (out-Value w)
alike_step (layer.Fields fs) w = alike_fields fs (out-Value w)

-- whether the second value has the shape of the first, with scalars in range
abbrev pub alike : Value → Likeness
alike = fold-Value Likeness alike_step

-- ---- zeros

-- a struct's zero stands in a list, in the place of its number
abbrev pub zero_base : List Value → Base → Value
zero_base zeros (Scalar k) = one (scalar k (pos 0))
zero_base zeros (Struct n) = get_or zeros n nothing

-- an array's elements are all zero
abbrev pub zero_of : List Value → List ℕ → Base → Value
zero_of zeros [] base = zero_base zeros base
zero_of zeros (n ∷ sizes) base = list (replicate n (zero_of zeros sizes base))

-- a struct's fields are all zero
abbrev pub zero_struct : List Value → StructForm → Value
zero_struct zeros s = fields (map (λ (f : Field). zero_of zeros (whole_of f.shape).sizes (base_of f.shape)) s.fields)

-- the zeros of structs, each by those before it
abbrev pub zeros_after : List Value → List StructForm → List Value
zeros_after zeros [] = zeros
zeros_after zeros (s ∷ structs) = zeros_after (zeros ++ zero_struct zeros s ∷ []) structs

-- the zero of each struct
abbrev pub struct_zeros : List StructForm → List Value
struct_zeros structs = zeros_after [] structs

-- ---- words

-- the words of a form, by those of its parts
abbrev pub flat_step : Value-F (List ℤ) → List ℤ
flat_step (layer.One s) = word_of s ∷ []
flat_step (layer.List ws) = flat_map (λ w. w) ws
flat_step (layer.Fields ws) = flat_map (λ w. w) ws

-- the scalars of a value in their order, as words
abbrev pub flat : Value → List ℤ
flat = fold-Value (List ℤ) flat_step

-- the scalars of values one after the other
abbrev pub flat_all : List Value → List ℤ
flat_all vs = flat_map flat vs

-- how many scalars a value has
abbrev pub scalars : Value → ℕ
scalars v = length (flat v)

-- the elements of an array or the fields of a struct
abbrev pub parts_in : Value-F Value → List Value
parts_in (layer.One s) = []
parts_in (layer.List vs) = vs
parts_in (layer.Fields vs) = vs

-- the parts of a value that may be absent
abbrev pub parts_of : Option Value → List Value
parts_of None = []
parts_of (Some v) = parts_in (out-Value v)

-- how many scalars stand before the part at the end of a path
abbrev pub offset_at : List ℕ → Option Value → ℕ
offset_at [] v = 0
offset_at (i ∷ path) v = length (flat_all (take i (parts_of v))) + offset_at path (part_of v i)

-- what is made of the first of some words, and the words that are left
pub record Filled (V : Type 0) : Type 0 where
  pub value : V
  pub rest : List ℤ

-- from words, a value and the words that are left
abbrev pub Filling : Type 0
Filling = List ℤ → Filled Value

-- a scalar stays where no word is left for it
abbrev pub fill_one : ScalarForm → Filling
fill_one s [] = record { value = one s; rest = [] }
fill_one s (w ∷ words) = record { value = one (scalar (kind_of s) w); rest = words }

-- parts are filled one after the other
abbrev pub fill_all : List Filling → List ℤ → Filled (List Value)
fill_all [] words = record { value = []; rest = words }
fill_all (f ∷ fs) words = record { value = (f words).value ∷ (fill_all fs (f words).rest).value; rest = (fill_all fs (f words).rest).rest }

-- a form is filled by filling its parts
abbrev pub fill_step : Value-F Filling → Filling
fill_step (layer.One s) words = fill_one s words
fill_step (layer.List fs) words = record { value = list (fill_all fs words).value; rest = (fill_all fs words).rest }
fill_step (layer.Fields fs) words = record { value = fields (fill_all fs words).value; rest = (fill_all fs words).rest }

-- a value of the same shape whose scalars are the first words
abbrev pub filled : Value → Filling
filled = fold-Value Filling fill_step

-- ---- open sizes

-- how many elements an array has
abbrev pub length_in : Value-F Value → ℕ
length_in (layer.One s) = 0
length_in (layer.List vs) = length vs
length_in (layer.Fields vs) = 0

-- how many elements an array has
abbrev pub length_of : Option Value → ℕ
length_of None = 0
length_of (Some v) = length_in (out-Value v)

-- the size of an array where its extent is open
abbrev pub own_size : Extent → Option Value → List ℕ
own_size (Stated n) v = []
own_size Unstated v = length_of v ∷ []

-- the sizes of a value at the open ones of these extents, the outermost first
abbrev pub sizes_at : List Extent → Option Value → List ℕ
sizes_at [] v = []
sizes_at (x ∷ xs) v = own_size x v ++ sizes_at xs (part_of v 0)

-- the open sizes of parameters of these shapes, by their values
abbrev pub open_sizes : List Shape → Env → List ℕ
open_sizes [] env = []
open_sizes (s ∷ shapes) [] = []
open_sizes (s ∷ shapes) (v ∷ env) = sizes_at (extents s) v ++ open_sizes shapes env

-- each open size is from 1 to the limit of arrays
abbrev pub sizes_fit : List ℕ → Bool
sizes_fit [] = true
sizes_fit (n ∷ sizes) = (nat_le 1 n && nat_le n ARRAY_SIZE) && sizes_fit sizes

-- an argument is of the shape of its parameter, and within the limit of scalars
abbrev pub argument_fits : List StructForm → List ℕ → LocalShape → Value → Bool
argument_fits structs opens s v = fits structs v (whole opens s.sizes (Some s.base)).sizes (Some s.base) && nat_le (scalars v) SCALARS

-- there is an argument for each parameter, and it fits
abbrev pub arguments_fit : List StructForm → List ℕ → List LocalShape → Env → Bool
arguments_fit structs opens [] [] = true
arguments_fit structs opens [] (v ∷ frame) = false
arguments_fit structs opens (s ∷ shapes) [] = false
arguments_fit structs opens (s ∷ shapes) (None ∷ frame) = false
arguments_fit structs opens (s ∷ shapes) (Some v ∷ frame) = argument_fits structs opens s v && arguments_fit structs opens shapes frame

-- a function with parameters of these shapes takes these open sizes and arguments
abbrev pub takes : List StructForm → List Shape → List ℕ → Env → Bool
takes structs shapes opens frame = (length opens == open_sizes_of shapes && sizes_fit opens) && arguments_fit structs opens (locals 0 shapes) frame
