-- The shapes of parameters and results as plain data, and how many words a call takes.
use Rattle.std.specs.Prelude.{◌≡◌, ℕ, ℤ, ◌+◌, ◌*◌, ◌<◌, ◌≤◌, ◌==◌, Bool, true, false, if◌then◌else◌, List, [], ◌∷◌, length, sum_by, All, Option, Some, None}
use Rattle.ctl_base.specs.declared.kind.ScalarKind.TheVariants.{Bool as BoolKind, Half as HalfKind, Float as FloatKind}
use Rattle.ctl_base.specs.declared.limits.TheConstants.{ARRAY_SIZE, SCALARS}
use Rattle.ctl_stdlib.specs.declared.row.Base.{Base}
use Rattle.ctl_stdlib.specs.declared.row.Base.TheVariants.{Scalar, Chromaticities as Points}
use Rattle.ctl_stdlib.specs.declared.row.RowShape.{RowShape}
use Rattle.ctl_stdlib.specs.declared.row.RowShape.TheVariants.{Bool as BoolShape, Half, Float, Float3, Float33, Float44, Floats, Pairs, Lattice, Chromaticities}
use Rattle.ctl_stdlib.specs.declared.row.Param.{Param}
use Rattle.ctl_stdlib.specs.Rows.{Row}

-- what an array of this shape holds in the end
abbrev pub base : RowShape → Base
base BoolShape = Scalar BoolKind
base Half = Scalar HalfKind
base Chromaticities = Points
base Float = Scalar FloatKind
base Float3 = Scalar FloatKind
base Float33 = Scalar FloatKind
base Float44 = Scalar FloatKind
base Floats = Scalar FloatKind
base Pairs = Scalar FloatKind
base Lattice = Scalar FloatKind

-- how many sizes are open: they stand outermost
abbrev pub open_sizes : RowShape → ℕ
open_sizes Floats = 1
open_sizes Pairs = 1
open_sizes Lattice = 3
open_sizes BoolShape = 0
open_sizes Half = 0
open_sizes Float = 0
open_sizes Float3 = 0
open_sizes Float33 = 0
open_sizes Float44 = 0
open_sizes Chromaticities = 0

-- the sizes that are stated, the outermost first
abbrev pub stated_sizes : RowShape → List ℕ
stated_sizes Float3 = 3 ∷ []
stated_sizes Float33 = 3 ∷ 3 ∷ []
stated_sizes Float44 = 4 ∷ 4 ∷ []
stated_sizes Pairs = 2 ∷ []
stated_sizes Lattice = 3 ∷ []
stated_sizes BoolShape = []
stated_sizes Half = []
stated_sizes Float = []
stated_sizes Floats = []
stated_sizes Chromaticities = []

-- the words of a base: the struct Chromaticities has four points of two floats
abbrev pub base_words : Base → ℕ
base_words (Scalar kind) = 1
base_words Points = 8

-- the product of sizes
abbrev pub elements : List ℕ → ℕ
elements [] = 1
elements (n ∷ sizes) = n * elements sizes

-- the words of a shape, for one element of its open sizes
abbrev pub stated_words : RowShape → ℕ
stated_words shape = elements (stated_sizes shape) * base_words (base shape)

-- whether a shape has open sizes
abbrev pub is_table : RowShape → Bool
is_table shape = if open_sizes shape == 0 then false else true

-- the words of a parameter among the table, the other inputs, and the outputs
abbrev pub table_words : List ℕ → Param → ℕ
table_words sizes p = if is_table p.shape then elements sizes * stated_words p.shape else 0

abbrev pub input_words : Param → ℕ
input_words p = if p.is_output then 0 else (if is_table p.shape then 0 else stated_words p.shape)

abbrev pub output_words : Param → ℕ
output_words p = if p.is_output then stated_words p.shape else 0

abbrev pub result_words : Option RowShape → ℕ
result_words None = 0
result_words (Some shape) = stated_words shape

-- the words that a call fills
abbrev pub filled_words : Row → ℕ
filled_words r = result_words r.result + sum_by output_words r.params

-- what a call of a row takes: a size from 1 on for each open size, and of three sizes none above the limit of arrays; the words of its table, within
-- the limit of scalars; the words of its other inputs; and room for what it fills
pub record Fits (r : Row) (sizes : List ℕ) (table args : List ℤ) (room : ℕ) : Type 0 where
  pub counted : length sizes ≡ sum_by (λ p. open_sizes p.shape) r.params
  pub some : All (λ n. 1 ≤ n) sizes
  pub most : 1 < length sizes → All (λ n. n ≤ ARRAY_SIZE) sizes
  pub whole : length table ≡ sum_by (table_words sizes) r.params
  pub few : length table ≤ SCALARS
  pub given : length args ≡ sum_by input_words r.params
  pub free : room ≡ filled_words r
