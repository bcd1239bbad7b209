-- Which shapes fit which.
use Rattle.std.specs.Prelude.{ℕ, List, [], ◌∷◌, map, Option, Some, None, Bool, true, false, ◌&&◌, if◌then◌else◌}
use Rattle.ctl_types.specs.declared.shape.Base.{Base}
use Rattle.ctl_types.specs.declared.shape.Base.TheVariants.{Scalar, Struct}
use Rattle.ctl_types.specs.declared.shape.Extent.{Extent}
use Rattle.ctl_types.specs.declared.shape.Extent.TheVariants as extent
use Rattle.ctl_types.specs.declared.shape.Size.{Size}
use Rattle.ctl_types.specs.declared.shape.Size.TheVariants.{Stated}
use Rattle.ctl_types.specs.declared.shape.Shape.{Shape}
use Rattle.ctl_types.specs.declared.expression.Conversion.{Conversion}
use Rattle.ctl_types.specs.declared.expression.Conversion.TheVariants.{Same}
use Rattle.ctl_types.specs.Shapes.{extents}
use Rattle.ctl_types.specs.Typing.{same_base, same_size}
use Rattle.ctl_check_rules.specs.Operators.{between}
pub use Rattle.ctl_check_rules.specs.Operators.{short}

-- a stated size; constants, fields and results have no other
abbrev pub stated_size : Extent → Size
stated_size (extent.Stated n) = Stated n
stated_size extent.Unstated = Stated 0

-- the sizes of a shape whose sizes are all stated
abbrev pub stated_sizes : Shape → List Size
stated_sizes shape = map stated_size (extents shape)

-- a size fits a stated one that is the same, and an open one
abbrev pub extent_fits : Extent → Size → Bool
extent_fits (extent.Stated n) size = same_size (Stated n) size
extent_fits extent.Unstated size = true

-- sizes fit where as many are wanted and each fits
abbrev pub extents_fit : List Extent → List Size → Bool
extents_fit [] [] = true
extents_fit [] (size ∷ sizes) = false
extents_fit (x ∷ xs) [] = false
extents_fit (x ∷ xs) (size ∷ sizes) = extent_fits x size && extents_fit xs sizes

-- the size at an open extent
abbrev pub open_size : Extent → Size → List Size
open_size (extent.Stated n) size = []
open_size extent.Unstated size = size ∷ []

-- the sizes at the open extents
abbrev pub open_sizes_in : List Extent → List Size → List Size
open_sizes_in [] sizes = []
open_sizes_in (x ∷ xs) [] = []
open_sizes_in (extent.Stated n ∷ xs) (size ∷ sizes) = open_sizes_in xs sizes
open_sizes_in (extent.Unstated ∷ xs) (size ∷ sizes) = size ∷ open_sizes_in xs sizes

-- a scalar becomes one of the kind that is wanted; what is no scalar is of the same base
abbrev pub base_conversion : List Size → Base → Option Base → Option Conversion
base_conversion sizes wanted None = None
base_conversion [] (Scalar k) (Some (Scalar a)) = Some (between a k)
base_conversion [] (Scalar k) (Some (Struct n)) = None
base_conversion [] (Struct m) (Some given) = if same_base (Struct m) given then Some Same else None
base_conversion (size ∷ sizes) wanted (Some given) = if same_base wanted given then Some Same else None

-- What is done to a value of a shape where one of these extents and this base is wanted, and none where it doesn't fit.
abbrev pub fitting : List Extent → Base → List Size → Option Base → Option Conversion
fitting xs wanted sizes given = if extents_fit xs sizes then base_conversion sizes wanted given else None
