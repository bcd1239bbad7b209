-- Shapes and their values, form by form.
use Rattle.std.proofs.Common.{◌≡◌, ℕ, List, [], ◌∷◌, ap, Option}
use Rattle.ctl_base.specs.declared.kind.ScalarKind.{ScalarKind}
use Rattle.ctl_types.specs.declared.scalar.Scalar.{Scalar}
use Rattle.ctl_types.specs.declared.shape.Extent.{Extent}
use Rattle.ctl_types.specs.declared.shape.Base.{Base}
use Rattle.ctl_types.specs.declared.shape.Base.TheVariants as base
use Rattle.ctl_types.specs.declared.shape.Shape.{Shape, roll-Shape}
use Rattle.ctl_types.specs.declared.shape.Shape.TheOpen as layer
use Rattle.ctl_types.specs.declared.shape.Shape.TheFolds.{fold-roll-Shape}
use Rattle.ctl_types.specs.declared.value.Value.TheOpen as value_layer
use Rattle.ctl_types.specs.declared.value.Value.TheFolds.{fold-roll-Value}
use Rattle.ctl_types.specs.declared.program.Struct.{Struct}
use Rattle.ctl_types.specs.Shapes.{extents, extents_step, base_of, base_step}
use Rattle.ctl_types.specs.Values.{Fit, fits, fit_step, fit_one, one}

pub extents_scalar : (k : ScalarKind) → extents (roll-Shape (layer.Scalar k)) ≡ []
extents_scalar k = fold-roll-Shape (List Extent) extents_step (layer.Scalar k)

pub extents_array : (inner : Shape) (x : Extent) → extents (roll-Shape (layer.Array inner x)) ≡ x ∷ extents inner
extents_array inner x = fold-roll-Shape (List Extent) extents_step (layer.Array inner x)

pub base_scalar : (k : ScalarKind) → base_of (roll-Shape (layer.Scalar k)) ≡ base.Scalar k
base_scalar k = fold-roll-Shape Base base_step (layer.Scalar k)

pub base_array : (inner : Shape) (x : Extent) → base_of (roll-Shape (layer.Array inner x)) ≡ base_of inner
base_array inner x = fold-roll-Shape Base base_step (layer.Array inner x)

pub fits_one : (structs : List Struct) (s : Scalar) (sizes : List ℕ) (b : Option Base) → fits structs (one s) sizes b ≡ fit_one s sizes b
fits_one structs s sizes b = ap (λ (f : Fit). f sizes b) (fold-roll-Value Fit (fit_step structs) (value_layer.One s))
