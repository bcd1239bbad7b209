-- How a value is taken where a shape is wanted.
use Rattle.std.specs.Prelude.{◌≡◌, ℕ, List, Option, Some, true, slice_get}
use Rattle.ctl_types.specs.declared.shape.Base.{Base}
use Rattle.ctl_types.specs.declared.shape.Extent.{Extent}
use Rattle.ctl_types.specs.declared.shape.Size.{Size}
use Rattle.ctl_types.specs.declared.expression.Conversion.{Conversion}
use Rattle.ctl_types.specs.declared.expression.TypedExpr.{TypedExpr}
use Rattle.ctl_types.specs.declared.expression.TypedPlace.{TypedPlace, out-TypedPlace}
use Rattle.ctl_types.specs.Shapes.{numbered}
use Rattle.ctl_types.specs.Typing.{Typed, Scene, Variables, are_stated, place_assignable, expr_type, operand_type, place_type}
use Rattle.ctl_check_rules.specs.Operators.{operand}
use Rattle.ctl_check_rules.specs.Shapes.{extents_fit, base_conversion, fitting}
use Rattle.ctl_check_expr.specs.Places.{place_of}
use Rattle.ctl_check_laws.specs.Accepted.{known, Holds}

-- ---- values

-- what is done to a value of a known type makes it one of the base that is wanted
abbrev pub ConversionHasType : Type 0
ConversionHasType =
    (x : Scene) (vs : Variables) (e : TypedExpr) (c : Conversion) (wanted : Base) (sizes : List Size) (base : Option Base) (depth : ℕ)
    → expr_type x vs e ≡ known sizes base depth → base_conversion sizes wanted base ≡ Some c
    → operand_type x vs (operand e c) ≡ known sizes (Some wanted) depth

-- sizes that fit these extents, and a value of the base that is wanted
pub record IsFitting (extents : List Extent) (sizes : List Size) (value wanted : Typed) : Type 0 where
  pub fits : extents_fit extents sizes ≡ true
  pub type : value ≡ wanted

-- a value that fits is taken with its sizes and the base that is wanted
abbrev pub FittingHasType : Type 0
FittingHasType =
    (x : Scene) (vs : Variables) (e : TypedExpr) (c : Conversion) (extents : List Extent) (wanted : Base) (sizes : List Size) (base : Option Base) (depth : ℕ)
    → expr_type x vs e ≡ known sizes base depth → fitting extents wanted sizes base ≡ Some c
    → IsFitting extents sizes (operand_type x vs (operand e c)) (known sizes (Some wanted) depth)

-- where no extent is open, only its own sizes fit
abbrev pub StatedSizesFit : Type 0
StatedSizesFit = (extents : List Extent) (sizes : List Size) → are_stated (numbered 0 extents) ≡ true → extents_fit extents sizes ≡ true → sizes ≡ numbered 0 extents

-- ---- places

-- the place that an expression is, where the variables of a scope are among others
pub record IsPlace (x : Scene) (vs : Variables) (p : TypedPlace) (t : Typed) : Type 0 where
  pub type : (place_type x vs p).type ≡ t
  pub assigned : (scope : Variables) → Holds vs scope → place_assignable (slice_get scope (out-TypedPlace p).variable) ≡ true → (place_type x vs p).is_assignable ≡ true

-- the place that an expression of a known type is has its type
abbrev pub PlaceHasType : Type 0
PlaceHasType =
    (x : Scene) (vs : Variables) (e : TypedExpr) (p : TypedPlace) (sizes : List Size) (base : Option Base) (depth : ℕ)
    → expr_type x vs e ≡ known sizes base depth → place_of e ≡ Some p → IsPlace x vs p (known sizes base depth)
