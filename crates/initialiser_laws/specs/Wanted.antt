-- Which shapes an initialiser may be wanted for.
use Rattle.std.specs.Prelude.{List, [], ◌∷◌, Bool, true, ◌&&◌, nat_le}
use Rattle.ctl_base.specs.declared.limits.TheConstants.{ARRAY_SIZE}
use Rattle.ctl_types.specs.declared.shape.Extent.{Extent}
use Rattle.ctl_types.specs.declared.shape.Extent.TheVariants.{Stated, Unstated}
use Rattle.ctl_types.specs.declared.shape.Shape.{Shape}
use Rattle.ctl_types.specs.Shapes.{extents, base_of}
use Rattle.ctl_types.specs.Typing.{Scene, base_stands}

-- no stated extent is above the limit of arrays
abbrev pub extents_within : List Extent → Bool
extents_within [] = true
extents_within (Stated n ∷ xs) = nat_le n ARRAY_SIZE && extents_within xs
extents_within (Unstated ∷ xs) = extents_within xs

-- a shape within the limit of arrays, whose struct is there; it may leave extents open
abbrev pub may_be_wanted : Scene → Shape → Bool
may_be_wanted x shape = extents_within (extents shape) && base_stands x (base_of shape)
