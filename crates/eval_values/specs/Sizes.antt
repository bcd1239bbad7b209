-- Sizes at the extents of a shape, where the open ones are those of a list, one after the other.
use Rattle.std.specs.Prelude.{ℕ, zero, suc, List, map, drop, Some, None, Option, Bool, false, ◌&&◌, nat_le}
use Rattle.ctl_base.specs.declared.limits.TheConstants.{SCALARS}
use Rattle.ctl_types.specs.declared.shape.Base.{Base}
use Rattle.ctl_types.specs.declared.value.Value.{Value}
use Rattle.ctl_types.specs.declared.program.Struct.{Struct}
use Rattle.ctl_types.specs.Values.{fits, scalars}
use Rattle.ctl_types.specs.declared.shape.Extent.{Extent}
use Rattle.ctl_types.specs.declared.shape.Extent.TheVariants as extent
use Rattle.ctl_types.specs.declared.shape.Size.{Size}
use Rattle.ctl_types.specs.declared.shape.Size.TheVariants.{Stated, Open}
use Rattle.ctl_types.specs.Shapes.{numbered, size_in}

abbrev pub sizes_of : List ℕ → List Extent → List ℕ
sizes_of opens xs = map (size_in opens) (numbered 0 xs)

-- the size of an extent, and the open sizes that are left for those behind it
abbrev pub own : Extent → Size
own (extent.Stated n) = Stated n
own extent.Unstated = Open 0

abbrev pub left : Extent → List ℕ → List ℕ
left (extent.Stated n) opens = opens
left extent.Unstated opens = drop 1 opens

-- the difference of two numbers, where there is one
abbrev pub less : ℕ → ℕ → Option ℕ
less n zero = Some n
less zero (suc k) = None
less (suc n) (suc k) = less n k

-- whether an argument that may be absent is of a shape, and within the limit of scalars
abbrev pub given_fits : List Struct → List ℕ → List Extent → Base → Option Value → Bool
given_fits structs opens xs base None = false
given_fits structs opens xs base (Some v) = fits structs v (sizes_of opens xs) (Some base) && nat_le (scalars v) SCALARS
