-- A value of a shape without open extents stands as an input.
use Rattle.std.proofs.Common.{◌≡◌, ◌==◌, ℕ, List, [], ◌∷◌, Option, Some, true, nat_le, refl, arith, slice_get}
use Rattle.ctl_base.specs.declared.limits.TheConstants.{SCALARS}
use Rattle.ctl_types.specs.declared.shape.Shape.{Shape}
use Rattle.ctl_types.specs.declared.shape.Extent.{Extent}
use Rattle.ctl_types.specs.declared.shape.Extent.TheVariants as extent
use Rattle.ctl_types.specs.declared.value.Value.{Value}
use Rattle.ctl_types.specs.declared.program.Struct.{Struct}
use Rattle.ctl_types.specs.Shapes.{extents, base_of, open_count}
use Rattle.ctl_types.specs.Values.{fits, scalars, sizes_at, part_of}
use Rattle.ctl_types.specs.Scoping.{default_stands}
use Rattle.ctl_types.specs.declared.program.Function.{Function}
use Rattle.ctl_types.specs.Definitions.{Defined}
use Rattle.eval_values.specs.Sizes.{sizes_of}
use Rattle.ctl_laws.specs.Sound.{inputs_fit}
use Rattle.ctl_eval.specs.Entries.{EntryTakes}

no_sizes : (xs : List Extent) (v : Option Value) → (open_count xs == 0) ≡ true → sizes_at xs v ≡ []
no_sizes [] v e = refl
no_sizes (extent.Stated n ∷ xs) v e = no_sizes xs (part_of v 0) e
no_sizes (extent.Unstated ∷ xs) v e = grind arith

pub stands : (structs : List Struct) (shape : Shape) (v : Value) → (open_count (extents shape) == 0) ≡ true → nat_le (scalars v) SCALARS ≡ true → fits structs v (sizes_of [] (extents shape)) (Some (base_of shape)) ≡ true → default_stands structs shape (Some v) ≡ true
stands structs shape v closed few fit = let e = no_sizes (extents shape) (Some v) closed in grind arith

pub entry_takes : (d : Defined) (entry : ℕ) (inputs : List Value) (f : Function) → slice_get d.functions entry ≡ Some f → inputs_fit d.structs f.parameters inputs ≡ true → EntryTakes d entry inputs
entry_takes d entry inputs f there fit = (f, there, fit)
