-- Shapes of initialisers: sizes as extents and back.
use Rattle.std.proofs.Common.{◌≡◌, ℕ, zero, suc, ◌+◌, ◌-◌, ◌*◌, ◌^◌, ◌≤◌, ◌<◌, min, List, [], ◌∷◌, map, length, Option, Some, None, Bool, true, false, ◌&&◌, ◌==◌, nat_le, refl, sym, ap, subst, ◌∙◌, arith, eqb-true, eq-eqb, leb-true, le-leb}
use Rattle.ctl_base.specs.declared.limits.TheConstants.{ARRAY_SIZE}
use Rattle.ctl_types.specs.declared.shape.Base.{Base}
use Rattle.ctl_types.specs.declared.shape.Base.TheVariants.{Scalar, Struct}
use Rattle.ctl_types.specs.declared.shape.Extent.{Extent}
use Rattle.ctl_types.specs.declared.shape.Extent.TheVariants as extent
use Rattle.ctl_types.specs.declared.shape.Size.{Size}
use Rattle.ctl_types.specs.declared.shape.Size.TheVariants.{Stated, Open}
use Rattle.ctl_types.specs.declared.shape.LocalShape.{LocalShape}
use Rattle.ctl_types.specs.declared.shape.Shape.{Shape, roll-Shape}
use Rattle.ctl_types.specs.declared.shape.Shape.TheOpen as layer
use Rattle.ctl_types.specs.declared.shape.Shape.TheFolds.{fold-roll-Shape}
use Rattle.ctl_types.specs.Shapes.{extents_step, extents, base_step, base_of, arrays, numbered, local}
use Rattle.ctl_types.specs.Typing.{Scene, are_stated, size_stands, sizes_stand, size_counted}
use Rattle.ctl_check_rules.specs.Operators.{short}
use Rattle.ctl_check_rules.specs.Shapes.{stated_size, stated_sizes, extent_fits}
use Rattle.ctl_check_init.specs.Initialisers.{extent_of, base_shape, sized, count_fits, sizes_within}
use Rattle.initialiser_laws.specs.Wanted.{extents_within}
use Rattle.initialiser_laws.proofs.Basics.{both, and_true}

-- ---- the shape of some sizes

pub array_extents : (inner : Shape) (x : Extent) → extents (roll-Shape (layer.Array inner x)) ≡ x ∷ extents inner
array_extents inner x = fold-roll-Shape (List Extent) extents_step (layer.Array inner x)

pub array_base : (inner : Shape) (x : Extent) → base_of (roll-Shape (layer.Array inner x)) ≡ base_of inner
array_base inner x = fold-roll-Shape Base base_step (layer.Array inner x)

pub struct_extents : (n : ℕ) → extents (roll-Shape (layer.Struct n)) ≡ []
struct_extents n = fold-roll-Shape (List Extent) extents_step (layer.Struct n)

pub struct_base : (n : ℕ) → base_of (roll-Shape (layer.Struct n)) ≡ Struct n
struct_base n = fold-roll-Shape Base base_step (layer.Struct n)

base_extents : (b : Base) → extents (base_shape b) ≡ []
base_extents (Scalar k) = fold-roll-Shape (List Extent) extents_step (layer.Scalar k)
base_extents (Struct n) = struct_extents n

base_base : (b : Base) → base_of (base_shape b) ≡ b
base_base (Scalar k) = fold-roll-Shape Base base_step (layer.Scalar k)
base_base (Struct n) = struct_base n

arrays_extents : (xs : List Extent) (b : Base) → extents (arrays xs (base_shape b)) ≡ xs
arrays_extents [] b = base_extents b
arrays_extents (x ∷ xs) b = array_extents (arrays xs (base_shape b)) x ∙ ap (λ xs. x ∷ xs) (arrays_extents xs b)

arrays_base : (xs : List Extent) (b : Base) → base_of (arrays xs (base_shape b)) ≡ b
arrays_base [] b = base_base b
arrays_base (x ∷ xs) b = array_base (arrays xs (base_shape b)) x ∙ arrays_base xs b

pub sized_extents : (zs : List Size) (b : Base) → extents (sized zs b) ≡ map extent_of zs
sized_extents zs b = arrays_extents (map extent_of zs) b

pub sized_base : (zs : List Size) (b : Base) → base_of (sized zs b) ≡ b
sized_base zs b = arrays_base (map extent_of zs) b

pub numbered_back : (zs : List Size) → are_stated zs ≡ true → numbered 0 (map extent_of zs) ≡ zs
numbered_back [] h = refl
numbered_back (Stated n ∷ zs) h = ap (λ zs. Stated n ∷ zs) (numbered_back zs h)
numbered_back (Open k ∷ zs) h = absurd (cc)

pub sized_local : (zs : List Size) (b : Base) → are_stated zs ≡ true → local 0 (sized zs b) ≡ record { sizes = zs; base = b }
sized_local zs b h = ap (λ (xs : List Extent). record { sizes = numbered 0 xs; base = base_of (sized zs b) }) (sized_extents zs b) ∙ ap (λ (sizes : List Size). record { sizes = sizes; base = base_of (sized zs b) }) (numbered_back zs h) ∙ ap (λ (base : Base). record { sizes = zs; base = base }) (sized_base zs b)

stated_back : (zs : List Size) → are_stated zs ≡ true → map stated_size (map extent_of zs) ≡ zs
stated_back [] h = refl
stated_back (Stated n ∷ zs) h = ap (λ zs. Stated n ∷ zs) (stated_back zs h)
stated_back (Open k ∷ zs) h = absurd (cc)

pub sized_stated : (zs : List Size) (b : Base) → are_stated zs ≡ true → stated_sizes (sized zs b) ≡ zs
sized_stated zs b h = ap (map stated_size) (sized_extents zs b) ∙ stated_back zs h

stated_numbers : (k : ℕ) (xs : List Extent) → are_stated (numbered k xs) ≡ true → map stated_size xs ≡ numbered k xs
stated_numbers k [] h = refl
stated_numbers k (extent.Stated n ∷ xs) h = ap (λ sizes. Stated n ∷ sizes) (stated_numbers k xs h)
stated_numbers k (extent.Unstated ∷ xs) h = absurd (cc)

-- the sizes of a shape without open extents
pub stated_local : (shape : Shape) → are_stated (local 0 shape).sizes ≡ true → stated_sizes shape ≡ (local 0 shape).sizes
stated_local shape h = stated_numbers 0 (extents shape) h

-- ---- limits

pub within_extents : (zs : List Size) → are_stated zs ≡ true → sizes_within zs ≡ true → extents_within (map extent_of zs) ≡ true
within_extents [] h w = refl
within_extents (Stated n ∷ zs) h w = let b = both (nat_le n ARRAY_SIZE) _ w in and_true (nat_le n ARRAY_SIZE) _ b.0 (within_extents zs h b.1)
within_extents (Open k ∷ zs) h w = absurd (cc)

pub stand_within : (x : Scene) (zs : List Size) → are_stated zs ≡ true → sizes_stand x zs ≡ true → sizes_within zs ≡ true
stand_within x [] h w = refl
stand_within x (Stated n ∷ zs) h w =
    let b = both (nat_le 1 n && nat_le n ARRAY_SIZE) _ w in
    and_true (nat_le n ARRAY_SIZE) _ (both (nat_le 1 n) _ b.0).1 (stand_within x zs h b.1)
stand_within x (Open k ∷ zs) h w = absurd (cc)

pub short_within : (n : ℕ) → nat_le (short n) ARRAY_SIZE ≡ true → short n ≡ n
short_within n h = let l : min n (2 ^ 32 - 1) ≤ ARRAY_SIZE = leb-true _ _ h in let e : min n (2 ^ 32 - 1) ≡ n = omega arith in e

pub small_short : (n : ℕ) → n ≤ ARRAY_SIZE → short n ≡ n
small_short n l = let e : min n (2 ^ 32 - 1) ≡ n = omega arith in e

-- a list of as many elements as are wanted has the size of the extent
pub count_size : (x : Extent) (xs : List Extent) (count : ℕ) → extents_within (x ∷ xs) ≡ true → count_fits x count ≡ true → extent_fits x (Stated (short count)) ≡ true
count_size (extent.Stated n) xs count w h =
    let e : count ≡ n = eqb-true count n h in
    let l : n ≤ ARRAY_SIZE = leb-true _ _ (both (nat_le n ARRAY_SIZE) _ w).0 in
    let s = small_short count (omega arith) in
    eq-eqb n (short count) (sym e ∙ sym s)
count_size extent.Unstated xs count w h = refl

pub inner_within : (x : Extent) (xs : List Extent) → extents_within (x ∷ xs) ≡ true → extents_within xs ≡ true
inner_within (extent.Stated n) xs h = (both (nat_le n ARRAY_SIZE) _ h).1
inner_within extent.Unstated xs h = h
