-- The shapes of rows, and how many words their arguments have.
use Rattle.std.proofs.Common.{◌≡◌, List, [], ◌∷◌, map, Some, refl, ap, ◌∙◌, arith, sum_by}
use Rattle.std.proofs.lemmas.List.Sums.{sum_by-cons}
use Rattle.ctl_base.specs.declared.kind.ScalarKind.TheVariants as kind
use Rattle.ctl_stdlib.specs.declared.row.RowShape.{RowShape}
use Rattle.ctl_stdlib.specs.declared.row.RowShape.TheVariants.{Bool as BoolShape, Half, Float, Float3, Float33, Float44, Floats, Pairs, Lattice, Chromaticities}
use Rattle.ctl_stdlib.specs.declared.row.Base.{Base as RowBase}
use Rattle.ctl_stdlib.specs.declared.row.Base.TheVariants as row_base
use Rattle.ctl_stdlib.specs.declared.row.Param.{Param}
use Rattle.ctl_stdlib.specs.Shapes.{base, open_sizes}
use Rattle.ctl_types.specs.declared.shape.Base.{Base}
use Rattle.ctl_types.specs.declared.shape.Base.TheVariants.{Scalar}
use Rattle.ctl_types.specs.declared.shape.Extent.{Extent}
use Rattle.ctl_types.specs.declared.shape.Extent.TheVariants.{Stated}
use Rattle.ctl_types.specs.declared.shape.Shape.{Shape, roll-Shape}
use Rattle.ctl_types.specs.declared.shape.Shape.TheOpen as layer
use Rattle.ctl_types.specs.declared.shape.Shape.TheFolds.{fold-roll-Shape}
use Rattle.ctl_types.specs.Shapes.{extents, extents_step, base_of, base_step, arrays, open_count, open_sizes_of, whole_of, numbered, size_in}
use Rattle.ctl_types.specs.Library.{shape_of, shape_of_base, row_extents, zero_base_of}

extents_over : (xs : List Extent) (inner : Shape) → extents inner ≡ [] → extents (arrays xs inner) ≡ xs
extents_over [] inner e = e
extents_over (x ∷ xs) inner e = fold-roll-Shape (List Extent) extents_step (layer.Array (arrays xs inner) x) ∙ ap (λ l. x ∷ l) (extents_over xs inner e)

base_over : (xs : List Extent) (inner : Shape) → base_of (arrays xs inner) ≡ base_of inner
base_over [] inner = refl
base_over (x ∷ xs) inner = fold-roll-Shape Base base_step (layer.Array (arrays xs inner) x) ∙ base_over xs inner

plain_extents : (b : RowBase) → extents (shape_of_base b) ≡ []
plain_extents (row_base.Scalar k) = fold-roll-Shape (List Extent) extents_step (layer.Scalar k)
plain_extents row_base.Chromaticities = fold-roll-Shape (List Extent) extents_step (layer.Struct 0)

plain_base : (b : RowBase) → base_of (shape_of_base b) ≡ zero_base_of b
plain_base (row_base.Scalar k) = fold-roll-Shape Base base_step (layer.Scalar k)
plain_base row_base.Chromaticities = fold-roll-Shape Base base_step (layer.Struct 0)

pub extents_row : (shape : RowShape) → extents (shape_of shape) ≡ row_extents shape
extents_row shape = extents_over (row_extents shape) (shape_of_base (base shape)) (plain_extents (base shape))

pub base_row : (shape : RowShape) → base_of (shape_of shape) ≡ zero_base_of (base shape)
base_row shape = base_over (row_extents shape) (shape_of_base (base shape)) ∙ plain_base (base shape)

row_count : (shape : RowShape) → open_count (row_extents shape) ≡ open_sizes shape
row_count BoolShape = refl
row_count Half = refl
row_count Float = refl
row_count Float3 = refl
row_count Float33 = refl
row_count Float44 = refl
row_count Floats = refl
row_count Pairs = refl
row_count Lattice = refl
row_count Chromaticities = refl

pub opens_row : (shape : RowShape) → open_count (extents (shape_of shape)) ≡ open_sizes shape
opens_row shape = ap open_count (extents_row shape) ∙ row_count shape

pub opens_rows : (params : List Param) → open_sizes_of (map (λ (p : Param). shape_of p.shape) params) ≡ sum_by (λ (p : Param). open_sizes p.shape) params
opens_rows [] = refl
opens_rows (p ∷ params) =
    let a = sum_by-cons (λ s. open_count (extents s)) (shape_of p.shape) (map (λ (p : Param). shape_of p.shape) params) in
    let b = sum_by-cons (λ (p : Param). open_sizes p.shape) p params in
    let q = opens_row p.shape in let r = opens_rows params in omega arith

-- a pair of floats
abbrev pub pair_shape : Shape
pair_shape = arrays (Stated 2 ∷ []) (roll-Shape (layer.Scalar kind.Float))

pub extents_pair : (whole_of pair_shape).sizes ≡ 2 ∷ []
extents_pair = ap (λ xs. map (size_in []) (numbered 0 xs)) (extents_over (Stated 2 ∷ []) (roll-Shape (layer.Scalar kind.Float)) (fold-roll-Shape (List Extent) extents_step (layer.Scalar kind.Float)))

pub base_pair : (whole_of pair_shape).base ≡ Some (Scalar kind.Float)
base_pair = ap Some (base_over (Stated 2 ∷ []) (roll-Shape (layer.Scalar kind.Float)) ∙ fold-roll-Shape Base base_step (layer.Scalar kind.Float))
