-- What the functions of the library give.
use Rattle.std.proofs.Common.{◌≡◌, ℕ, List, [], ◌∷◌, Option, Some, None, Bool, true, false, refl, sym, ap, subst, ◌∙◌}
use Rattle.ctl_base.specs.declared.kind.ScalarKind.{ScalarKind}
use Rattle.ctl_base.specs.declared.kind.ScalarKind.TheVariants as kind
use Rattle.ctl_stdlib.specs.declared.row.LibraryId.{LibraryId}
use Rattle.ctl_stdlib.specs.declared.row.LibraryId.TheVariants.{Exp, Log, Log10, Pow10, Sqrt, Fabs, Floor, Sin, Cos, Tan, Asin, Acos, Atan, Pow, Fmod, Hypot, Atan2, ExpH, LogH, Log10H, Pow10H, PowH, AddF3F3, SubtractF3F3, MultFF3, DotF3F3, CrossF3F3, LengthF3, MultF3F33, MultF3F44, MultF33F33, MultF44F44, MultFF33, MultFF44, AddF33F33, AddF44F44, TransposeF33, TransposeF44, InvertF33, InvertF44, Lookup1D, LookupCubic1D, Interpolate1D, InterpolateCubic1D, Lookup3DF3, Lookup3DF, RgbToXyz, XyzToRgb, Assert}
use Rattle.ctl_stdlib.specs.declared.row.RowShape.{RowShape}
use Rattle.ctl_stdlib.specs.declared.row.RowShape.TheVariants.{Bool as BoolShape, Half, Float, Float3, Float33, Float44, Floats, Pairs, Lattice, Chromaticities}
use Rattle.ctl_stdlib.specs.Rows.{row}
use Rattle.ctl_types.specs.declared.shape.Base.{Base}
use Rattle.ctl_types.specs.declared.shape.Base.TheVariants.{Scalar}
use Rattle.ctl_types.specs.declared.shape.Extent.{Extent}
use Rattle.ctl_types.specs.declared.shape.LocalShape.{LocalShape}
use Rattle.ctl_types.specs.declared.shape.Shape.{Shape, roll-Shape}
use Rattle.ctl_types.specs.declared.shape.Shape.TheOpen as layer
use Rattle.ctl_types.specs.declared.shape.Shape.TheFolds.{fold-roll-Shape}
use Rattle.ctl_types.specs.Shapes.{extents_step, extents, base_step, base_of, arrays, numbered, local}
use Rattle.ctl_types.specs.Library.{row_extents, shape_of, result_of, library_row}
use Rattle.ctl_types.specs.Typing.{Scene, are_stated, shape_stands}
use Rattle.ctl_check_laws.proofs.Around.{StatedShape, StatedResult}

-- a result is a half or has floats, in stated sizes
abbrev result_plain : Option RowShape → Bool
result_plain None = true
result_plain (Some BoolShape) = false
result_plain (Some Half) = true
result_plain (Some Float) = true
result_plain (Some Float3) = true
result_plain (Some Float33) = true
result_plain (Some Float44) = true
result_plain (Some Floats) = false
result_plain (Some Pairs) = false
result_plain (Some Lattice) = false
result_plain (Some Chromaticities) = false

row_plain : (id : LibraryId) → result_plain (row id).result ≡ true
row_plain Exp = refl
row_plain Log = refl
row_plain Log10 = refl
row_plain Pow10 = refl
row_plain Sqrt = refl
row_plain Fabs = refl
row_plain Floor = refl
row_plain Sin = refl
row_plain Cos = refl
row_plain Tan = refl
row_plain Asin = refl
row_plain Acos = refl
row_plain Atan = refl
row_plain Pow = refl
row_plain Fmod = refl
row_plain Hypot = refl
row_plain Atan2 = refl
row_plain ExpH = refl
row_plain LogH = refl
row_plain Log10H = refl
row_plain Pow10H = refl
row_plain PowH = refl
row_plain AddF3F3 = refl
row_plain SubtractF3F3 = refl
row_plain MultFF3 = refl
row_plain DotF3F3 = refl
row_plain CrossF3F3 = refl
row_plain LengthF3 = refl
row_plain MultF3F33 = refl
row_plain MultF3F44 = refl
row_plain MultF33F33 = refl
row_plain MultF44F44 = refl
row_plain MultFF33 = refl
row_plain MultFF44 = refl
row_plain AddF33F33 = refl
row_plain AddF44F44 = refl
row_plain TransposeF33 = refl
row_plain TransposeF44 = refl
row_plain InvertF33 = refl
row_plain InvertF44 = refl
row_plain Lookup1D = refl
row_plain LookupCubic1D = refl
row_plain Interpolate1D = refl
row_plain InterpolateCubic1D = refl
row_plain Lookup3DF3 = refl
row_plain Lookup3DF = refl
row_plain RgbToXyz = refl
row_plain XyzToRgb = refl
row_plain Assert = refl

extents_scalar : (k : ScalarKind) → extents (roll-Shape (layer.Scalar k)) ≡ []
extents_scalar k = fold-roll-Shape (List Extent) extents_step (layer.Scalar k)

extents_array : (inner : Shape) (x : Extent) → extents (roll-Shape (layer.Array inner x)) ≡ x ∷ extents inner
extents_array inner x = fold-roll-Shape (List Extent) extents_step (layer.Array inner x)

base_scalar : (k : ScalarKind) → base_of (roll-Shape (layer.Scalar k)) ≡ Scalar k
base_scalar k = fold-roll-Shape Base base_step (layer.Scalar k)

base_array : (inner : Shape) (x : Extent) → base_of (roll-Shape (layer.Array inner x)) ≡ base_of inner
base_array inner x = fold-roll-Shape Base base_step (layer.Array inner x)

arrays_extents : (xs : List Extent) (k : ScalarKind) → extents (arrays xs (roll-Shape (layer.Scalar k))) ≡ xs
arrays_extents [] k = extents_scalar k
arrays_extents (x ∷ xs) k = extents_array (arrays xs (roll-Shape (layer.Scalar k))) x ∙ ap (λ xs. x ∷ xs) (arrays_extents xs k)

arrays_base : (xs : List Extent) (k : ScalarKind) → base_of (arrays xs (roll-Shape (layer.Scalar k))) ≡ Scalar k
arrays_base [] k = base_scalar k
arrays_base (x ∷ xs) k = base_array (arrays xs (roll-Shape (layer.Scalar k))) x ∙ arrays_base xs k

arrays_local : (xs : List Extent) (k : ScalarKind) → local 0 (arrays xs (roll-Shape (layer.Scalar k))) ≡ record { sizes = numbered 0 xs; base = Scalar k }
arrays_local xs k = ap (λ xs'. record { sizes = numbered 0 xs'; base = base_of (arrays xs (roll-Shape (layer.Scalar k))) }) (arrays_extents xs k) ∙ ap (λ base. record { sizes = numbered 0 xs; base = base }) (arrays_base xs k)

stated_of : (x : Scene) (shape : Shape) (l : LocalShape) → local 0 shape ≡ l → are_stated l.sizes ≡ true → shape_stands x l ≡ true → StatedShape x shape
stated_of x shape l e a b = record { stated = ap (λ (l : LocalShape). are_stated l.sizes) e ∙ a; stands = ap (shape_stands x) e ∙ b }

shape_stated : (x : Scene) (o : Option RowShape) → result_plain o ≡ true → StatedResult x (result_of o)
shape_stated x None h = tt
shape_stated x (Some BoolShape) h = absurd (cc)
shape_stated x (Some Half) h = stated_of x (shape_of Half) _ (arrays_local (row_extents Half) kind.Half) refl refl
shape_stated x (Some Float) h = stated_of x (shape_of Float) _ (arrays_local (row_extents Float) kind.Float) refl refl
shape_stated x (Some Float3) h = stated_of x (shape_of Float3) _ (arrays_local (row_extents Float3) kind.Float) refl refl
shape_stated x (Some Float33) h = stated_of x (shape_of Float33) _ (arrays_local (row_extents Float33) kind.Float) refl refl
shape_stated x (Some Float44) h = stated_of x (shape_of Float44) _ (arrays_local (row_extents Float44) kind.Float) refl refl
shape_stated x (Some Floats) h = absurd (cc)
shape_stated x (Some Pairs) h = absurd (cc)
shape_stated x (Some Lattice) h = absurd (cc)
shape_stated x (Some Chromaticities) h = absurd (cc)

-- a function of the library gives a value whose shape stands, or none
pub row_stated : (x : Scene) (id : LibraryId) → StatedResult x (library_row id).result
row_stated x id = shape_stated x (row id).result (row_plain id)
