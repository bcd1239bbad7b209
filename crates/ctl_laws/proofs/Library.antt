-- The functions of the library do what their rows promise.
use Rattle.std.proofs.Common.{◌≡◌, ℕ, zero, suc, ℤ, pos, ◌≤◌, ◌+◌, ◌*◌, List, [], ◌∷◌, ◌++◌, map, length, Option, Some, None, Bool, true, false, not, ◌&&◌, ◌||◌, ◌==◌, if◌then◌else◌, refl, sym, ap, subst, ◌∙◌, arith, eq-eqb, eqb-true, leb-true, flat_map}
use Rattle.std.specs.Prelude.{All}
use Rattle.fix_num.specs.declared.TheConstants.{FRACTION}
use Rattle.fix_num.specs.Fixed.{IsRaw}
use Rattle.fix_num.specs.Half.{IsHalf, half_unit}
use Rattle.ctl_base.specs.declared.kind.Node.{Node}
use Rattle.ctl_base.specs.declared.kind.ScalarKind.{ScalarKind}
use Rattle.ctl_base.specs.declared.kind.ScalarKind.TheVariants as kind
use Rattle.ctl_stdlib.specs.declared.row.LibraryId.{LibraryId}
use Rattle.ctl_stdlib.specs.declared.row.LibraryId.TheVariants.{Exp, Log, Log10, Pow10, Sqrt, Fabs, Floor, Sin, Cos, Tan, Asin, Acos, Atan, Pow, Fmod, Hypot, Atan2, ExpH, LogH, Log10H, Pow10H, PowH, AddF3F3, SubtractF3F3, MultFF3, DotF3F3, CrossF3F3, LengthF3, MultF3F33, MultF3F44, MultF33F33, MultF44F44, MultFF33, MultFF44, AddF33F33, AddF44F44, TransposeF33, TransposeF44, InvertF33, InvertF44, Lookup1D, LookupCubic1D, Interpolate1D, InterpolateCubic1D, Lookup3DF3, Lookup3DF, RgbToXyz, XyzToRgb, Assert}
use Rattle.ctl_stdlib.specs.declared.row.RowShape.{RowShape}
use Rattle.ctl_stdlib.specs.declared.row.RowShape.TheVariants.{Bool as BoolShape, Half, Float, Float3, Float33, Float44, Floats, Pairs, Lattice, Chromaticities}
use Rattle.ctl_stdlib.specs.declared.row.Param.{Param}
use Rattle.ctl_stdlib.specs.Rows.{row}
use Rattle.ctl_stdlib.specs.Laws.{HalvesComeOut}
use Rattle.ctl_types.specs.declared.scalar.Scalar.{Scalar as ScalarForm}
use Rattle.ctl_types.specs.declared.shape.LocalShape.{LocalShape}
use Rattle.ctl_types.specs.declared.shape.Base.{Base}
use Rattle.ctl_types.specs.declared.shape.Base.TheVariants.{Scalar, Struct}
use Rattle.ctl_types.specs.declared.shape.Shape.{Shape}
use Rattle.ctl_types.specs.declared.program.Struct.{Struct as StructForm}
use Rattle.ctl_types.specs.declared.shape.Shape.{roll-Shape}
use Rattle.ctl_types.specs.declared.shape.Shape.TheOpen as shape_layer
use Rattle.ctl_types.specs.declared.shape.Shape.TheFolds.{fold-roll-Shape}
use Rattle.ctl_types.specs.declared.shape.Extent.{Extent}
use Rattle.ctl_types.specs.Shapes.{extents_step, base_of, base_step}
use Rattle.ctl_types.specs.Scalars.{scalar}
use Rattle.ctl_laws.proofs.Ranges.{half_within, scalar_fits, zero_range, raw_within}
use Rattle.ctl_types.specs.declared.row.RowParam.{RowParam}
use Rattle.ctl_types.specs.declared.value.Value.{Value}
use Rattle.ctl_types.specs.declared.value.Value.TheOpen as layer
use Rattle.ctl_types.specs.declared.value.Value.TheOpen.{Value-F}
use Rattle.ctl_types.specs.Scalars.{kind_of, word_of, same_kind, in_range}
use Rattle.ctl_types.specs.Shapes.{Whole, whole, whole_of, local, locals, extents, open_count, open_sizes_of, field_shapes}
use Rattle.ctl_types.specs.Values.{Env, one, list, fits, Fit, fit_one, fit_list, fit_fields, fit_step, all_fit, each_fit, flat, flat_step, Filled, Filling, fill_one, fill_all, fill_step, filled, scalars, sizes_fit, argument_fits, arguments_fit, takes}
use Rattle.ctl_types.specs.Shapes.{product}
use Rattle.ctl_types.specs.Values.{zero_of}
use Rattle.ctl_types.specs.Library.{result_of, result_from, outputs_from, shape_of, param_of, library_row, param_shapes, words_of, holds_table, holds_input, LibraryAnswer, Refused, Unfit, given_by, answered}
use Rattle.ctl_types.specs.Run.{library_came, library_run}
use Rattle.ctl_types.specs.Typing.{result_type, Formal, Signature, row_formals_from, row_signature}
use Rattle.ctl_types.specs.Pairs.{Pair, KeepsValue, value_pair}
use Rattle.ctl_laws.specs.Sound.{Of}
use Rattle.library_ranges.specs.Ranges.{RawsComeOut}
use Rattle.ctl_laws.proofs.Initialisers.{zero_fits}
use Rattle.ctl_laws.proofs.Values.{nothing_fits, scalars_nothing, both, and_true, kinds_same, fits_roll, map_length}
use Rattle.ctl_laws.proofs.Ranges.{Numbers, kind_raw}
use Rattle.ctl_laws.proofs.Around.{formal_shape, formal_shapes, Begins, DefaultsWell, CameWell, Serves, LibraryServes, Counts}

-- ---- shapes of rows

extents_scalar : (k : ScalarKind) → extents (roll-Shape (shape_layer.Scalar k)) ≡ []
extents_scalar k = fold-roll-Shape (List Extent) extents_step (shape_layer.Scalar k)

extents_array : (inner : Shape) (x : Extent) → extents (roll-Shape (shape_layer.Array inner x)) ≡ x ∷ extents inner
extents_array inner x = fold-roll-Shape (List Extent) extents_step (shape_layer.Array inner x)

base_scalar : (k : ScalarKind) → base_of (roll-Shape (shape_layer.Scalar k)) ≡ Scalar k
base_scalar k = fold-roll-Shape Base base_step (shape_layer.Scalar k)

base_array : (inner : Shape) (x : Extent) → base_of (roll-Shape (shape_layer.Array inner x)) ≡ base_of inner
base_array inner x = fold-roll-Shape Base base_step (shape_layer.Array inner x)

-- the kind of the words that a row fills
abbrev row_kind : Option RowShape → ScalarKind
row_kind None = kind.Float
row_kind (Some BoolShape) = kind.Float
row_kind (Some Half) = kind.Half
row_kind (Some Float) = kind.Float
row_kind (Some Float3) = kind.Float
row_kind (Some Float33) = kind.Float
row_kind (Some Float44) = kind.Float
row_kind (Some Floats) = kind.Float
row_kind (Some Pairs) = kind.Float
row_kind (Some Lattice) = kind.Float
row_kind (Some Chromaticities) = kind.Float

-- a result is a half or has floats, in stated sizes
abbrev result_plain : Option RowShape → Bool
result_plain None = true
result_plain (Some BoolShape) = false
result_plain (Some Half) = true
result_plain (Some Float) = true
result_plain (Some Float3) = true
result_plain (Some Float33) = true
result_plain (Some Float44) = true
result_plain (Some Floats) = false
result_plain (Some Pairs) = false
result_plain (Some Lattice) = false
result_plain (Some Chromaticities) = false

abbrev is_float : RowShape → Bool
is_float BoolShape = false
is_float Half = false
is_float Float = true
is_float Float3 = false
is_float Float33 = false
is_float Float44 = false
is_float Floats = false
is_float Pairs = false
is_float Lattice = false
is_float Chromaticities = false

-- outputs are floats
abbrev outputs_plain : ScalarKind → List Param → Bool
outputs_plain k [] = true
outputs_plain k (p ∷ params) = (not p.is_output || (is_float p.shape && same_kind kind.Float k)) && outputs_plain k params

pub row_plain : (id : LibraryId) → (result_plain (row id).result && outputs_plain (row_kind (row id).result) (row id).params) ≡ true
row_plain Exp = refl
row_plain Log = refl
row_plain Log10 = refl
row_plain Pow10 = refl
row_plain Sqrt = refl
row_plain Fabs = refl
row_plain Floor = refl
row_plain Sin = refl
row_plain Cos = refl
row_plain Tan = refl
row_plain Asin = refl
row_plain Acos = refl
row_plain Atan = refl
row_plain Pow = refl
row_plain Fmod = refl
row_plain Hypot = refl
row_plain Atan2 = refl
row_plain ExpH = refl
row_plain LogH = refl
row_plain Log10H = refl
row_plain Pow10H = refl
row_plain PowH = refl
row_plain AddF3F3 = refl
row_plain SubtractF3F3 = refl
row_plain MultFF3 = refl
row_plain DotF3F3 = refl
row_plain CrossF3F3 = refl
row_plain LengthF3 = refl
row_plain MultF3F33 = refl
row_plain MultF3F44 = refl
row_plain MultF33F33 = refl
row_plain MultF44F44 = refl
row_plain MultFF33 = refl
row_plain MultFF44 = refl
row_plain AddF33F33 = refl
row_plain AddF44F44 = refl
row_plain TransposeF33 = refl
row_plain TransposeF44 = refl
row_plain InvertF33 = refl
row_plain InvertF44 = refl
row_plain Lookup1D = refl
row_plain LookupCubic1D = refl
row_plain Interpolate1D = refl
row_plain InterpolateCubic1D = refl
row_plain Lookup3DF3 = refl
row_plain Lookup3DF = refl
row_plain RgbToXyz = refl
row_plain XyzToRgb = refl
row_plain Assert = refl

-- ---- words in range

abbrev pub Each : (ℤ → Type 0) → List ℤ → Type 0
Each P [] = Unit {0}
Each P (w ∷ ws) = P w × Each P ws

each_append : (P : ℤ → Type 0) (xs ys : List ℤ) → Each P xs → Each P ys → Each P (xs ++ ys)
each_append P [] ys h k = k
each_append P (x ∷ xs) ys h k = (h.0, each_append P xs ys h.1 k)

to_all : (P : ℤ → Type 0) (xs : List ℤ) → Each P xs → All P xs
to_all P [] h k d l = absurd (omega arith)
to_all P (x ∷ xs) h zero d l = h.0
to_all P (x ∷ xs) h (suc k) d l = to_all P xs h.1 k d (omega arith)

from_all : (P : ℤ → Type 0) (xs : List ℤ) → All P xs → Each P xs
from_all P [] h = tt
from_all P (x ∷ xs) h = (h zero (pos 0) (omega arith), from_all P xs (λ k d l. h (suc k) d (omega arith)))

each_more : (P Q : ℤ → Type 0) (xs : List ℤ) → ((x : ℤ) → P x → Q x) → Each P xs → Each Q xs
each_more P Q [] f h = tt
each_more P Q (x ∷ xs) f h = (f x h.0, each_more P Q xs f h.1)

abbrev AllIn : ScalarKind → List ℤ → Type 0
AllIn k ws = Each (λ (z : ℤ). in_range FRACTION k z ≡ true) ws

module _ (n : Numbers) (structs : List StructForm) where
  abbrev HasRaws : Fit → List ℤ → Type 0
  HasRaws fit ws = (sizes : List ℕ) (base : Option Base) → fit sizes base ≡ true → Each IsRaw ws

  all_raws : (ps : List (Pair HasRaws)) (sizes : List ℕ) (base : Option Base) → all_fit (map (λ (e : Pair HasRaws). e.0) ps) sizes base ≡ true → Each IsRaw (flat_map (λ (w : List ℤ). w) (map (λ (e : Pair HasRaws). e.1) ps))
  all_raws [] sizes base h = tt
  all_raws (p ∷ ps) sizes base h = let b = both (p.0 sizes base) _ h in each_append IsRaw p.1 (flat_map (λ (w : List ℤ). w) (map (λ (e : Pair HasRaws). e.1) ps)) (p.2 sizes base b.0) (all_raws ps sizes base b.1)

  each_raws : (ps : List (Pair HasRaws)) (shapes : List Shape) → each_fit (map (λ (e : Pair HasRaws). e.0) ps) shapes ≡ true → Each IsRaw (flat_map (λ (w : List ℤ). w) (map (λ (e : Pair HasRaws). e.1) ps))
  each_raws [] shapes h = tt
  each_raws (p ∷ ps) [] h = absurd (cc)
  each_raws (p ∷ ps) (s ∷ shapes) h = let b = both (p.0 (whole_of s).sizes (whole_of s).base) _ h in each_append IsRaw p.1 (flat_map (λ (w : List ℤ). w) (map (λ (e : Pair HasRaws). e.1) ps)) (p.2 (whole_of s).sizes (whole_of s).base b.0) (each_raws ps shapes b.1)

  one_raw : (s : ScalarForm) (sizes : List ℕ) (base : Option Base) → fit_one s sizes base ≡ true → Each IsRaw (word_of s ∷ [])
  one_raw s [] (Some (Scalar k)) h = (kind_raw n k (word_of s) (both (same_kind (kind_of s) k) _ h).1, tt)
  one_raw s [] (Some (Struct m)) h = absurd (cc)
  one_raw s [] None h = absurd (cc)
  one_raw s (m ∷ sizes) base h = absurd (cc)

  list_raws : (ps : List (Pair HasRaws)) (sizes : List ℕ) (base : Option Base) → fit_list (map (λ (e : Pair HasRaws). e.0) ps) sizes base ≡ true → Each IsRaw (flat_map (λ (w : List ℤ). w) (map (λ (e : Pair HasRaws). e.1) ps))
  list_raws ps [] base h = absurd (cc)
  list_raws ps (m ∷ sizes) base h = all_raws ps sizes base (both (length (map (λ (e : Pair HasRaws). e.0) ps) == m) _ h).1

  fields_raws : (ps : List (Pair HasRaws)) (sizes : List ℕ) (base : Option Base) → fit_fields structs (map (λ (e : Pair HasRaws). e.0) ps) sizes base ≡ true → Each IsRaw (flat_map (λ (w : List ℤ). w) (map (λ (e : Pair HasRaws). e.1) ps))
  fields_raws ps [] None h = each_raws ps [] h
  fields_raws ps [] (Some (Scalar k)) h = absurd (cc)
  fields_raws ps [] (Some (Struct m)) h = each_raws ps (field_shapes structs m) h
  fields_raws ps (m ∷ sizes) base h = absurd (cc)

  keeps_raws : KeepsValue HasRaws (fit_step structs) flat_step
  keeps_raws (layer.One s) sizes base h = one_raw s sizes base h
  keeps_raws (layer.List ps) sizes base h = list_raws ps sizes base h
  keeps_raws (layer.Fields ps) sizes base h = fields_raws ps sizes base h

  flat_raw : (v : Value) (sizes : List ℕ) (base : Option Base) → fits structs v sizes base ≡ true → Each IsRaw (flat v)
  flat_raw v sizes base h = value_pair HasRaws (fit_step structs) flat_step keeps_raws v sizes base h

  choose : (b : Bool) (xs ys : List ℤ) → Each IsRaw xs → Each IsRaw ys → Each IsRaw (if b then xs else ys)
  choose true xs ys h k = h
  choose false xs ys h k = k

  words_raw : (chosen : Param → Bool) (params : List Param) (opens : List ℕ) (shapes : List LocalShape) (frame : Env) → arguments_fit structs opens shapes frame ≡ true → Each IsRaw (words_of chosen params frame)
  words_raw chosen [] opens shapes frame h = tt
  words_raw chosen (p ∷ params) opens shapes [] h = tt
  words_raw chosen (p ∷ params) opens [] (o ∷ frame) h = absurd (cc)
  words_raw chosen (p ∷ params) opens (s ∷ shapes) (None ∷ frame) h = absurd (cc)
  words_raw chosen (p ∷ params) opens (s ∷ shapes) (Some v ∷ frame) h =
      let b = both (argument_fits structs opens s v) _ h in
      let f = (both (fits structs v (whole opens s.sizes (Some s.base)).sizes (Some s.base)) _ b.0).0 in
      let rest = words_raw chosen params opens shapes frame b.1 in
      choose (chosen p) (flat v ++ words_of chosen params frame) (words_of chosen params frame) (each_append IsRaw (flat v) (words_of chosen params frame) (flat_raw v _ _ f) rest) rest

  -- ---- values with other words

  module _ (k : ScalarKind) where
    abbrev FillsIn : Fit → Filling → Type 0
    FillsIn fit fill = (sizes : List ℕ) (words : List ℤ) → fit sizes (Some (Scalar k)) ≡ true → AllIn k words → (fits structs (fill words).value sizes (Some (Scalar k)) ≡ true) × AllIn k (fill words).rest

    one_fills : (s : ScalarForm) (sizes : List ℕ) (words : List ℤ) → fit_one s sizes (Some (Scalar k)) ≡ true → AllIn k words → (fits structs (fill_one s words).value sizes (Some (Scalar k)) ≡ true) × AllIn k (fill_one s words).rest
    one_fills s (m ∷ sizes) words h a = absurd (cc)
    one_fills s [] [] h a = (fits_roll structs (layer.One s) [] (Some (Scalar k)) ∙ h, tt)
    one_fills s [] (w ∷ words) h a =
        let e = kinds_same _ _ (both (same_kind (kind_of s) k) _ h).0 in
        (subst (λ (l : ScalarKind). fits structs (one (scalar l w)) [] (Some (Scalar k)) ≡ true) (sym e) (scalar_fits structs k w a.0), a.1)

    all_fill : (ps : List (Pair FillsIn)) (sizes : List ℕ) (words : List ℤ) → all_fit (map (λ (e : Pair FillsIn). e.0) ps) sizes (Some (Scalar k)) ≡ true → AllIn k words → (all_fit (map (fits structs) (fill_all (map (λ (e : Pair FillsIn). e.1) ps) words).value) sizes (Some (Scalar k)) ≡ true) × (length (fill_all (map (λ (e : Pair FillsIn). e.1) ps) words).value ≡ length ps) × AllIn k (fill_all (map (λ (e : Pair FillsIn). e.1) ps) words).rest
    all_fill [] sizes words h a = (refl, refl, a)
    all_fill (p ∷ ps) sizes words h a =
        let b = both (p.0 sizes (Some (Scalar k))) _ h in
        let first = p.2 sizes words b.0 a in
        let rest = all_fill ps sizes (p.1 words).rest b.1 first.1 in
        (and_true (fits structs (p.1 words).value sizes (Some (Scalar k))) _ first.0 rest.0, ap suc rest.1, rest.2)

    list_fills : (ps : List (Pair FillsIn)) (sizes : List ℕ) (words : List ℤ) → fit_list (map (λ (e : Pair FillsIn). e.0) ps) sizes (Some (Scalar k)) ≡ true → AllIn k words → (fits structs (list (fill_all (map (λ (e : Pair FillsIn). e.1) ps) words).value) sizes (Some (Scalar k)) ≡ true) × AllIn k (fill_all (map (λ (e : Pair FillsIn). e.1) ps) words).rest
    list_fills ps [] words h a = absurd (cc)
    list_fills ps (m ∷ sizes) words h a =
        let b = both (length (map (λ (e : Pair FillsIn). e.0) ps) == m) _ h in
        let r = all_fill ps sizes words b.1 a in
        let vs = (fill_all (map (λ (e : Pair FillsIn). e.1) ps) words).value in
        let l : length (map (fits structs) vs) ≡ m = map_length (fits structs) vs ∙ r.1 ∙ sym (map_length (λ (e : Pair FillsIn). e.0) ps) ∙ eqb-true _ _ b.0 in
        (fits_roll structs (layer.List vs) (m ∷ sizes) (Some (Scalar k)) ∙ and_true (length (map (fits structs) vs) == m) _ (eq-eqb _ _ l) r.0, r.2)

    fields_fill : (ps : List (Pair FillsIn)) (sizes : List ℕ) → fit_fields structs (map (λ (e : Pair FillsIn). e.0) ps) sizes (Some (Scalar k)) ≡ true → ⊥
    fields_fill ps [] h = cc
    fields_fill ps (m ∷ sizes) h = cc

    keeps_fill : KeepsValue FillsIn (fit_step structs) fill_step
    keeps_fill (layer.One s) sizes words h a = one_fills s sizes words h a
    keeps_fill (layer.List ps) sizes words h a = list_fills ps sizes words h a
    keeps_fill (layer.Fields ps) sizes words h a = absurd (fields_fill ps sizes h)

    filled_fits : (v : Value) (sizes : List ℕ) (words : List ℤ) → fits structs v sizes (Some (Scalar k)) ≡ true → AllIn k words → (fits structs (filled v words).value sizes (Some (Scalar k)) ≡ true) × AllIn k (filled v words).rest
    filled_fits v sizes words h a = value_pair FillsIn (fit_step structs) fill_step keeps_fill v sizes words h a

-- ---- rows

abbrev shapes_of : List Param → List Shape
shapes_of params = map (λ (p : Param). shape_of p.shape) params

row_locals : (k : ℕ) (params : List Param) → locals k (shapes_of params) ≡ formal_shapes (row_formals_from k (map param_of params))
row_locals k [] = refl
row_locals k (p ∷ params) = ap (λ rest. local k (shape_of p.shape) ∷ rest) (row_locals (k + open_count (extents (shape_of p.shape))) params)

row_shapes : (params : List Param) → map (λ (q : RowParam). q.shape) (map param_of params) ≡ shapes_of params
row_shapes [] = refl
row_shapes (p ∷ params) = ap (λ rest. shape_of p.shape ∷ rest) (row_shapes params)

no_defaults : (structs : List StructForm) (k : ℕ) (params : List RowParam) → DefaultsWell structs (row_formals_from k params) []
no_defaults structs k [] = tt
no_defaults structs k (p ∷ params) = (refl, no_defaults structs (k + open_count (extents p.shape)) params)

-- what is made of floats is of floats
float_base : (shape : RowShape) → is_float shape ≡ true → base_of (shape_of shape) ≡ Scalar kind.Float
float_base BoolShape h = absurd (cc)
float_base Half h = absurd (cc)
float_base Float h = base_scalar kind.Float
float_base Float3 h = absurd (cc)
float_base Float33 h = absurd (cc)
float_base Float44 h = absurd (cc)
float_base Floats h = absurd (cc)
float_base Pairs h = absurd (cc)
float_base Lattice h = absurd (cc)
float_base Chromaticities h = absurd (cc)

module _ (n : Numbers) (structs : List StructForm) (counts : Counts structs) where
  -- a result of scalars of a kind, with the words in its place
  abbrev Filled-well : Whole → ScalarKind → Filled Value → Type 0
  Filled-well w k f = Of structs w f.value × AllIn k f.rest

  zero_filled : (k : ScalarKind) (sizes : List ℕ) (words : List ℤ) → product sizes ≤ 16 → AllIn k words → Filled-well (record { sizes = sizes; base = Some (Scalar k) }) k (filled (zero_of [] sizes (Scalar k)) words)
  zero_filled k sizes words few a =
      let z = zero_fits structs [] sizes (Scalar k) (scalar_fits structs k (pos 0) (zero_range n k)) in
      let f = filled_fits n structs k (zero_of [] sizes (Scalar k)) sizes words z a in
      let c : scalars (filled (zero_of [] sizes (Scalar k)) words).value ≡ product sizes * 1 = counts (filled (zero_of [] sizes (Scalar k)) words).value sizes (Scalar k) f.0 in
      ((f.0, (omega arith)), f.1)

  result_right : (opens : List ℕ) (o : Option RowShape) (words : List ℤ) → result_plain o ≡ true → AllIn (row_kind o) words → Filled-well (whole opens (result_type (result_of o)).sizes (result_type (result_of o)).base) (row_kind o) (result_from o words)
  result_right opens None words h a = ((nothing_fits structs, let z = scalars_nothing in omega arith), a)
  result_right opens (Some BoolShape) words h a = absurd (cc)
  result_right opens (Some Half) words h a = subst (λ (w : Whole). Filled-well w kind.Half (result_from (Some Half) words)) (sym same) (zero_filled kind.Half [] words (omega arith) a) where
    same : whole opens (result_type (result_of (Some Half))).sizes (result_type (result_of (Some Half))).base ≡ record { sizes = []; base = Some (Scalar kind.Half) }
    same = simp (extents_scalar, base_scalar) refl
  result_right opens (Some Float) words h a = subst (λ (w : Whole). Filled-well w kind.Float (result_from (Some Float) words)) (sym same) (zero_filled kind.Float [] words (omega arith) a) where
    same : whole opens (result_type (result_of (Some Float))).sizes (result_type (result_of (Some Float))).base ≡ record { sizes = []; base = Some (Scalar kind.Float) }
    same = simp (extents_scalar, base_scalar) refl
  result_right opens (Some Float3) words h a = subst (λ (w : Whole). Filled-well w kind.Float (result_from (Some Float3) words)) (sym same) (zero_filled kind.Float (3 ∷ []) words (omega arith) a) where
    same : whole opens (result_type (result_of (Some Float3))).sizes (result_type (result_of (Some Float3))).base ≡ record { sizes = 3 ∷ []; base = Some (Scalar kind.Float) }
    same = simp (extents_scalar, extents_array, base_scalar, base_array) refl
  result_right opens (Some Float33) words h a = subst (λ (w : Whole). Filled-well w kind.Float (result_from (Some Float33) words)) (sym same) (zero_filled kind.Float (3 ∷ 3 ∷ []) words (omega arith) a) where
    same : whole opens (result_type (result_of (Some Float33))).sizes (result_type (result_of (Some Float33))).base ≡ record { sizes = 3 ∷ 3 ∷ []; base = Some (Scalar kind.Float) }
    same = simp (extents_scalar, extents_array, base_scalar, base_array) refl
  result_right opens (Some Float44) words h a = subst (λ (w : Whole). Filled-well w kind.Float (result_from (Some Float44) words)) (sym same) (zero_filled kind.Float (4 ∷ 4 ∷ []) words (omega arith) a) where
    same : whole opens (result_type (result_of (Some Float44))).sizes (result_type (result_of (Some Float44))).base ≡ record { sizes = 4 ∷ 4 ∷ []; base = Some (Scalar kind.Float) }
    same = simp (extents_scalar, extents_array, base_scalar, base_array) refl
  result_right opens (Some Floats) words h a = absurd (cc)
  result_right opens (Some Pairs) words h a = absurd (cc)
  result_right opens (Some Lattice) words h a = absurd (cc)
  result_right opens (Some Chromaticities) words h a = absurd (cc)

  output_right : (opens : List ℕ) (g : Formal) (k : ScalarKind) (v : Value) (words : List ℤ) → g.shape.base ≡ Scalar k → Of structs (formal_shape opens g) v → AllIn k words → Filled-well (formal_shape opens g) k (filled v words)
  output_right opens g k v words e f a =
      let h : fits structs v (formal_shape opens g).sizes (Some (Scalar k)) ≡ true = subst (λ (b : Base). fits structs v (formal_shape opens g).sizes (Some b) ≡ true) e f.0 in
      let r = filled_fits n structs k v (formal_shape opens g).sizes words h a in
      let fit : fits structs (filled v words).value (formal_shape opens g).sizes (Some g.shape.base) ≡ true = subst (λ (b : Base). fits structs (filled v words).value (formal_shape opens g).sizes (Some b) ≡ true) (sym e) r.0 in
      let c : scalars (filled v words).value ≡ scalars v = counts (filled v words).value (formal_shape opens g).sizes g.shape.base fit ∙ sym (counts v (formal_shape opens g).sizes g.shape.base f.0) in
      ((fit, let l = f.1 in omega arith), r.1)

  outputs_right : (opens : List ℕ) (j : ℕ) (k : ScalarKind) (params : List Param) (frame : Env) (words : List ℤ) → outputs_plain k params ≡ true → arguments_fit structs opens (formal_shapes (row_formals_from j (map param_of params))) frame ≡ true → AllIn k words → Begins structs opens (row_formals_from j (map param_of params)) (outputs_from params frame words)
  outputs_right opens j k [] frame words w f a = tt
  outputs_right opens j k (p ∷ params) [] words w f a = absurd (cc)
  outputs_right opens j k (p ∷ params) (None ∷ frame) words w f a = absurd (cc)
  outputs_right opens j k (p ∷ params) (Some v ∷ frame) words w f a =
      let b = both (argument_fits structs opens (local j (shape_of p.shape)) v) _ f in
      let c = both (fits structs v (whole opens (local j (shape_of p.shape)).sizes (Some (local j (shape_of p.shape)).base)).sizes (Some (local j (shape_of p.shape)).base)) _ b.0 in
      let d = both (not p.is_output || (is_float p.shape && same_kind kind.Float k)) _ w in
      let next = j + open_count (extents (shape_of p.shape)) in
      by p.is_output d.0 (c.0, leb-true _ _ c.1) (λ words a. outputs_right opens next k params frame words d.1 b.1 a) where
        by : (t : Bool) → (not t || (is_float p.shape && same_kind kind.Float k)) ≡ true → Of structs (whole opens (local j (shape_of p.shape)).sizes (Some (local j (shape_of p.shape)).base)) v → ((words : List ℤ) → AllIn k words → Begins structs opens (row_formals_from (j + open_count (extents (shape_of p.shape))) (map param_of params)) (outputs_from params frame words)) → Begins structs opens (row_formals_from j (map param_of (p ∷ params))) (if t then Some (filled v words).value ∷ outputs_from params frame (filled v words).rest else Some v ∷ outputs_from params frame words)
        by true h o rest =
            let e = both (is_float p.shape) _ h in
            let q : kind.Float ≡ k = kinds_same _ _ e.1 in
            let g : Formal = record { shape = local j (shape_of p.shape); is_output = p.is_output; default = None } in
            let r = output_right opens g k v words (float_base p.shape e.0 ∙ ap Scalar q) o a in
            (r.0, rest (filled v words).rest r.1)
        by false h o rest = (o, rest words a)

  words_in : RawsComeOut → HalvesComeOut → (id : LibraryId) (opens : List ℕ) (table args : List ℤ) → Each IsRaw table → Each IsRaw args → AllIn (row_kind (row id).result) ((row id).value FRACTION opens table args)
  words_in raws halves id opens table args h k = by (row id).result refl where
    out : Each IsRaw ((row id).value FRACTION opens table args)
    out = from_all IsRaw ((row id).value FRACTION opens table args) (raws id opens table args (to_all IsRaw table h) (to_all IsRaw args k))

    floats : AllIn kind.Float ((row id).value FRACTION opens table args)
    floats = each_more IsRaw (λ (z : ℤ). in_range FRACTION kind.Float z ≡ true) ((row id).value FRACTION opens table args) raw_within out

    by : (o : Option RowShape) → (row id).result ≡ o → AllIn (row_kind o) ((row id).value FRACTION opens table args)
    by None e = floats
    by (Some BoolShape) e = floats
    by (Some Half) e = each_more (IsHalf (half_unit FRACTION)) (λ (z : ℤ). in_range FRACTION kind.Half z ≡ true) ((row id).value FRACTION opens table args) (half_within n) (from_all (IsHalf (half_unit FRACTION)) ((row id).value FRACTION opens table args) (halves FRACTION (omega arith) id e opens table args))
    by (Some Float) e = floats
    by (Some Float3) e = floats
    by (Some Float33) e = floats
    by (Some Float44) e = floats
    by (Some Floats) e = floats
    by (Some Pairs) e = floats
    by (Some Lattice) e = floats
    by (Some Chromaticities) e = floats

module _ (C : Type 0) (pay : ℕ → C → C) (n : Numbers) (structs : List StructForm) (counts : Counts structs) (raws : RawsComeOut) (halves : HalvesComeOut) (id : LibraryId) (node : Node) where
  abbrev signature : Signature
  signature = row_signature (library_row id)

  given_right : (opens : List ℕ) (frame : Env) (args : List ℤ) (turns : ℕ) (spent : C) → arguments_fit structs opens (formal_shapes signature.formals) frame ≡ true → Each IsRaw args → CameWell {C = C} {pay = pay} structs opens signature (library_came C pay node turns spent (given_by id frame ((row id).value FRACTION opens (words_of holds_table (row id).params frame) args)))
  given_right opens frame args turns spent fit a =
      let table = words_raw n structs holds_table (row id).params opens (formal_shapes signature.formals) frame fit in
      let words = words_in n structs counts raws halves id opens (words_of holds_table (row id).params frame) args table a in
      let b = both (result_plain (row id).result) _ (row_plain id) in
      let r = result_right n structs counts opens (row id).result ((row id).value FRACTION opens (words_of holds_table (row id).params frame) args) b.0 words in
      (r.0, outputs_right n structs counts opens 0 (row_kind (row id).result) (row id).params frame (result_from (row id).result ((row id).value FRACTION opens (words_of holds_table (row id).params frame) args)).rest b.1 fit r.1)

  answered_right : (b : Bool) (opens : List ℕ) (turns : ℕ) (spent : C) (answer : LibraryAnswer) → CameWell {C = C} {pay = pay} structs opens signature (library_came C pay node turns spent answer) → CameWell {C = C} {pay = pay} structs opens signature (library_came C pay node turns spent (if b then answer else Refused))
  answered_right true opens turns spent answer c = c
  answered_right false opens turns spent answer c = tt

  taken_right : (b : Bool) (opens : List ℕ) (turns : ℕ) (spent : C) (answer : LibraryAnswer) → b ≡ true → CameWell {C = C} {pay = pay} structs opens signature (library_came C pay node turns spent answer) → CameWell {C = C} {pay = pay} structs opens signature (library_came C pay node turns spent (if b then answer else Unfit))
  taken_right true opens turns spent answer e c = c
  taken_right false opens turns spent answer e c = absurd (cc)

  pub row_serves : Serves {C = C} {pay = pay} structs signature (record { defaults = []; run = library_run C pay structs id node })
  row_serves = record {
    defaults = no_defaults structs 0 (map param_of (row id).params);
    run = λ opens frame turns spent count sizes fit.
        let fit2 : arguments_fit structs opens (locals 0 (param_shapes id)) frame ≡ true = subst (λ (shapes : List LocalShape). arguments_fit structs opens shapes frame ≡ true) (sym (row_locals 0 (row id).params)) fit in
        let count2 : length opens ≡ open_sizes_of (param_shapes id) = count ∙ ap open_sizes_of (row_shapes (row id).params) in
        let take : takes structs (param_shapes id) opens frame ≡ true = and_true (length opens == open_sizes_of (param_shapes id) && sizes_fit opens) _ (and_true (length opens == open_sizes_of (param_shapes id)) _ (eq-eqb _ _ count2) sizes) fit2 in
        let args = words_of holds_input (row id).params frame in
        let raw = words_raw n structs holds_input (row id).params opens (formal_shapes signature.formals) frame fit in
        taken_right (takes structs (param_shapes id) opens frame) opens turns spent (answered id opens frame args) take (answered_right ((row id).answer args) opens turns spent _ (given_right opens frame args turns spent fit raw));
  }

pub library_serves : {C : Type 0} {pay : ℕ → C → C} → Numbers → RawsComeOut → HalvesComeOut → (structs : List StructForm) → Counts structs → LibraryServes C pay structs
library_serves {C} {pay} n raws halves structs counts id node = row_serves C pay n structs counts raws halves id node
