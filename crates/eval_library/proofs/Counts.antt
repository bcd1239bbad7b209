-- How many words the values have that fit scalars, arrays of scalars, and the struct of four points.
use Rattle.std.proofs.Common.{◌≡◌, ℕ, suc, ℤ, ◌+◌, ◌*◌, List, [], ◌∷◌, map, length, Option, Some, Bool, true, false, ◌&&◌, refl, ap, sym, ◌∙◌, arith, flat_map, slice_get}
use Rattle.std.proofs.lemmas.List.{length-append}
use Rattle.std.proofs.lemmas.List.Folds.{flat_map-map}
use Rattle.std.proofs.lemmas.Bool.{eqb-true}
use Rattle.ctl_base.specs.declared.kind.ScalarKind.{ScalarKind}
use Rattle.ctl_base.specs.declared.kind.ScalarKind.TheVariants as kind
use Rattle.ctl_types.specs.declared.shape.Base.{Base}
use Rattle.ctl_types.specs.declared.shape.Base.TheVariants.{Scalar, Struct}
use Rattle.ctl_types.specs.declared.shape.Shape.{Shape}
use Rattle.ctl_types.specs.declared.scalar.Scalar.{Scalar as ScalarForm}
use Rattle.ctl_types.specs.declared.scalar.Scalar.TheVariants as scalar_form
use Rattle.ctl_types.specs.Scalars.{word_of}
use Rattle.ctl_types.specs.declared.value.Value.{Value, roll-Value, out-Value}
use Rattle.ctl_types.specs.declared.value.Value.TheViews.{roll-out-Value}
use Rattle.ctl_types.specs.declared.value.Value.TheFolds.{map-Value, fold-roll-Value}
use Rattle.ctl_types.specs.declared.value.Value.TheOpen as layer
use Rattle.ctl_types.specs.declared.value.Value.TheOpen.{Value-F}
use Rattle.ctl_types.specs.declared.program.Struct.{Struct as StructForm}
use Rattle.ctl_types.specs.Definitions.{chromaticities}
use Rattle.ctl_types.specs.Shapes.{whole_of, product, field_shapes, field_shapes_in}
use Rattle.ctl_types.specs.Values.{one, Fit, fit_one, fit_list, fit_fields, fit_step, fits, flat_step, flat, flat_all, all_fit, each_fit}
use Rattle.ctl_types.specs.Pairs.{Pair, value_pair}
use Rattle.eval_library.proofs.RowShapes.{extents_pair, base_pair}

pub both : (a b : Bool) → (a && b) ≡ true → (a ≡ true) × (b ≡ true)
both true b h = (refl, h)
both false b h = absurd (cc)

long : {A B : Type 0} (f : A → B) (xs : List A) → length (map f xs) ≡ length xs
long f [] = refl
long f (x ∷ xs) = ap suc (long f xs)

module _ (structs : List StructForm) where
  abbrev Counted : Fit → List ℤ → Type 0
  Counted fit ws = (sizes : List ℕ) (k : ScalarKind) → fit sizes (Some (Scalar k)) ≡ true → length ws ≡ product sizes

  all_counted : (ps : List (Pair Counted)) (sizes : List ℕ) (k : ScalarKind) → all_fit (map (λ (e : Pair Counted). e.0) ps) sizes (Some (Scalar k)) ≡ true → length (flat_map (λ (w : List ℤ). w) (map (λ (e : Pair Counted). e.1) ps)) ≡ length ps * product sizes
  all_counted [] sizes k h = omega arith
  all_counted (p ∷ ps) sizes k h =
      let q = both _ _ h in
      let first = p.2 sizes k q.0 in
      let rest = all_counted ps sizes k q.1 in
      let next : product sizes + length ps * product sizes ≡ suc (length ps) * product sizes = omega arith in
      length-append p.1 (flat_map (λ (w : List ℤ). w) (map (λ (e : Pair Counted). e.1) ps)) ∙ ap (λ n. n + length (flat_map (λ (w : List ℤ). w) (map (λ (e : Pair Counted). e.1) ps))) first ∙ ap (λ n. product sizes + n) rest ∙ next

  keeps_one : (x : ScalarForm) → Counted (fit_one x) (word_of x ∷ [])
  keeps_one x = λ sizes k. single sizes k where
    single : (sizes : List ℕ) (k : ScalarKind) → fit_one x sizes (Some (Scalar k)) ≡ true → 1 ≡ product sizes
    single [] k h = refl
    single (m ∷ sizes) k h = absurd (cc)

  keeps_list : (ps : List (Pair Counted)) (sizes : List ℕ) (k : ScalarKind) → fit_list (map (λ (e : Pair Counted). e.0) ps) sizes (Some (Scalar k)) ≡ true → length (flat_map (λ (w : List ℤ). w) (map (λ (e : Pair Counted). e.1) ps)) ≡ product sizes
  keeps_list ps [] k h = absurd (cc)
  keeps_list ps (m ∷ sizes) k h =
      let q = both _ _ h in
      let count : length (map (λ (e : Pair Counted). e.0) ps) ≡ m = eqb-true _ m q.0 in
      let each : length ps ≡ m = sym (long (λ (e : Pair Counted). e.0) ps) ∙ count in
      all_counted ps sizes k q.1 ∙ ap (λ n. n * product sizes) each

  keeps_fields : (ps : List (Pair Counted)) (sizes : List ℕ) (k : ScalarKind) → fit_fields structs (map (λ (e : Pair Counted). e.0) ps) sizes (Some (Scalar k)) ≡ true → length (flat_map (λ (w : List ℤ). w) (map (λ (e : Pair Counted). e.1) ps)) ≡ product sizes
  keeps_fields ps [] k h = absurd (cc)
  keeps_fields ps (m ∷ sizes) k h = absurd (cc)

  keeps : (y : Value-F (Pair Counted)) → Counted (fit_step structs (map-Value (Pair Counted) Fit (λ e. e.0) y)) (flat_step (map-Value (Pair Counted) (List ℤ) (λ e. e.1) y))
  keeps (layer.One x) = keeps_one x
  keeps (layer.List ps) = keeps_list ps
  keeps (layer.Fields ps) = keeps_fields ps

  -- an array of scalars has as many words as its sizes say
  pub scalars_counted : (v : Value) (sizes : List ℕ) (k : ScalarKind) → fits structs v sizes (Some (Scalar k)) ≡ true → length (flat v) ≡ product sizes
  scalars_counted v = value_pair Counted (fit_step structs) flat_step keeps v

  -- ---- by the form of a value

  fits_roll : (x : Value-F Value) (sizes : List ℕ) (base : Option Base) → fits structs (roll-Value x) sizes base ≡ fit_step structs (map-Value Value Fit (fits structs) x) sizes base
  fits_roll x sizes base = ap (λ (f : Fit). f sizes base) (fold-roll-Value Fit (fit_step structs) x)

  by_form : (v : Value) (sizes : List ℕ) (base : Option Base) → fits structs v sizes base ≡ true → fit_step structs (map-Value Value Fit (fits structs) (out-Value v)) sizes base ≡ true
  by_form v sizes base h = sym (fits_roll (out-Value v) sizes base) ∙ ap (λ v. fits structs v sizes base) (roll-out-Value v) ∙ h

  -- a value that fits a float is one
  pub float_is : (v : Value) → fits structs v [] (Some (Scalar kind.Float)) ≡ true → (z : ℤ) × (Some v ≡ Some (one (scalar_form.Float z)))
  float_is v h = by (out-Value v) (roll-out-Value v) (by_form v [] (Some (Scalar kind.Float)) h) where
    scalar_case : (s : ScalarForm) → roll-Value (layer.One s) ≡ v → fit_one s [] (Some (Scalar kind.Float)) ≡ true → (z : ℤ) × (Some v ≡ Some (one (scalar_form.Float z)))
    scalar_case (scalar_form.Bool b) e q = absurd (cc)
    scalar_case (scalar_form.Int z) e q = absurd (cc)
    scalar_case (scalar_form.Unsigned n) e q = absurd (cc)
    scalar_case (scalar_form.Half z) e q = absurd (cc)
    scalar_case (scalar_form.Float z) e q = (z, ap Some (sym e))

    by : (x : Value-F Value) → roll-Value x ≡ v → fit_step structs (map-Value Value Fit (fits structs) x) [] (Some (Scalar kind.Float)) ≡ true → (z : ℤ) × (Some v ≡ Some (one (scalar_form.Float z)))
    by (layer.One s) e q = scalar_case s e q
    by (layer.List vs) e q = absurd (cc)
    by (layer.Fields vs) e q = absurd (cc)

  -- ---- the struct of four points

  flat_fields : (vs : List Value) → flat (roll-Value (layer.Fields vs)) ≡ flat_all vs
  flat_fields vs = fold-roll-Value (List ℤ) flat_step (layer.Fields vs) ∙ flat_map-map (λ w. w) flat vs

  pair_counted : (s : Shape) (v : Value) → (whole_of s).sizes ≡ 2 ∷ [] → (whole_of s).base ≡ Some (Scalar kind.Float) → fits structs v (whole_of s).sizes (whole_of s).base ≡ true → length (flat v) ≡ 2
  pair_counted s v n b h = scalars_counted v (2 ∷ []) kind.Float (sym (ap (λ l. fits structs v l (whole_of s).base) n ∙ ap (fits structs v (2 ∷ [])) b) ∙ h)

  -- shapes of two floats
  abbrev Points : List Shape → Type 0
  Points [] = Unit {0}
  Points (s ∷ shapes) = (((whole_of s).sizes ≡ 2 ∷ []) × ((whole_of s).base ≡ Some (Scalar kind.Float))) × Points shapes

  points_counted : (vs : List Value) (shapes : List Shape) → Points shapes → each_fit (map (fits structs) vs) shapes ≡ true → length (flat_all vs) ≡ 2 * length shapes
  points_counted [] [] p h = refl
  points_counted [] (s ∷ shapes) p h = absurd (cc)
  points_counted (v ∷ vs) [] p h = absurd (cc)
  points_counted (v ∷ vs) (s ∷ shapes) p h =
      let q = both _ _ h in
      let first = pair_counted s v p.0.0 p.0.1 q.0 in
      let rest = points_counted vs shapes p.1 q.1 in
      let all = length-append (flat v) (flat_all vs) in
      omega arith

  pub struct_counted : (v : Value) → slice_get structs 0 ≡ Some chromaticities → fits structs v [] (Some (Struct 0)) ≡ true → length (flat v) ≡ 8
  struct_counted v library h = by (out-Value v) (roll-out-Value v) (by_form v [] (Some (Struct 0)) h) where
    shapes_are : field_shapes structs 0 ≡ field_shapes_in (Some chromaticities)
    shapes_are = ap field_shapes_in library

    points : Points (field_shapes_in (Some chromaticities))
    points = ((extents_pair, base_pair), ((extents_pair, base_pair), ((extents_pair, base_pair), ((extents_pair, base_pair), tt))))

    by : (x : Value-F Value) → roll-Value x ≡ v → fit_step structs (map-Value Value Fit (fits structs) x) [] (Some (Struct 0)) ≡ true → length (flat v) ≡ 8
    by (layer.One s) e q = absurd (cc)
    by (layer.List vs) e q = absurd (cc)
    by (layer.Fields vs) e q = ap (λ v. length (flat v)) (sym e) ∙ ap length (flat_fields vs) ∙ points_counted vs (field_shapes_in (Some chromaticities)) points (sym (ap (each_fit (map (fits structs) vs)) shapes_are) ∙ q)
