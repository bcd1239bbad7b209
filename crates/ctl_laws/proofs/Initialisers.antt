-- Initialisers, and the first values of variables.
use Rattle.std.proofs.Common.{◌≡◌, ℕ, suc, ◌≤◌, ◌<◌, ◌*◌, List, [], ◌∷◌, map, length, Option, Some, None, true, ◌&&◌, ◌==◌, nat_lt, inl, inr, refl, sym, ap, subst, ◌∙◌, arith, slice_get, eq-eqb, ltb-true, leb-true}
use Rattle.std.specs.Prelude.{◌⊎◌, get_or}
use Rattle.ctl_base.specs.declared.limits.TheConstants.{SCALARS}
use Rattle.ctl_types.specs.declared.shape.Size.{Size}
use Rattle.ctl_types.specs.declared.shape.Size.TheVariants.{Stated, Open}
use Rattle.ctl_types.specs.declared.shape.Base.{Base}
use Rattle.ctl_types.specs.declared.shape.Base.TheVariants.{Scalar, Struct}
use Rattle.ctl_types.specs.declared.shape.Shape.{Shape}
use Rattle.ctl_types.specs.declared.shape.LocalShape.{LocalShape}
use Rattle.ctl_types.specs.declared.program.Struct.{Struct as StructForm}
use Rattle.ctl_types.specs.declared.value.Value.{Value}
use Rattle.ctl_types.specs.declared.value.Value.TheOpen as layer
use Rattle.ctl_types.specs.declared.statement.Initialiser.{Initialiser}
use Rattle.ctl_types.specs.declared.statement.Initialiser.TheOpen as initial
use Rattle.ctl_types.specs.declared.statement.Initialiser.TheOpen.{Initialiser-F}
use Rattle.ctl_types.specs.Shapes.{whole, whole_of, local, size_in, field_shapes, product, base_scalars, struct_counts}
use Rattle.ctl_types.specs.Values.{nothing, fits, Fits, all_fit, each_fit, scalars, zero_base, zero_of, struct_zeros}
use Rattle.ctl_types.specs.Typing.{Typed, has, are_stated, Variables, Scene, base_stands, size_counted, sizes_stand, shape_stands, all_have, each_has, operand_type, type_initialiser, initialiser_type}
use Rattle.ctl_types.specs.Scoping.{first_type}
use Rattle.ctl_types.specs.Run.{Pixel, Run, listed, run_operand, initialiser_step, run_initialiser, first_value}
use Rattle.ctl_types.specs.Pairs.{Pair, KeepsInitialiser, initialiser_pair}
use Rattle.ctl_laws.specs.Sound.{Of}
use Rattle.ctl_laws.proofs.Values.{both, and_true, fits_roll, list_fits}
use Rattle.ctl_laws.proofs.Ranges.{Numbers, zero_range, scalar_fits}
use Rattle.ctl_laws.proofs.Runs.{Good, good_then, good_more}
use Rattle.ctl_laws.proofs.Shapes.{has_full, sizes_same, stated_whole}
use Rattle.ctl_laws.proofs.Around.{Around, setting, Sound, Counts}
use Rattle.ctl_laws.proofs.Places.{On, Be, whole_type, fits_as}
use Rattle.ctl_laws.proofs.Calls.{operand_well}

-- ---- zeros

pub base_fits : Numbers → (structs : List StructForm) (zeros : List Value) (count : ℕ) → ((n : ℕ) → n < count → fits structs (get_or zeros n nothing) [] (Some (Struct n)) ≡ true) → (base : Base) → ((n : ℕ) → base ≡ Struct n → n < count) → fits structs (zero_base zeros base) [] (Some base) ≡ true
base_fits m structs zeros count z (Scalar k) h = scalar_fits structs k _ (zero_range m k)
base_fits m structs zeros count z (Struct n) h = z n (h n refl)

pub zero_fits : (structs : List StructForm) (zeros : List Value) (sizes : List ℕ) (base : Base) → fits structs (zero_base zeros base) [] (Some base) ≡ true → fits structs (zero_of zeros sizes base) sizes (Some base) ≡ true
zero_fits structs zeros [] base h = h
zero_fits structs zeros (n ∷ sizes) base h = list_fits structs n (zero_of zeros sizes base) sizes (Some base) (zero_fits structs zeros sizes base h)

pub known_struct : (s : Scene) (base : Base) → base_stands s base ≡ true → (n : ℕ) → base ≡ Struct n → n < length s.structs
known_struct s base h n e = ltb-true _ _ (subst (λ (b : Base). base_stands s b ≡ true) e h)

-- ---- stated shapes are small

stated_counted : (opens : List ℕ) (sizes : List Size) → are_stated sizes ≡ true → map (size_in opens) sizes ≡ map size_counted sizes
stated_counted opens [] h = refl
stated_counted opens (Stated n ∷ sizes) h = ap (λ k. n ∷ k) (stated_counted opens sizes h)
stated_counted opens (Open k ∷ sizes) h = absurd (cc)

-- a value of a stated shape that stands is within the limit
pub stated_small : (s : Scene) (opens : List ℕ) → Counts s.structs → s.counts ≡ struct_counts s.structs → (l : LocalShape) (v : Value) → shape_stands s l ≡ true → are_stated l.sizes ≡ true → Fits s.structs (whole opens l.sizes (Some l.base)) v → scalars v ≤ SCALARS
stated_small s opens counts counted l v w a f =
    let n = counts v (map (size_in opens) l.sizes) l.base f in
    let m = leb-true _ _ (both (sizes_stand s l.sizes && base_stands s l.base) _ w).1 in
    let e : product (map (size_in opens) l.sizes) * base_scalars (struct_counts s.structs) l.base ≡ product (map size_counted l.sizes) * base_scalars s.counts l.base = ap (λ sizes. product sizes * base_scalars (struct_counts s.structs) l.base) (stated_counted opens l.sizes a) ∙ ap (λ counts. product (map size_counted l.sizes) * base_scalars counts l.base) (sym counted) in
    subst (λ k. k ≤ SCALARS) (sym (n ∙ e)) m

module _ {C : Type 0} {pay : ℕ → C → C} (x : Around C pay) (h : Sound x) where
  stated_few : (s : LocalShape) (v : Value) → shape_stands x.scene s ≡ true → are_stated s.sizes ≡ true → Fits x.scene.structs (whole x.opens s.sizes (Some s.base)) v → scalars v ≤ SCALARS
  stated_few s v w a f = stated_small x.scene x.opens h.counts h.counted s v w a f

module _ {C : Type 0} {pay : ℕ → C → C} (x : Around C pay) (h : Sound x) (scope : Variables) where
  -- small, or of a stated shape
  abbrev pub Bounded : Typed → Value → Type 0
  Bounded t v = (scalars v ≤ SCALARS) ⊎ (are_stated t.sizes ≡ true)

  abbrev pub RightFirst : Typed → Run C pay Value → Type 0
  RightFirst t run = (p : Pixel C pay) → On x h scope p → t.well ≡ true → Good (λ v q. On x h scope q × (Fits x.scene.structs (whole_type x h scope t) v × Bounded t v)) (run p)

  elements_right : (es : List (Pair RightFirst)) (sizes : List Size) (base : Option Base) (p : Pixel C pay) → On x h scope p → all_have (map (λ (e : Pair RightFirst). e.0) es) sizes base ≡ true → Good (λ vs q. On x h scope q × ((all_fit (map (fits x.scene.structs) vs) (map (size_in x.opens) sizes) base ≡ true) × (length (map (fits x.scene.structs) vs) ≡ length (map (λ (e : Pair RightFirst). e.0) es)))) (listed C pay (map (λ (e : Pair RightFirst). e.1) es) p)
  elements_right [] sizes base p st w = (st, (refl, refl))
  elements_right (e ∷ es) sizes base p st w =
      let b = both (has e.0 sizes base) _ w in
      let k = has_full x.opens e.0 sizes base b.0 in
      good_then (λ v q. On x h scope q × (Fits x.scene.structs (whole_type x h scope e.0) v × Bounded e.0 v)) _ (e.1 p) _ (e.2 p st k.0) (λ v q g. good_then (λ vs q. On x h scope q × ((all_fit (map (fits x.scene.structs) vs) (map (size_in x.opens) sizes) base ≡ true) × (length (map (fits x.scene.structs) vs) ≡ length (map (λ (e : Pair RightFirst). e.0) es)))) _ (listed C pay (map (λ (e : Pair RightFirst). e.1) es) q) _ (elements_right es sizes base q g.0 b.1) (λ vs q m. (m.0, (and_true (fits x.scene.structs v (map (size_in x.opens) sizes) base) _ (fits_as x h scope _ _ v k.1 g.1.0) m.1.0, let z = m.1.1 in omega arith))))

  each_right : (es : List (Pair RightFirst)) (ms : List Shape) (p : Pixel C pay) → ((n : ℕ) (m : Shape) → slice_get ms n ≡ Some m → are_stated (local 0 m).sizes ≡ true) → On x h scope p → each_has (map (λ (e : Pair RightFirst). e.0) es) ms ≡ true → Good (λ vs q. On x h scope q × (each_fit (map (fits x.scene.structs) vs) ms ≡ true)) (listed C pay (map (λ (e : Pair RightFirst). e.1) es) p)
  each_right [] [] p s st w = (st, refl)
  each_right [] (m ∷ ms) p s st w = absurd (cc)
  each_right (e ∷ es) [] p s st w = absurd (cc)
  each_right (e ∷ es) (m ∷ ms) p s st w =
      let b = both (has e.0 (local 0 m).sizes (Some (local 0 m).base)) _ w in
      let k = has_full x.opens e.0 (local 0 m).sizes (Some (local 0 m).base) b.0 in
      good_then (λ v q. On x h scope q × (Fits x.scene.structs (whole_type x h scope e.0) v × Bounded e.0 v)) _ (e.1 p) _ (e.2 p st k.0) (λ v q g. good_then (λ vs q. On x h scope q × (each_fit (map (fits x.scene.structs) vs) ms ≡ true)) _ (listed C pay (map (λ (e : Pair RightFirst). e.1) es) q) _ (each_right es ms q (λ n f e. s (suc n) f e) g.0 b.1) (λ vs q z. (z.0, and_true (fits x.scene.structs v (whole_of m).sizes (whole_of m).base) _ (fits_as x h scope _ _ v (k.1 ∙ stated_whole x.opens m (s 0 m refl)) g.1.0) z.1)))

  initialiser_right : KeepsInitialiser RightFirst (type_initialiser x.scene scope) (initialiser_step C pay (setting x))
  initialiser_right (initial.Value o) p st w = good_more (Be x h scope (whole_type x h scope (operand_type x.scene scope o))) (λ v q. On x h scope q × (Fits x.scene.structs (whole_type x h scope (operand_type x.scene scope o)) v × Bounded (operand_type x.scene scope o) v)) (run_operand C pay (setting x) o p) (operand_well x h scope o p st w) (λ v q g. (g.0, (g.1.0, inl g.1.1)))
  initialiser_right (initial.Elements m es) p st w =
      let b = both (are_stated (local 0 m).sizes) _ (both (nat_lt 0 (length (map (λ (e : Pair RightFirst). e.0) es))) _ w).1 in
      good_then (λ vs q. On x h scope q × ((all_fit (map (fits x.scene.structs) vs) (map (size_in x.opens) (local 0 m).sizes) (Some (local 0 m).base) ≡ true) × (length (map (fits x.scene.structs) vs) ≡ length (map (λ (e : Pair RightFirst). e.0) es)))) _ (listed C pay (map (λ (e : Pair RightFirst). e.1) es) p) _ (elements_right es (local 0 m).sizes (Some (local 0 m).base) p st b.1) (λ vs q g. (g.0, (fits_roll x.scene.structs (layer.List vs) (length (map (λ (e : Pair RightFirst). e.0) es) ∷ map (size_in x.opens) (local 0 m).sizes) (Some (local 0 m).base) ∙ and_true (length (map (fits x.scene.structs) vs) == length (map (λ (e : Pair RightFirst). e.0) es)) _ (eq-eqb _ _ g.1.1) g.1.0, inr b.0)))
  initialiser_right (initial.Fields n es) p st w =
      let b = both (nat_lt n (length x.scene.structs)) _ w in
      good_then (λ vs q. On x h scope q × (each_fit (map (fits x.scene.structs) vs) (field_shapes x.scene.structs n) ≡ true)) _ (listed C pay (map (λ (e : Pair RightFirst). e.1) es) p) _ (each_right es (field_shapes x.scene.structs n) p (λ i f e. h.fields n i f e) st b.1) (λ vs q g. (g.0, (fits_roll x.scene.structs (layer.Fields vs) [] (Some (Struct n)) ∙ g.1, inr refl)))

  pub initialiser_well : (i : Initialiser) → RightFirst (initialiser_type x.scene scope i) (run_initialiser C pay (setting x) i)
  initialiser_well i = initialiser_pair RightFirst (type_initialiser x.scene scope) (initialiser_step C pay (setting x)) initialiser_right i

  -- the first value of a variable is of its shape, within the limit
  pub first_right : (result : Typed) (s : LocalShape) (i : Option Initialiser) (p : Pixel C pay) → On x h scope p → shape_stands x.scene s ≡ true → has (first_type x.scene result scope s i) s.sizes (Some s.base) ≡ true → Good (λ v q. On x h scope q × Of x.scene.structs (whole x.opens s.sizes (Some s.base)) v) (first_value C pay (setting x) s i p)
  first_right result s None p st w t =
      let k = has_full x.opens (first_type x.scene result scope s None) s.sizes (Some s.base) t in
      let b = (both (sizes_stand x.scene s.sizes) _ (both (sizes_stand x.scene s.sizes && base_stands x.scene s.base) _ w).0).1 in
      let f = zero_fits x.scene.structs (struct_zeros x.scene.structs) (map (size_in x.opens) s.sizes) s.base (base_fits h.numbers x.scene.structs (struct_zeros x.scene.structs) (length x.scene.structs) h.zeros s.base (known_struct x.scene s.base b)) in
      (st, (f, stated_few x h s _ w k.0 f))
  first_right result s (Some i) p st w t =
      let k = has_full x.opens (initialiser_type x.scene scope i) s.sizes (Some s.base) t in
      let a = both (initialiser_type x.scene scope i).well _ t in
      let same = sizes_same _ _ (both _ _ a.1).0 in
      good_more (λ v q. On x h scope q × (Fits x.scene.structs (whole_type x h scope (initialiser_type x.scene scope i)) v × Bounded (initialiser_type x.scene scope i) v)) (λ v q. On x h scope q × Of x.scene.structs (whole x.opens s.sizes (Some s.base)) v) (run_initialiser C pay (setting x) i p) (initialiser_well i p st k.0) (λ v q g.
      let f = fits_as x h scope _ _ v k.1 g.1.0 in
      (g.0, (f, few v (initialiser_type x.scene scope i) f same g.1.1))) where
        few : (v : Value) (y : Typed) → Fits x.scene.structs (whole x.opens s.sizes (Some s.base)) v → y.sizes ≡ s.sizes → Bounded y v → scalars v ≤ SCALARS
        few v y f same (inl l) = l
        few v y f same (inr r) = stated_few x h s v w (subst (λ (sizes : List Size). are_stated sizes ≡ true) same r) f
