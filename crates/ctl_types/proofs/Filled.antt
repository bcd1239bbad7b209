-- A value is told by its shape and its words.
use Rattle.std.proofs.Common.{◌≡◌, ℕ, suc, ℤ, List, [], ◌∷◌, ◌++◌, map, length, Option, Some, None, true, false, refl, ap, sym, subst, ◌∙◌, arith}
use Rattle.std.proofs.lemmas.List.{append_assoc}
use Rattle.std.proofs.lemmas.Bool.{eqb-true}
use Rattle.ctl_base.specs.declared.kind.ScalarKind.{ScalarKind}
use Rattle.ctl_base.specs.declared.kind.ScalarKind.TheVariants as kind
use Rattle.ctl_types.specs.declared.scalar.Scalar.{Scalar as ScalarForm}
use Rattle.ctl_types.specs.declared.scalar.Scalar.TheVariants as scalar_form
use Rattle.ctl_types.specs.declared.shape.Base.{Base}
use Rattle.ctl_types.specs.declared.shape.Base.TheVariants.{Scalar, Struct}
use Rattle.ctl_types.specs.declared.shape.Shape.{Shape}
use Rattle.ctl_types.specs.declared.value.Value.{Value, roll-Value, out-Value}
use Rattle.ctl_types.specs.declared.value.Value.TheViews.{roll-out-Value}
use Rattle.ctl_types.specs.declared.value.Value.TheOpen as layer
use Rattle.ctl_types.specs.declared.value.Value.TheOpen.{Value-F}
use Rattle.ctl_types.specs.declared.value.Value.TheFolds.{fold-roll-Value, map-Value}
use Rattle.ctl_types.specs.declared.program.Struct.{Struct as StructForm}
use Rattle.ctl_types.specs.Scalars.{kind_of, word_of, scalar, same_kind}
use Rattle.ctl_types.specs.Shapes.{Whole, whole_of, field_shapes}
use Rattle.ctl_types.specs.Values.{one, list, fields, Fit, fit_one, fit_list, fit_fields, fit_step, all_fit, each_fit, fits, Fits, flat, flat_all, Filled, Filling, fill_one, fill_all, fill_step, filled}
use Rattle.ctl_types.specs.Pairs.{Pair, value_pair}
use Rattle.ctl_types.proofs.Flat.{flat_list, flat_fields, flat_one}
use Rattle.ctl_types.proofs.Counted.{both}

kinds_same : (a b : ScalarKind) → same_kind a b ≡ true → a ≡ b
kinds_same kind.Bool kind.Bool h = refl
kinds_same kind.Bool kind.Int h = absurd (cc)
kinds_same kind.Bool kind.Unsigned h = absurd (cc)
kinds_same kind.Bool kind.Half h = absurd (cc)
kinds_same kind.Bool kind.Float h = absurd (cc)
kinds_same kind.Int kind.Bool h = absurd (cc)
kinds_same kind.Int kind.Int h = refl
kinds_same kind.Int kind.Unsigned h = absurd (cc)
kinds_same kind.Int kind.Half h = absurd (cc)
kinds_same kind.Int kind.Float h = absurd (cc)
kinds_same kind.Unsigned kind.Bool h = absurd (cc)
kinds_same kind.Unsigned kind.Int h = absurd (cc)
kinds_same kind.Unsigned kind.Unsigned h = refl
kinds_same kind.Unsigned kind.Half h = absurd (cc)
kinds_same kind.Unsigned kind.Float h = absurd (cc)
kinds_same kind.Half kind.Bool h = absurd (cc)
kinds_same kind.Half kind.Int h = absurd (cc)
kinds_same kind.Half kind.Unsigned h = absurd (cc)
kinds_same kind.Half kind.Half h = refl
kinds_same kind.Half kind.Float h = absurd (cc)
kinds_same kind.Float kind.Bool h = absurd (cc)
kinds_same kind.Float kind.Int h = absurd (cc)
kinds_same kind.Float kind.Unsigned h = absurd (cc)
kinds_same kind.Float kind.Half h = absurd (cc)
kinds_same kind.Float kind.Float h = refl

-- a scalar is told by its kind and its word
back : (t : ScalarForm) → scalar (kind_of t) (word_of t) ≡ t
back (scalar_form.Bool true) = refl
back (scalar_form.Bool false) = refl
back (scalar_form.Int z) = refl
back (scalar_form.Unsigned n) = refl
back (scalar_form.Half z) = refl
back (scalar_form.Float z) = refl

module _ (structs : List StructForm) where
  -- whether a form of a value fits
  fits_roll : (x : Value-F Value) (sizes : List ℕ) (base : Option Base) → fits structs (roll-Value x) sizes base ≡ fit_step structs (map-Value Value Fit (fits structs) x) sizes base
  fits_roll x sizes base = ap (λ (f : Fit). f sizes base) (fold-roll-Value Fit (fit_step structs) x)

  abbrev Back : Fit → Filling → Type 0
  Back fit fill = (sizes : List ℕ) (base : Option Base) (b : Value) (rest : List ℤ) → fit sizes base ≡ true → fits structs b sizes base ≡ true → fill (flat b ++ rest) ≡ record { value = b; rest = rest }

  -- one more value at the front
  put : (p : Pair Back) (ps : List (Pair Back)) (v : Value) (vs : List Value) (rest : List ℤ) → p.1 (flat v ++ (flat_all vs ++ rest)) ≡ record { value = v; rest = flat_all vs ++ rest } → fill_all (map (λ (e : Pair Back). e.1) ps) (flat_all vs ++ rest) ≡ record { value = vs; rest = rest } → fill_all (map (λ (e : Pair Back). e.1) (p ∷ ps)) (flat_all (v ∷ vs) ++ rest) ≡ record { value = v ∷ vs; rest = rest }
  put p ps v vs rest first next =
      let words : flat_all (v ∷ vs) ++ rest ≡ flat v ++ (flat_all vs ++ rest) = append_assoc (flat v) (flat_all vs) rest in
      let after : Filled Value → Filled (List Value) = λ f. record { value = f.value ∷ (fill_all (map (λ (e : Pair Back). e.1) ps) f.rest).value; rest = (fill_all (map (λ (e : Pair Back). e.1) ps) f.rest).rest } in
      let whole : Filled (List Value) → Filled (List Value) = λ f. record { value = v ∷ f.value; rest = f.rest } in
      ap (fill_all (map (λ (e : Pair Back). e.1) (p ∷ ps))) words ∙ ap after first ∙ ap whole next

  all_back : (ps : List (Pair Back)) (vs : List Value) (sizes : List ℕ) (base : Option Base) (rest : List ℤ) → length ps ≡ length vs → all_fit (map (λ (e : Pair Back). e.0) ps) sizes base ≡ true → all_fit (map (fits structs) vs) sizes base ≡ true → fill_all (map (λ (e : Pair Back). e.1) ps) (flat_all vs ++ rest) ≡ record { value = vs; rest = rest }
  all_back [] [] sizes base rest n h k = refl
  all_back [] (v ∷ vs) sizes base rest n h k = absurd (omega arith)
  all_back (p ∷ ps) [] sizes base rest n h k = absurd (omega arith)
  all_back (p ∷ ps) (v ∷ vs) sizes base rest n h k =
      let q = both _ _ h in
      let r = both _ _ k in
      let m : length ps ≡ length vs = omega arith in
      put p ps v vs rest (p.2 sizes base v (flat_all vs ++ rest) q.0 r.0) (all_back ps vs sizes base rest m q.1 r.1)

  each_back : (ps : List (Pair Back)) (vs : List Value) (shapes : List Shape) (rest : List ℤ) → each_fit (map (λ (e : Pair Back). e.0) ps) shapes ≡ true → each_fit (map (fits structs) vs) shapes ≡ true → fill_all (map (λ (e : Pair Back). e.1) ps) (flat_all vs ++ rest) ≡ record { value = vs; rest = rest }
  each_back [] [] shapes rest h k = refl
  each_back [] (v ∷ vs) [] rest h k = absurd (cc)
  each_back [] (v ∷ vs) (s ∷ shapes) rest h k = absurd (cc)
  each_back (p ∷ ps) [] [] rest h k = absurd (cc)
  each_back (p ∷ ps) [] (s ∷ shapes) rest h k = absurd (cc)
  each_back (p ∷ ps) (v ∷ vs) [] rest h k = absurd (cc)
  each_back (p ∷ ps) (v ∷ vs) (s ∷ shapes) rest h k =
      let q = both _ _ h in
      let r = both _ _ k in
      put p ps v vs rest (p.2 (whole_of s).sizes (whole_of s).base v (flat_all vs ++ rest) q.0 r.0) (each_back ps vs shapes rest q.1 r.1)

  one_back : (s : ScalarForm) (sizes : List ℕ) (base : Option Base) (x : Value-F Value) (rest : List ℤ) → fit_one s sizes base ≡ true → fit_step structs (map-Value Value Fit (fits structs) x) sizes base ≡ true → fill_one s (flat (roll-Value x) ++ rest) ≡ record { value = roll-Value x; rest = rest }
  one_back s [] (Some (Scalar k)) (layer.One t) rest h j =
      let same : kind_of s ≡ k = kinds_same _ _ (both _ _ h).0 in
      let other : kind_of t ≡ k = kinds_same _ _ (both _ _ j).0 in
      ap (λ ws. fill_one s (ws ++ rest)) (flat_one t) ∙ ap (λ z. record { value = one z; rest = rest }) (ap (λ l. scalar l (word_of t)) (same ∙ sym other) ∙ back t)
  one_back s [] (Some (Scalar k)) (layer.List vs) rest h j = absurd (cc)
  one_back s [] (Some (Scalar k)) (layer.Fields vs) rest h j = absurd (cc)
  one_back s [] (Some (Struct n)) x rest h j = absurd (cc)
  one_back s [] None x rest h j = absurd (cc)
  one_back s (m ∷ sizes) base x rest h j = absurd (cc)

  long : {A B : Type 0} (f : A → B) (xs : List A) → length (map f xs) ≡ length xs
  long f [] = refl
  long f (x ∷ xs) = ap suc (long f xs)

  list_back : (ps : List (Pair Back)) (sizes : List ℕ) (base : Option Base) (x : Value-F Value) (rest : List ℤ) → fit_list (map (λ (e : Pair Back). e.0) ps) sizes base ≡ true → fit_step structs (map-Value Value Fit (fits structs) x) sizes base ≡ true → fill_step (layer.List (map (λ (e : Pair Back). e.1) ps)) (flat (roll-Value x) ++ rest) ≡ record { value = roll-Value x; rest = rest }
  list_back ps [] base x rest h j = absurd (cc)
  list_back ps (m ∷ sizes) base (layer.One t) rest h j = absurd (cc)
  list_back ps (m ∷ sizes) base (layer.List vs) rest h j =
      let q = both _ _ h in
      let r = both _ _ j in
      let a : length (map (λ (e : Pair Back). e.0) ps) ≡ m = eqb-true _ m q.0 in
      let b : length (map (fits structs) vs) ≡ m = eqb-true _ m r.0 in
      let n : length ps ≡ length vs = sym (long (λ (e : Pair Back). e.0) ps) ∙ a ∙ sym b ∙ long (fits structs) vs in
      ap (λ ws. fill_step (layer.List (map (λ (e : Pair Back). e.1) ps)) (ws ++ rest)) (flat_list vs) ∙ ap (λ (f : Filled (List Value)). record { value = list f.value; rest = f.rest }) (all_back ps vs sizes base rest n q.1 r.1)
  list_back ps (m ∷ sizes) base (layer.Fields vs) rest h j = absurd (cc)

  fields_same : (ps : List (Pair Back)) (vs : List Value) (shapes : List Shape) (rest : List ℤ) → each_fit (map (λ (e : Pair Back). e.0) ps) shapes ≡ true → each_fit (map (fits structs) vs) shapes ≡ true → fill_step (layer.Fields (map (λ (e : Pair Back). e.1) ps)) (flat (fields vs) ++ rest) ≡ record { value = fields vs; rest = rest }
  fields_same ps vs shapes rest h j = ap (λ ws. fill_step (layer.Fields (map (λ (e : Pair Back). e.1) ps)) (ws ++ rest)) (flat_fields vs) ∙ ap (λ (f : Filled (List Value)). record { value = fields f.value; rest = f.rest }) (each_back ps vs shapes rest h j)

  fields_back : (ps : List (Pair Back)) (sizes : List ℕ) (base : Option Base) (x : Value-F Value) (rest : List ℤ) → fit_fields structs (map (λ (e : Pair Back). e.0) ps) sizes base ≡ true → fit_step structs (map-Value Value Fit (fits structs) x) sizes base ≡ true → fill_step (layer.Fields (map (λ (e : Pair Back). e.1) ps)) (flat (roll-Value x) ++ rest) ≡ record { value = roll-Value x; rest = rest }
  fields_back ps [] None (layer.One t) rest h j = absurd (cc)
  fields_back ps [] None (layer.List vs) rest h j = absurd (cc)
  fields_back ps [] None (layer.Fields vs) rest h j = fields_same ps vs [] rest h j
  fields_back ps [] (Some (Scalar k)) x rest h j = absurd (cc)
  fields_back ps [] (Some (Struct n)) (layer.One t) rest h j = absurd (cc)
  fields_back ps [] (Some (Struct n)) (layer.List vs) rest h j = absurd (cc)
  fields_back ps [] (Some (Struct n)) (layer.Fields vs) rest h j = fields_same ps vs (field_shapes structs n) rest h j
  fields_back ps (m ∷ sizes) base x rest h j = absurd (cc)

  -- a value of which it is known by its form
  by_form : (fit : Fit) (fill : Filling) → ((sizes : List ℕ) (base : Option Base) (x : Value-F Value) (rest : List ℤ) → fit sizes base ≡ true → fit_step structs (map-Value Value Fit (fits structs) x) sizes base ≡ true → fill (flat (roll-Value x) ++ rest) ≡ record { value = roll-Value x; rest = rest }) → Back fit fill
  by_form fit fill does sizes base b rest h j =
      let is : roll-Value (out-Value b) ≡ b = roll-out-Value b in
      let k : fits structs (roll-Value (out-Value b)) sizes base ≡ true = ap (λ v. fits structs v sizes base) is ∙ j in
      subst (λ v. fill (flat v ++ rest) ≡ record { value = v; rest = rest }) is (does sizes base (out-Value b) rest h (sym (fits_roll (out-Value b) sizes base) ∙ k))

  keeps : (y : Value-F (Pair Back)) → Back (fit_step structs (map-Value (Pair Back) Fit (λ e. e.0) y)) (fill_step (map-Value (Pair Back) Filling (λ e. e.1) y))
  keeps (layer.One s) = by_form (fit_one s) (fill_one s) (one_back s)
  keeps (layer.List ps) = by_form (fit_list (map (λ (e : Pair Back). e.0) ps)) (fill_step (layer.List (map (λ (e : Pair Back). e.1) ps))) (list_back ps)
  keeps (layer.Fields ps) = by_form (fit_fields structs (map (λ (e : Pair Back). e.0) ps)) (fill_step (layer.Fields (map (λ (e : Pair Back). e.1) ps))) (fields_back ps)

pub goes_back : (structs : List StructForm) (w : Whole) (a b : Value) (rest : List ℤ) → Fits structs w a → Fits structs w b → filled a (flat b ++ rest) ≡ record { value = b; rest = rest }
goes_back structs w a b rest h j = value_pair (Back structs) (fit_step structs) fill_step (keeps structs) a w.sizes w.base b rest h j
