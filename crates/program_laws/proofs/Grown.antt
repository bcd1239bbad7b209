-- Definitions with a struct or a constant more: what stood before stands as it did.
use Rattle.std.proofs.Common.{◌≡◌, ℕ, zero, suc, ◌<◌, ◌*◌, List, [], ◌∷◌, map, length, Option, Some, None, true, ◌&&◌, ◌==◌, nat_lt, nat_le, refl, sym, ap, subst, ◌∙◌, arith, slice_get, lt-ltb}
use Rattle.std.specs.Prelude.{get_or}
use Rattle.ctl_base.specs.declared.limits.TheConstants.{SCALARS}
use Rattle.ctl_types.specs.declared.shape.Size.{Size}
use Rattle.ctl_types.specs.declared.shape.Size.TheVariants.{Stated, Open}
use Rattle.ctl_types.specs.declared.shape.Base.{Base}
use Rattle.ctl_types.specs.declared.shape.Base.TheVariants.{Scalar, Struct}
use Rattle.ctl_types.specs.declared.shape.Shape.{Shape}
use Rattle.ctl_types.specs.declared.shape.LocalShape.{LocalShape}
use Rattle.ctl_types.specs.declared.program.Struct.{Struct as StructForm}
use Rattle.ctl_types.specs.declared.value.Value.{Value}
use Rattle.ctl_types.specs.declared.value.Value.TheOpen as layer
use Rattle.ctl_types.specs.Shapes.{base_of, whole_of, field_shapes, field_shapes_in, product, base_scalars}
use Rattle.ctl_types.specs.Values.{Fit, fit_list, fit_fields, all_fit, each_fit, fit_step, fits}
use Rattle.ctl_types.specs.Typing.{Scene, size_stands, sizes_stand, base_stands, size_counted, shape_stands}
use Rattle.ctl_types.specs.Pairs.{Pair, KeepsValue, value_pair}
use Rattle.program_laws.proofs.Verdicts.{both, and_true}

-- a struct, where there is one, is among these
abbrev pub Known : List StructForm → Base → Type 0
Known structs (Scalar k) = Unit {0}
Known structs (Struct n) = nat_lt n (length structs) ≡ true

abbrev pub KnownOrNone : List StructForm → Option Base → Type 0
KnownOrNone structs None = Unit {0}
KnownOrNone structs (Some b) = Known structs b

-- what stood before stands as it did
pub record Grows (structs : List StructForm) (counts : List ℕ) (constants : List Shape) (structs' : List StructForm) (counts' : List ℕ) (constants' : List Shape) : Type 0 where
  pub longer : (n : ℕ) → nat_lt n (length structs) ≡ true → nat_lt n (length structs') ≡ true
  pub fields : (n : ℕ) → nat_lt n (length structs) ≡ true → field_shapes structs' n ≡ field_shapes structs n
  pub count : (n : ℕ) → nat_lt n (length structs) ≡ true → get_or counts' n 0 ≡ get_or counts n 0
  pub constant : (n : ℕ) (m : Shape) → slice_get constants n ≡ Some m → slice_get constants' n ≡ Some m
  pub known : (n i : ℕ) (m : Shape) → slice_get (field_shapes structs n) i ≡ Some m → Known structs (base_of m)

-- a struct that has a field is there
pub field_range : (structs : List StructForm) (m i : ℕ) (shape : Shape) → slice_get (field_shapes structs m) i ≡ Some shape → nat_lt m (length structs) ≡ true
field_range structs m i shape e = lt-ltb m (length structs) (low structs m (slice_get structs m) refl e) where
  low : (structs : List StructForm) (m : ℕ) (o : Option StructForm) → slice_get structs m ≡ o → slice_get (field_shapes_in o) i ≡ Some shape → m < length structs
  low [] m o e k = let z : o ≡ None = sym e in absurd (nothing o z k) where
    nothing : (o : Option StructForm) → o ≡ None → slice_get (field_shapes_in o) i ≡ Some shape → ⊥
    nothing None z k = cc
    nothing (Some d) z k = cc
  low (d ∷ structs) zero o e k = omega arith
  low (d ∷ structs) (suc m) o e k = let z = low structs m o e k in omega arith

module _ (structs : List StructForm) (counts : List ℕ) (constants : List Shape) where
  -- a scene with these structs and constants
  abbrev pub grown : Scene → Scene
  grown s = record { tokens = s.tokens; structs = structs; counts = counts; constants = constants; functions = s.functions; too_deep = s.too_deep; opens = s.opens }

  abbrev pub Grown : Scene → Type 0
  Grown s = Grows s.structs s.counts s.constants structs counts constants

  -- ---- shapes

  pub size_grown : (s : Scene) (size : Size) → size_stands (grown s) size ≡ size_stands s size
  size_grown s (Stated n) = refl
  size_grown s (Open k) = refl

  pub sizes_grown : (s : Scene) (sizes : List Size) → sizes_stand (grown s) sizes ≡ sizes_stand s sizes
  sizes_grown s [] = refl
  sizes_grown s (size ∷ sizes) = ap (λ b. b && sizes_stand (grown s) sizes) (size_grown s size) ∙ ap (λ b. size_stands s size && b) (sizes_grown s sizes)

  pub base_known : (s : Scene) (b : Base) → base_stands s b ≡ true → Known s.structs b
  base_known s (Scalar k) h = tt
  base_known s (Struct n) h = h

  base_grown : (s : Scene) (g : Grown s) (b : Base) → Known s.structs b → base_stands (grown s) b ≡ true
  base_grown s g (Scalar k) h = refl
  base_grown s g (Struct n) h = g.longer n h

  scalars_grown : (s : Scene) (g : Grown s) (b : Base) → Known s.structs b → base_scalars counts b ≡ base_scalars s.counts b
  scalars_grown s g (Scalar k) h = refl
  scalars_grown s g (Struct n) h = g.count n h

  pub shape_known : (s : Scene) (l : LocalShape) → shape_stands s l ≡ true → Known s.structs l.base
  shape_known s l h = base_known s l.base (both (sizes_stand s l.sizes) _ (both (sizes_stand s l.sizes && base_stands s l.base) _ h).0).1

  pub shape_grown : (s : Scene) (g : Grown s) (l : LocalShape) → shape_stands s l ≡ true → shape_stands (grown s) l ≡ true
  shape_grown s g l h =
      let k = shape_known s l h in
      let a = both (sizes_stand s l.sizes && base_stands s l.base) _ h in
      let b = both (sizes_stand s l.sizes) _ a.0 in
      and_true (sizes_stand (grown s) l.sizes && base_stands (grown s) l.base) _ (and_true (sizes_stand (grown s) l.sizes) _ (sizes_grown s l.sizes ∙ b.0) (base_grown s g l.base k)) (ap (λ n. nat_le (product (map size_counted l.sizes) * n) SCALARS) (scalars_grown s g l.base k) ∙ a.1)

  -- ---- values

  abbrev StillFits : Scene → Fit → Fit → Type 0
  StillFits s a b = (sizes : List ℕ) (base : Option Base) → KnownOrNone s.structs base → a sizes base ≡ true → b sizes base ≡ true

  all_grown : (s : Scene) (es : List (Pair (StillFits s))) (sizes : List ℕ) (base : Option Base) → KnownOrNone s.structs base → all_fit (map (λ (e : Pair (StillFits s)). e.0) es) sizes base ≡ true → all_fit (map (λ (e : Pair (StillFits s)). e.1) es) sizes base ≡ true
  all_grown s [] sizes base k h = refl
  all_grown s (e ∷ es) sizes base k h = let b = both (e.0 sizes base) _ h in and_true (e.1 sizes base) _ (e.2 sizes base k b.0) (all_grown s es sizes base k b.1)

  long_grown : (s : Scene) (es : List (Pair (StillFits s))) → length (map (λ (e : Pair (StillFits s)). e.1) es) ≡ length (map (λ (e : Pair (StillFits s)). e.0) es)
  long_grown s [] = refl
  long_grown s (e ∷ es) = ap suc (long_grown s es)

  each_grown : (s : Scene) (es : List (Pair (StillFits s))) (ms : List Shape) → ((i : ℕ) (m : Shape) → slice_get ms i ≡ Some m → Known s.structs (base_of m)) → each_fit (map (λ (e : Pair (StillFits s)). e.0) es) ms ≡ true → each_fit (map (λ (e : Pair (StillFits s)). e.1) es) ms ≡ true
  each_grown s [] [] k h = refl
  each_grown s [] (m ∷ ms) k h = absurd (cc)
  each_grown s (e ∷ es) [] k h = absurd (cc)
  each_grown s (e ∷ es) (m ∷ ms) k h =
      let b = both (e.0 (whole_of m).sizes (whole_of m).base) _ h in
      and_true (e.1 (whole_of m).sizes (whole_of m).base) _ (e.2 (whole_of m).sizes (whole_of m).base (k 0 m refl) b.0) (each_grown s es ms (λ i m e. k (suc i) m e) b.1)

  list_grown : (s : Scene) (es : List (Pair (StillFits s))) → StillFits s (fit_list (map (λ (e : Pair (StillFits s)). e.0) es)) (fit_list (map (λ (e : Pair (StillFits s)). e.1) es))
  list_grown s es [] base k h = absurd (cc)
  list_grown s es (n ∷ sizes) base k h =
      let b = both (length (map (λ (e : Pair (StillFits s)). e.0) es) == n) _ h in
      and_true (length (map (λ (e : Pair (StillFits s)). e.1) es) == n) _ (ap (λ i. i == n) (long_grown s es) ∙ b.0) (all_grown s es sizes base k b.1)

  fields_grown : (s : Scene) (g : Grown s) (es : List (Pair (StillFits s))) → StillFits s (fit_fields s.structs (map (λ (e : Pair (StillFits s)). e.0) es)) (fit_fields structs (map (λ (e : Pair (StillFits s)). e.1) es))
  fields_grown s g es [] None k h = each_grown s es [] (λ i m e. absurd (none i m e)) h where
    none : (i : ℕ) (m : Shape) → slice_get [] i ≡ Some m → ⊥
    none i m e = cc
  fields_grown s g es [] (Some (Scalar i)) k h = absurd (cc)
  fields_grown s g es [] (Some (Struct n)) k h = subst (λ (ms : List Shape). each_fit (map (λ (e : Pair (StillFits s)). e.1) es) ms ≡ true) (sym (g.fields n k)) (each_grown s es (field_shapes s.structs n) (λ i m e. g.known n i m e) h)
  fields_grown s g es (n ∷ sizes) base k h = absurd (cc)

  fit_grown : (s : Scene) (g : Grown s) → KeepsValue (StillFits s) (fit_step s.structs) (fit_step structs)
  fit_grown s g (layer.One x) sizes base k h = h
  fit_grown s g (layer.List es) sizes base k h = list_grown s es sizes base k h
  fit_grown s g (layer.Fields es) sizes base k h = fields_grown s g es sizes base k h

  pub fits_grown : (s : Scene) (g : Grown s) (v : Value) (sizes : List ℕ) (base : Option Base) → KnownOrNone s.structs base → fits s.structs v sizes base ≡ true → fits structs v sizes base ≡ true
  fits_grown s g v sizes base k h = value_pair (StillFits s) (fit_step s.structs) (fit_step structs) (fit_grown s g) v sizes base k h
