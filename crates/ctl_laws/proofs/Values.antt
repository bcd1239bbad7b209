-- Values of a shape: their parts, and what fits in the place of a part.
use Rattle.std.proofs.Common.{◌≡◌, ℕ, zero, suc, ℤ, ◌<◌, ◌≤◌, List, [], ◌∷◌, ◌++◌, map, length, replicate, Option, Some, None, Bool, true, false, ◌&&◌, ◌==◌, refl, sym, ap, subst, ◌∙◌, arith, slice_get, slice_set, eqb-true, eq-eqb, length-set, flat_map}
use Rattle.std.proofs.lemmas.List.{length-append}
use Rattle.ctl_base.specs.declared.kind.ScalarKind.{ScalarKind}
use Rattle.ctl_base.specs.declared.kind.ScalarKind.TheVariants as kind
use Rattle.fix_num.specs.declared.TheConstants.{FRACTION}
use Rattle.ctl_types.specs.declared.scalar.Scalar.{Scalar as ScalarForm}
use Rattle.ctl_types.specs.declared.shape.Base.{Base}
use Rattle.ctl_types.specs.declared.shape.Base.TheVariants.{Scalar, Struct}
use Rattle.ctl_types.specs.declared.shape.Shape.{Shape}
use Rattle.ctl_types.specs.declared.program.Struct.{Struct as StructForm}
use Rattle.ctl_types.specs.declared.value.Value.{Value, roll-Value, out-Value}
use Rattle.ctl_types.specs.declared.value.Value.TheOpen as layer
use Rattle.ctl_types.specs.declared.value.Value.TheOpen.{Value-F}
use Rattle.ctl_types.specs.declared.value.Value.TheFolds.{fold-roll-Value, fold_out-Value, map-Value}
use Rattle.ctl_types.specs.Scalars.{kind_of, word_of, same_kind, in_range}
use Rattle.ctl_types.specs.Shapes.{Whole, whole_of, field_shapes}
use Rattle.ctl_types.specs.Values.{one, list, nothing, part_in, part_at, with_in, with_part, put_at, Fit, fit_one, fit_list, fit_fields, fit_step, all_fit, each_fit, fits, Fits, Likeness, alike_one, all_alike, alike_list, alike_fields, alike_step, alike, flat_step, flat, scalars}
use Rattle.ctl_types.specs.Pairs.{Pair, KeepsValue, value_pair}

pub both : (a b : Bool) → (a && b) ≡ true → (a ≡ true) × (b ≡ true)
both true b h = (refl, h)
both false b h = absurd (cc)

pub and_true : (a b : Bool) → a ≡ true → b ≡ true → (a && b) ≡ true
and_true true b h k = k
and_true false b h k = absurd (cc)

pub kinds_same : (a b : ScalarKind) → same_kind a b ≡ true → a ≡ b
kinds_same kind.Bool kind.Bool h = refl
kinds_same kind.Bool kind.Int h = absurd (cc)
kinds_same kind.Bool kind.Unsigned h = absurd (cc)
kinds_same kind.Bool kind.Half h = absurd (cc)
kinds_same kind.Bool kind.Float h = absurd (cc)
kinds_same kind.Int kind.Bool h = absurd (cc)
kinds_same kind.Int kind.Int h = refl
kinds_same kind.Int kind.Unsigned h = absurd (cc)
kinds_same kind.Int kind.Half h = absurd (cc)
kinds_same kind.Int kind.Float h = absurd (cc)
kinds_same kind.Unsigned kind.Bool h = absurd (cc)
kinds_same kind.Unsigned kind.Int h = absurd (cc)
kinds_same kind.Unsigned kind.Unsigned h = refl
kinds_same kind.Unsigned kind.Half h = absurd (cc)
kinds_same kind.Unsigned kind.Float h = absurd (cc)
kinds_same kind.Half kind.Bool h = absurd (cc)
kinds_same kind.Half kind.Int h = absurd (cc)
kinds_same kind.Half kind.Unsigned h = absurd (cc)
kinds_same kind.Half kind.Half h = refl
kinds_same kind.Half kind.Float h = absurd (cc)
kinds_same kind.Float kind.Bool h = absurd (cc)
kinds_same kind.Float kind.Int h = absurd (cc)
kinds_same kind.Float kind.Unsigned h = absurd (cc)
kinds_same kind.Float kind.Half h = absurd (cc)
kinds_same kind.Float kind.Float h = refl

pub kind_same : (a : ScalarKind) → same_kind a a ≡ true
kind_same kind.Bool = refl
kind_same kind.Int = refl
kind_same kind.Unsigned = refl
kind_same kind.Half = refl
kind_same kind.Float = refl

pub get_low : {A : Type 0} (vs : List A) (i : ℕ) (w : A) → slice_get vs i ≡ Some w → i < length vs
get_low [] i w e = absurd (cc)
get_low (v ∷ vs) zero w e = omega arith
get_low (v ∷ vs) (suc i) w e = let z = get_low vs i w e in omega arith

pub map_length : {A B : Type 0} (f : A → B) (vs : List A) → length (map f vs) ≡ length vs
map_length f [] = refl
map_length f (v ∷ vs) = let z = map_length f vs in omega arith

abbrev pub array : ℕ → List ℕ → Option Base → Whole
array n sizes base = record { sizes = n ∷ sizes; base = base }

abbrev pub shape : List ℕ → Option Base → Whole
shape sizes base = record { sizes = sizes; base = base }

-- ---- how many scalars

flat_roll : (x : Value-F Value) → flat (roll-Value x) ≡ flat_step (map-Value Value (List ℤ) flat x)
flat_roll x = fold-roll-Value (List ℤ) flat_step x

flat_out : (v : Value) → flat v ≡ flat_step (map-Value Value (List ℤ) flat (out-Value v))
flat_out v = fold_out-Value (List ℤ) flat_step v

pub scalars_one : (s : ScalarForm) → scalars (one s) ≡ 1
scalars_one s = ap length (flat_roll (layer.One s))

pub scalars_nothing : scalars nothing ≡ 0
scalars_nothing = ap length (flat_roll (layer.Fields []))

parts_few : (vs : List Value) (i : ℕ) (w : Value) → slice_get vs i ≡ Some w → length (flat w) ≤ length (flat_map (λ (w : List ℤ). w) (map flat vs))
parts_few [] i w e = absurd (cc)
parts_few (v ∷ vs) zero w e =
    let q : v ≡ w = cc in
    let n = length-append (flat v) (flat_map (λ (w : List ℤ). w) (map flat vs)) in
    let m : length (flat v) ≡ length (flat w) = ap scalars q in
    omega arith
parts_few (v ∷ vs) (suc i) w e =
    let n = length-append (flat v) (flat_map (λ (w : List ℤ). w) (map flat vs)) in
    let m = parts_few vs i w e in
    omega arith

part_few_in : (x : Value-F Value) (i : ℕ) (w : Value) → part_in x i ≡ Some w → length (flat w) ≤ length (flat_step (map-Value Value (List ℤ) flat x))
part_few_in (layer.One s) i w e = absurd (cc)
part_few_in (layer.List vs) i w e = parts_few vs i w e
part_few_in (layer.Fields vs) i w e = parts_few vs i w e

-- a part has no more scalars than the whole
pub part_few : (v : Value) (i : ℕ) (w : Value) → part_in (out-Value v) i ≡ Some w → scalars w ≤ scalars v
part_few v i w e = let a = part_few_in (out-Value v) i w e in let b = ap length (flat_out v) in omega arith

-- ---- fits by layers

module _ (structs : List StructForm) where
  abbrev pub fits_in : Value-F Value → Fit
  fits_in x = fit_step structs (map-Value Value Fit (fits structs) x)

  pub fits_roll : (x : Value-F Value) (sizes : List ℕ) (base : Option Base) → fits structs (roll-Value x) sizes base ≡ fits_in x sizes base
  fits_roll x sizes base = ap (λ (f : Fit). f sizes base) (fold-roll-Value Fit (fit_step structs) x)

  pub fits_out : (v : Value) (sizes : List ℕ) (base : Option Base) → fits structs v sizes base ≡ fits_in (out-Value v) sizes base
  fits_out v sizes base = ap (λ (f : Fit). f sizes base) (fold_out-Value Fit (fit_step structs) v)

  pub one_fits : (s : ScalarForm) (k : ScalarKind) → kind_of s ≡ k → in_range FRACTION k (word_of s) ≡ true → fits structs (one s) [] (Some (Scalar k)) ≡ true
  one_fits s k e h = fits_roll (layer.One s) [] (Some (Scalar k)) ∙ and_true (same_kind (kind_of s) k) _ (subst (λ (k : ScalarKind). same_kind (kind_of s) k ≡ true) e (kind_same (kind_of s))) h

  pub nothing_fits : fits structs nothing [] None ≡ true
  nothing_fits = fits_roll (layer.Fields []) [] None

  -- a part that fits, and what fits in its place
  pub record Leads (a : Whole) (x : Value-F Value) (i : ℕ) (b : Whole) : Type 0 where
    pub part : Value
    pub at : part_in x i ≡ Some part
    pub fit : Fits structs b part
    pub put : (u : Value) → Fits structs b u → Fits structs a (roll-Value (with_in x i u))

  all_at : (vs : List Value) (i : ℕ) (sizes : List ℕ) (base : Option Base) → all_fit (map (fits structs) vs) sizes base ≡ true → i < length vs → (w : Value) × (slice_get vs i ≡ Some w) × (fits structs w sizes base ≡ true)
  all_at [] i sizes base h l = absurd (omega arith)
  all_at (v ∷ vs) zero sizes base h l = (v, refl, (both (fits structs v sizes base) _ h).0)
  all_at (v ∷ vs) (suc i) sizes base h l = all_at vs i sizes base (both (fits structs v sizes base) _ h).1 (omega arith)

  all_set : (vs : List Value) (i : ℕ) (u : Value) (sizes : List ℕ) (base : Option Base) → all_fit (map (fits structs) vs) sizes base ≡ true → fits structs u sizes base ≡ true → all_fit (map (fits structs) (slice_set vs i u)) sizes base ≡ true
  all_set [] i u sizes base h k = refl
  all_set (v ∷ vs) zero u sizes base h k = and_true (fits structs u sizes base) _ k (both (fits structs v sizes base) _ h).1
  all_set (v ∷ vs) (suc i) u sizes base h k = let b = both (fits structs v sizes base) _ h in and_true (fits structs v sizes base) _ b.0 (all_set vs i u sizes base b.1 k)

  abbrev fits_shape : Value → Shape → Bool
  fits_shape v s = fits structs v (whole_of s).sizes (whole_of s).base

  each_at : (vs : List Value) (ms : List Shape) (i : ℕ) (m : Shape) → each_fit (map (fits structs) vs) ms ≡ true → slice_get ms i ≡ Some m → (w : Value) × (slice_get vs i ≡ Some w) × (fits_shape w m ≡ true)
  each_at vs [] i m h e = absurd (cc)
  each_at [] (n ∷ ms) i m h e = absurd (cc)
  each_at (v ∷ vs) (n ∷ ms) zero m h e = let q : n ≡ m = cc in (v, refl, subst (λ (m : Shape). fits_shape v m ≡ true) q (both (fits_shape v n) _ h).0)
  each_at (v ∷ vs) (n ∷ ms) (suc i) m h e = each_at vs ms i m (both (fits_shape v n) _ h).1 e

  each_set : (vs : List Value) (ms : List Shape) (i : ℕ) (m : Shape) (u : Value) → each_fit (map (fits structs) vs) ms ≡ true → slice_get ms i ≡ Some m → fits_shape u m ≡ true → each_fit (map (fits structs) (slice_set vs i u)) ms ≡ true
  each_set vs [] i m u h e k = absurd (cc)
  each_set [] (n ∷ ms) i m u h e k = absurd (cc)
  each_set (v ∷ vs) (n ∷ ms) zero m u h e k = let q : m ≡ n = cc in and_true (fits_shape u n) _ (subst (λ (m : Shape). fits_shape u m ≡ true) q k) (both (fits_shape v n) _ h).1
  each_set (v ∷ vs) (n ∷ ms) (suc i) m u h e k = let b = both (fits_shape v n) _ h in and_true (fits_shape v n) _ b.0 (each_set vs ms i m u b.1 e k)

  -- an array has its length
  pub array_long : (vs : List Value) (n : ℕ) (sizes : List ℕ) (base : Option Base) → fits_in (layer.List vs) (n ∷ sizes) base ≡ true → length vs ≡ n
  array_long vs n sizes base h = sym (map_length (fits structs) vs) ∙ eqb-true _ _ (both (length (map (fits structs) vs) == n) _ h).0

  array_in : (x : Value-F Value) (n : ℕ) (sizes : List ℕ) (base : Option Base) (i : ℕ) → fits_in x (n ∷ sizes) base ≡ true → i < n → Leads (array n sizes base) x i (shape sizes base)
  array_in (layer.One s) n sizes base i h l = absurd (cc)
  array_in (layer.Fields vs) n sizes base i h l = absurd (cc)
  array_in (layer.List vs) n sizes base i h l =
      let b = both (length (map (fits structs) vs) == n) _ h in
      let e = array_long vs n sizes base h in
      let w = all_at vs i sizes base b.1 (omega arith) in
      record {
        part = w.0;
        at = w.1;
        fit = w.2;
        put = λ u k. fits_roll (layer.List (slice_set vs i u)) (n ∷ sizes) base ∙ and_true (length (map (fits structs) (slice_set vs i u)) == n) _ (eq-eqb _ _ (map_length (fits structs) (slice_set vs i u) ∙ length-set vs i u ∙ e)) (all_set vs i u sizes base b.1 k);
      }

  pub array_leads : (n : ℕ) (sizes : List ℕ) (base : Option Base) (i : ℕ) → i < n → (v : Value) → Fits structs (array n sizes base) v → Leads (array n sizes base) (out-Value v) i (shape sizes base)
  array_leads n sizes base i l v h = array_in (out-Value v) n sizes base i (sym (fits_out v (n ∷ sizes) base) ∙ h) l

  struct_in : (x : Value-F Value) (s i : ℕ) (m : Shape) → fits_in x [] (Some (Struct s)) ≡ true → slice_get (field_shapes structs s) i ≡ Some m → Leads (shape [] (Some (Struct s))) x i (shape (whole_of m).sizes (whole_of m).base)
  struct_in (layer.One t) s i m h e = absurd (cc)
  struct_in (layer.List vs) s i m h e = absurd (cc)
  struct_in (layer.Fields vs) s i m h e =
      let w = each_at vs (field_shapes structs s) i m h e in
      record { part = w.0; at = w.1; fit = w.2; put = λ u k. fits_roll (layer.Fields (slice_set vs i u)) [] (Some (Struct s)) ∙ each_set vs (field_shapes structs s) i m u h e k }

  pub struct_leads : (s i : ℕ) (m : Shape) → slice_get (field_shapes structs s) i ≡ Some m → (v : Value) → Fits structs (shape [] (Some (Struct s))) v → Leads (shape [] (Some (Struct s))) (out-Value v) i (shape (whole_of m).sizes (whole_of m).base)
  struct_leads s i m e v h = struct_in (out-Value v) s i m (sym (fits_out v [] (Some (Struct s))) ∙ h) e

  -- a path from one shape to another
  abbrev pub PathTo : List ℕ → Whole → Whole → Type 0
  PathTo [] a b = a ≡ b
  PathTo (i ∷ path) a b = (m : Whole) × ((v : Value) → Fits structs a v → Leads a (out-Value v) i m) × PathTo path m b

  pub path_snoc : (path : List ℕ) (i : ℕ) (a m b : Whole) → PathTo path a m → ((v : Value) → Fits structs m v → Leads m (out-Value v) i b) → PathTo (path ++ i ∷ []) a b
  path_snoc [] i a m b h l = (b, subst (λ (m : Whole). (v : Value) → Fits structs m v → Leads m (out-Value v) i b) (sym h) l, refl)
  path_snoc (j ∷ path) i a m b h l = (h.0, h.1, path_snoc path i h.0 m b h.2 l)

  pub path_at : (path : List ℕ) (a b : Whole) (v : Value) → PathTo path a b → Fits structs a v → (w : Value) × (part_at path (Some v) ≡ Some w) × Fits structs b w × (scalars w ≤ scalars v)
  path_at [] a b v h f = (v, refl, subst (λ (m : Whole). Fits structs m v) h f, omega arith)
  path_at (i ∷ path) a b v h f =
      let l = h.1 v f in
      let w = path_at path h.0 b l.part h.2 l.fit in
      let n = part_few v i l.part l.at in
      (w.0, ap (part_at path) l.at ∙ w.1, w.2, let m = w.3 in omega arith)

  pub path_put : (path : List ℕ) (a b : Whole) (v u : Value) → PathTo path a b → Fits structs a v → Fits structs b u → (w : Value) × (put_at path u (Some v) ≡ Some w) × Fits structs a w
  path_put [] a b v u h f k = (u, refl, subst (λ (m : Whole). Fits structs m u) (sym h) k)
  path_put (i ∷ path) a b v u h f k =
      let l = h.1 v f in
      let w = path_put path h.0 b l.part u h.2 l.fit k in
      (roll-Value (with_in (out-Value v) i w.0), ap (λ o. with_part (Some v) i (put_at path u o)) l.at ∙ ap (with_part (Some v) i) w.1, l.put w.0 w.2)

  -- ---- values of one shape are alike

  abbrev Resembles : Fit → Likeness → Type 0
  Resembles fit like = (sizes : List ℕ) (base : Option Base) (v : Value) → fit sizes base ≡ true → fits structs v sizes base ≡ true → like v ≡ true

  one_alike : (s : ScalarForm) (sizes : List ℕ) (base : Option Base) (x : Value-F Value) → fit_one s sizes base ≡ true → fits_in x sizes base ≡ true → alike_one s x ≡ true
  one_alike s [] (Some (Scalar k)) (layer.One t) h j =
      let a = both (same_kind (kind_of s) k) _ h in
      let b = both (same_kind (kind_of t) k) _ j in
      let p = kinds_same _ _ a.0 in
      let q = kinds_same _ _ b.0 in
      and_true (same_kind (kind_of s) (kind_of t)) _ (subst (λ (k : ScalarKind). same_kind (kind_of s) k ≡ true) (sym q) a.0) (subst (λ (k : ScalarKind). in_range FRACTION k (word_of t) ≡ true) (sym p) b.1)
  one_alike s [] (Some (Scalar k)) (layer.List vs) h j = absurd (cc)
  one_alike s [] (Some (Scalar k)) (layer.Fields vs) h j = absurd (cc)
  one_alike s [] (Some (Struct n)) x h j = absurd (cc)
  one_alike s [] None x h j = absurd (cc)
  one_alike s (m ∷ sizes) base x h j = absurd (cc)

  all_resemble : (ps : List (Pair Resembles)) (vs : List Value) (sizes : List ℕ) (base : Option Base) → length ps ≡ length vs → all_fit (map (λ (e : Pair Resembles). e.0) ps) sizes base ≡ true → all_fit (map (fits structs) vs) sizes base ≡ true → all_alike (map (λ (e : Pair Resembles). e.1) ps) vs ≡ true
  all_resemble [] [] sizes base n h k = refl
  all_resemble [] (v ∷ vs) sizes base n h k = absurd (omega arith)
  all_resemble (p ∷ ps) [] sizes base n h k = absurd (omega arith)
  all_resemble (p ∷ ps) (v ∷ vs) sizes base n h k =
      let a = both (p.0 sizes base) _ h in
      let b = both (fits structs v sizes base) _ k in
      let m : length ps ≡ length vs = omega arith in
      and_true (p.1 v) _ (p.2 sizes base v a.0 b.0) (all_resemble ps vs sizes base m a.1 b.1)

  each_resembles : (ps : List (Pair Resembles)) (vs : List Value) (shapes : List Shape) → each_fit (map (λ (e : Pair Resembles). e.0) ps) shapes ≡ true → each_fit (map (fits structs) vs) shapes ≡ true → all_alike (map (λ (e : Pair Resembles). e.1) ps) vs ≡ true
  each_resembles [] [] shapes h k = refl
  each_resembles [] (v ∷ vs) [] h k = absurd (cc)
  each_resembles [] (v ∷ vs) (s ∷ shapes) h k = absurd (cc)
  each_resembles (p ∷ ps) vs [] h k = absurd (cc)
  each_resembles (p ∷ ps) [] (s ∷ shapes) h k = absurd (cc)
  each_resembles (p ∷ ps) (v ∷ vs) (s ∷ shapes) h k =
      let a = both (p.0 (whole_of s).sizes (whole_of s).base) _ h in
      let b = both (fits_shape v s) _ k in
      and_true (p.1 v) _ (p.2 (whole_of s).sizes (whole_of s).base v a.0 b.0) (each_resembles ps vs shapes a.1 b.1)

  list_alike : (ps : List (Pair Resembles)) (sizes : List ℕ) (base : Option Base) (x : Value-F Value) → fit_list (map (λ (e : Pair Resembles). e.0) ps) sizes base ≡ true → fits_in x sizes base ≡ true → alike_list (map (λ (e : Pair Resembles). e.1) ps) x ≡ true
  list_alike ps [] base x h j = absurd (cc)
  list_alike ps (m ∷ sizes) base (layer.One t) h j = absurd (cc)
  list_alike ps (m ∷ sizes) base (layer.Fields vs) h j = absurd (cc)
  list_alike ps (m ∷ sizes) base (layer.List vs) h j =
      let a = both (length (map (λ (e : Pair Resembles). e.0) ps) == m) _ h in
      let b = both (length (map (fits structs) vs) == m) _ j in
      let n : length ps ≡ length vs = sym (map_length (λ (e : Pair Resembles). e.0) ps) ∙ eqb-true _ _ a.0 ∙ sym (eqb-true _ _ b.0) ∙ map_length (fits structs) vs in
      all_resemble ps vs sizes base n a.1 b.1

  fields_alike : (ps : List (Pair Resembles)) (sizes : List ℕ) (base : Option Base) (x : Value-F Value) → fit_fields structs (map (λ (e : Pair Resembles). e.0) ps) sizes base ≡ true → fits_in x sizes base ≡ true → alike_fields (map (λ (e : Pair Resembles). e.1) ps) x ≡ true
  fields_alike ps [] None (layer.One t) h j = absurd (cc)
  fields_alike ps [] None (layer.List vs) h j = absurd (cc)
  fields_alike ps [] None (layer.Fields vs) h j = each_resembles ps vs [] h j
  fields_alike ps [] (Some (Scalar k)) x h j = absurd (cc)
  fields_alike ps [] (Some (Struct n)) (layer.One t) h j = absurd (cc)
  fields_alike ps [] (Some (Struct n)) (layer.List vs) h j = absurd (cc)
  fields_alike ps [] (Some (Struct n)) (layer.Fields vs) h j = each_resembles ps vs (field_shapes structs n) h j
  fields_alike ps (m ∷ sizes) base x h j = absurd (cc)

  keeps_alike : KeepsValue Resembles (fit_step structs) alike_step
  keeps_alike (layer.One s) sizes base v h j = one_alike s sizes base (out-Value v) h (sym (fits_out v sizes base) ∙ j)
  keeps_alike (layer.List ps) sizes base v h j = list_alike ps sizes base (out-Value v) h (sym (fits_out v sizes base) ∙ j)
  keeps_alike (layer.Fields ps) sizes base v h j = fields_alike ps sizes base (out-Value v) h (sym (fits_out v sizes base) ∙ j)

  pub fits_alike : (w : Whole) (a b : Value) → Fits structs w a → Fits structs w b → alike a b ≡ true
  fits_alike w a b h j = value_pair Resembles (fit_step structs) alike_step keeps_alike a w.sizes w.base b h j

  -- ---- arrays of one value

  all_replicate : (n : ℕ) (v : Value) (sizes : List ℕ) (base : Option Base) → fits structs v sizes base ≡ true → all_fit (map (fits structs) (replicate n v)) sizes base ≡ true
  all_replicate zero v sizes base h = refl
  all_replicate (suc n) v sizes base h = and_true (fits structs v sizes base) _ h (all_replicate n v sizes base h)

  replicate_long : (n : ℕ) (v : Value) → length (map (fits structs) (replicate n v)) ≡ n
  replicate_long zero v = refl
  replicate_long (suc n) v = let z = replicate_long n v in omega arith

  pub list_fits : (n : ℕ) (v : Value) (sizes : List ℕ) (base : Option Base) → fits structs v sizes base ≡ true → fits structs (list (replicate n v)) (n ∷ sizes) base ≡ true
  list_fits n v sizes base h = fits_roll (layer.List (replicate n v)) (n ∷ sizes) base ∙ and_true (length (map (fits structs) (replicate n v)) == n) _ (eq-eqb _ _ (replicate_long n v)) (all_replicate n v sizes base h)
