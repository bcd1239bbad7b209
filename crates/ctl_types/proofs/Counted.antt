-- A value of a shape has as many words as the shape has scalars.
use Rattle.std.proofs.Common.{◌≡◌, ℕ, zero, suc, ℤ, ◌+◌, ◌*◌, ◌<◌, List, [], ◌∷◌, ◌++◌, map, length, get_or, sum_by, Some, Bool, true, false, ◌&&◌, refl, ap, sym, ◌∙◌, arith, flat_map}
use Rattle.std.proofs.lemmas.List.{length-append, append_assoc, append-nil, get_or_append_left}
use Rattle.std.proofs.lemmas.Bool.{ltb-true, eqb-true}
use Rattle.std.proofs.lemmas.List.Sums.{sum_by-cons}
use Rattle.std.proofs.Math.Nat.{mul_assoc}
use Rattle.ctl_types.specs.declared.shape.Base.{Base}
use Rattle.ctl_types.specs.declared.shape.Base.TheVariants.{Scalar, Struct}
use Rattle.ctl_types.specs.declared.shape.Shape.{Shape}
use Rattle.ctl_types.specs.declared.scalar.Scalar.{Scalar as ScalarForm}
use Rattle.ctl_types.specs.Scalars.{word_of}
use Rattle.ctl_types.specs.declared.value.Value.TheFolds.{map-Value}
use Rattle.ctl_types.specs.declared.value.Value.{Value}
use Rattle.ctl_types.specs.declared.value.Value.TheOpen as layer
use Rattle.ctl_types.specs.declared.value.Value.TheOpen.{Value-F}
use Rattle.ctl_types.specs.declared.program.Field.{Field}
use Rattle.ctl_types.specs.declared.program.Struct.{Struct as StructForm}
use Rattle.ctl_types.specs.Shapes.{whole_of, base_of, product, base_scalars, scalars_of, struct_scalars, counts_after, struct_counts, field_shapes}
use Rattle.ctl_types.specs.Values.{Fit, fit_one, fit_list, fit_fields, fit_step, fits, flat_step, flat, all_fit, each_fit}
use Rattle.ctl_types.specs.Typing.{base_stands}
use Rattle.ctl_types.specs.Scoping.{empty_scene, fields_stand, structs_stand}
use Rattle.ctl_types.specs.Pairs.{Pair, value_pair}

pub both : (a b : Bool) → (a && b) ≡ true → (a ≡ true) × (b ≡ true)
both true b h = (refl, h)
both false b h = absurd (cc)

-- the scalars of a field's shape
abbrev words : List ℕ → Shape → ℕ
words counts shape = scalars_of counts (whole_of shape).sizes (base_of shape)

-- ---- the counts of structs

-- the counts that are added for some structs
abbrev added : List ℕ → List StructForm → List ℕ
added counts [] = []
added counts (d ∷ rest) = struct_scalars counts d ∷ added (counts ++ struct_scalars counts d ∷ []) rest

after_is : (counts : List ℕ) (rest : List StructForm) → counts_after counts rest ≡ counts ++ added counts rest
after_is counts [] = sym (append-nil counts)
after_is counts (d ∷ rest) = after_is (counts ++ struct_scalars counts d ∷ []) rest ∙ append_assoc counts (struct_scalars counts d ∷ []) (added (counts ++ struct_scalars counts d ∷ []) rest)

-- each struct has the scalars of its fields, by all counts
abbrev Holds : List ℕ → List StructForm → List ℕ → Type 0
Holds all [] [] = Unit {0}
Holds all [] (n ∷ ns) = ⊥
Holds all (d ∷ ds) [] = ⊥
Holds all (d ∷ ds) (n ∷ ns) = (sum_by (words all) (map (λ (f : Field). f.shape) d.fields) ≡ n) × Holds all ds ns

known_base : (before : List StructForm) (counts more : List ℕ) (b : Base) → length before ≡ length counts → base_stands (empty_scene [] before counts) b ≡ true → base_scalars (counts ++ more) b ≡ base_scalars counts b
known_base before counts more (Scalar k) same h = refl
known_base before counts more (Struct n) same h =
    let low : n < length before = ltb-true n (length before) h in
    get_or_append_left counts more 0 n (rw (sym same) low)

fields_hold : (before : List StructForm) (counts more : List ℕ) (fs : List Field) → length before ≡ length counts → fields_stand (empty_scene [] before counts) fs ≡ true → sum_by (words (counts ++ more)) (map (λ (f : Field). f.shape) fs) ≡ sum_by (λ (f : Field). scalars_of counts (whole_of f.shape).sizes (base_of f.shape)) fs
fields_hold before counts more [] same h = refl
fields_hold before counts more (f ∷ fs) same h =
    let p = both _ _ h in
    let q = both _ _ p.0 in
    let r = both _ _ q.1 in
    let t = both _ _ r.0 in
    let first : words (counts ++ more) f.shape ≡ scalars_of counts (whole_of f.shape).sizes (base_of f.shape) = ap (λ n. product (whole_of f.shape).sizes * n) (known_base before counts more (base_of f.shape) same t.1) in
    let rest = fields_hold before counts more fs same p.1 in
    sum_by-cons (words (counts ++ more)) f.shape (map (λ (f : Field). f.shape) fs) ∙ ap (λ n. n + sum_by (words (counts ++ more)) (map (λ (f : Field). f.shape) fs)) first ∙ ap (λ n. scalars_of counts (whole_of f.shape).sizes (base_of f.shape) + n) rest
    ∙ sym (sum_by-cons (λ (f : Field). scalars_of counts (whole_of f.shape).sizes (base_of f.shape)) f fs)

structs_hold : (before : List StructForm) (counts all : List ℕ) (rest : List StructForm) → length before ≡ length counts → structs_stand before counts rest ≡ true → all ≡ counts ++ added counts rest → Holds all rest (added counts rest)
structs_hold before counts all [] same h is = tt
structs_hold before counts all (d ∷ rest) same h is =
    let p = both _ _ h in
    let q = both _ _ p.0 in
    let r = both _ _ q.0 in
    let more : List ℕ = struct_scalars counts d ∷ added (counts ++ struct_scalars counts d ∷ []) rest in
    let longer : length (before ++ d ∷ []) ≡ length (counts ++ struct_scalars counts d ∷ []) = length-append before (d ∷ []) ∙ ap (λ n. n + 1) same ∙ sym (length-append counts (struct_scalars counts d ∷ [])) in (
      ap (λ ns. sum_by (words ns) (map (λ (f : Field). f.shape) d.fields)) is ∙ fields_hold before counts more d.fields same r.1,
      structs_hold (before ++ d ∷ []) (counts ++ struct_scalars counts d ∷ []) all rest longer p.1 (is ∙ sym (append_assoc counts (struct_scalars counts d ∷ []) (added (counts ++ struct_scalars counts d ∷ []) rest))),
    )

at_number : (all : List ℕ) (structs : List StructForm) (counts : List ℕ) (m : ℕ) → Holds all structs counts → sum_by (words all) (field_shapes structs m) ≡ get_or counts m 0
at_number all [] [] m h = refl
at_number all [] (n ∷ ns) m h = absurd h
at_number all (d ∷ ds) [] m h = absurd h
at_number all (d ∷ ds) (n ∷ ns) zero h = h.0
at_number all (d ∷ ds) (n ∷ ns) (suc m) h = at_number all ds ns m h.1

abbrev CountsHold : List StructForm → List ℕ → Type 0
CountsHold structs counts = (m : ℕ) → sum_by (words counts) (field_shapes structs m) ≡ get_or counts m 0

counts_hold : (structs : List StructForm) → structs_stand [] [] structs ≡ true → CountsHold structs (struct_counts structs)
counts_hold structs h m =
    let is : struct_counts structs ≡ added [] structs = after_is [] structs in
    rw is (at_number (added [] structs) structs (added [] structs) m (structs_hold [] [] (added [] structs) structs refl h refl))

-- ---- values

module _ (structs : List StructForm) (counts : List ℕ) (hold : CountsHold structs counts) where
  abbrev Counted : Fit → List ℤ → Type 0
  Counted fit ws = (sizes : List ℕ) (base : Base) → fit sizes (Some base) ≡ true → length ws ≡ scalars_of counts sizes base

  all_counted : (ps : List (Pair Counted)) (sizes : List ℕ) (base : Base) → all_fit (map (λ (e : Pair Counted). e.0) ps) sizes (Some base) ≡ true → length (flat_map (λ (w : List ℤ). w) (map (λ (e : Pair Counted). e.1) ps)) ≡ length ps * scalars_of counts sizes base
  all_counted [] sizes base h = omega arith
  all_counted (p ∷ ps) sizes base h =
      let q = both _ _ h in
      let first = p.2 sizes base q.0 in
      let rest = all_counted ps sizes base q.1 in
      let next : scalars_of counts sizes base + length ps * scalars_of counts sizes base ≡ suc (length ps) * scalars_of counts sizes base = omega arith in
      length-append p.1 (flat_map (λ (w : List ℤ). w) (map (λ (e : Pair Counted). e.1) ps)) ∙ ap (λ n. n + length (flat_map (λ (w : List ℤ). w) (map (λ (e : Pair Counted). e.1) ps))) first ∙ ap (λ n. scalars_of counts sizes base + n) rest ∙ next

  each_counted : (ps : List (Pair Counted)) (shapes : List Shape) → each_fit (map (λ (e : Pair Counted). e.0) ps) shapes ≡ true → length (flat_map (λ (w : List ℤ). w) (map (λ (e : Pair Counted). e.1) ps)) ≡ sum_by (words counts) shapes
  each_counted [] [] h = refl
  each_counted [] (s ∷ shapes) h = absurd (cc)
  each_counted (p ∷ ps) [] h = absurd (cc)
  each_counted (p ∷ ps) (s ∷ shapes) h =
      let q = both _ _ h in
      let first = p.2 (whole_of s).sizes (base_of s) q.0 in
      let rest = each_counted ps shapes q.1 in
      length-append p.1 (flat_map (λ (w : List ℤ). w) (map (λ (e : Pair Counted). e.1) ps)) ∙ ap (λ n. n + length (flat_map (λ (w : List ℤ). w) (map (λ (e : Pair Counted). e.1) ps))) first ∙ ap (λ n. words counts s + n) rest ∙ sym (sum_by-cons (words counts) s shapes)

  long : {A B : Type 0} (f : A → B) (xs : List A) → length (map f xs) ≡ length xs
  long f [] = refl
  long f (x ∷ xs) = ap suc (long f xs)

  keeps_one : (x : ScalarForm) → Counted (fit_one x) (word_of x ∷ [])
  keeps_one x = λ sizes base. single sizes base where
    single : (sizes : List ℕ) (base : Base) → fit_one x sizes (Some base) ≡ true → 1 ≡ scalars_of counts sizes base
    single [] (Scalar k) h = refl
    single [] (Struct n) h = absurd (cc)
    single (m ∷ sizes) base h = absurd (cc)

  keeps_list : (ps : List (Pair Counted)) (sizes : List ℕ) (base : Base) → fit_list (map (λ (e : Pair Counted). e.0) ps) sizes (Some base) ≡ true → length (flat_map (λ (w : List ℤ). w) (map (λ (e : Pair Counted). e.1) ps)) ≡ scalars_of counts sizes base
  keeps_list ps [] base h = absurd (cc)
  keeps_list ps (m ∷ sizes) base h =
      let q = both _ _ h in
      let count : length (map (λ (e : Pair Counted). e.0) ps) ≡ m = eqb-true _ m q.0 in
      let each : length ps ≡ m = sym (long (λ (e : Pair Counted). e.0) ps) ∙ count in
      all_counted ps sizes base q.1 ∙ ap (λ n. n * scalars_of counts sizes base) each ∙ sym (mul_assoc m (product sizes) (base_scalars counts base))

  keeps_fields : (ps : List (Pair Counted)) (sizes : List ℕ) (base : Base) → fit_fields structs (map (λ (e : Pair Counted). e.0) ps) sizes (Some base) ≡ true → length (flat_map (λ (w : List ℤ). w) (map (λ (e : Pair Counted). e.1) ps)) ≡ scalars_of counts sizes base
  keeps_fields ps [] (Scalar k) h = absurd (cc)
  keeps_fields ps [] (Struct n) h =
      let one : get_or counts n 0 ≡ 1 * get_or counts n 0 = omega arith in
      each_counted ps (field_shapes structs n) h ∙ hold n ∙ one
  keeps_fields ps (m ∷ sizes) base h = absurd (cc)

  keeps : (y : Value-F (Pair Counted)) → Counted (fit_step structs (map-Value (Pair Counted) Fit (λ e. e.0) y)) (flat_step (map-Value (Pair Counted) (List ℤ) (λ e. e.1) y))
  keeps (layer.One x) = keeps_one x
  keeps (layer.List ps) = keeps_list ps
  keeps (layer.Fields ps) = keeps_fields ps

pub counted : (structs : List StructForm) → structs_stand [] [] structs ≡ true → (v : Value) (sizes : List ℕ) (base : Base) → fits structs v sizes (Some base) ≡ true → length (flat v) ≡ scalars_of (struct_counts structs) sizes base
counted structs h v = value_pair (Counted structs (struct_counts structs) (counts_hold structs h)) (fit_step structs) flat_step (keeps structs (struct_counts structs) (counts_hold structs h)) v
