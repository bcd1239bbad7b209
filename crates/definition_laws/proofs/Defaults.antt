-- The value of a default is of its parameter's shape.
use Rattle.std.proofs.Common.{◌≡◌, ℕ, zero, suc, ◌+◌, ◌*◌, ◌≤◌, ◌<◌, List, [], ◌∷◌, ◌++◌, map, length, Option, Some, None, Bool, true, false, ◌&&◌, ◌==◌, nat_le, nat_lt, refl, sym, ap, subst, ◌∙◌, arith, slice_get, eqb-true, leb-true, le-leb, length-append}
use Rattle.std.specs.Prelude.{get_or}
use Rattle.std.proofs.lemmas.List.{append_assoc}
use Rattle.ctl_base.specs.declared.limits.TheConstants.{ARRAY_SIZE, SCALARS}
use Rattle.ctl_types.specs.declared.shape.Extent.{Extent}
use Rattle.ctl_types.specs.declared.shape.Extent.TheVariants as extent
use Rattle.ctl_types.specs.declared.shape.Size.{Size}
use Rattle.ctl_types.specs.declared.shape.Size.TheVariants as size
use Rattle.ctl_types.specs.declared.shape.Base.{Base}
use Rattle.ctl_types.specs.declared.shape.Shape.{Shape}
use Rattle.ctl_types.specs.declared.value.Value.{Value, roll-Value, out-Value}
use Rattle.ctl_types.specs.declared.value.Value.TheOpen as layer
use Rattle.ctl_types.specs.declared.value.Value.TheOpen.{Value-F}
use Rattle.ctl_types.specs.declared.value.Value.TheFolds.{fold-roll-Value, map-Value}
use Rattle.ctl_types.specs.declared.value.Value.TheViews.{roll-out-Value}
use Rattle.ctl_types.specs.declared.program.Struct.{Struct}
use Rattle.ctl_types.specs.Shapes.{whole, extents, base_of, numbered, local, size_in, product, base_scalars, struct_counts}
use Rattle.ctl_types.specs.Values.{Fit, Fits, fits, fit_step, all_fit, part_in, part_of, length_in, length_of, own_size, sizes_at, sizes_fit, scalars}
use Rattle.ctl_types.specs.Typing.{Scene, are_stated, size_counted, size_stands, sizes_stand, base_stands, shape_stands}
use Rattle.ctl_types.specs.Laws.{WordsAreCounted}
use Rattle.ctl_types.specs.Scoping.{default_stands, structs_stand}
use Rattle.ctl_check_rules.specs.Shapes.{extent_fits, extents_fit}
use Rattle.definition_laws.proofs.Verdicts.{both, and_true}
use Rattle.definition_laws.proofs.Values.{stands_stated}

-- ---- the first element of an array

pub record IsArray (structs : List Struct) (v : Value) (n : ℕ) (sizes : List ℕ) (b : Option Base) : Type 0 where
  pub first : Value
  pub part : part_of (Some v) 0 ≡ Some first
  pub long : length_of (Some v) ≡ n
  pub fit : fits structs first sizes b ≡ true

map_long : {A B : Type 0} (f : A → B) (xs : List A) → length (map f xs) ≡ length xs
map_long f [] = refl
map_long f (x ∷ xs) = ap suc (map_long f xs)

array_of : (structs : List Struct) (v : Value) (n : ℕ) (sizes : List ℕ) (b : Option Base) → 1 ≤ n → fits structs v (n ∷ sizes) b ≡ true → IsArray structs v n sizes b
array_of structs v n sizes b l h = by (out-Value v) refl (subst (λ (v : Value). fits structs v (n ∷ sizes) b ≡ true) (sym (roll-out-Value v)) h) where
  fits_roll : (y : Value-F Value) → fits structs (roll-Value y) (n ∷ sizes) b ≡ fit_step structs (map-Value Value Fit (fits structs) y) (n ∷ sizes) b
  fits_roll y = ap (λ (f : Fit). f (n ∷ sizes) b) (fold-roll-Value Fit (fit_step structs) y)

  by : (y : Value-F Value) → out-Value v ≡ y → fits structs (roll-Value y) (n ∷ sizes) b ≡ true → IsArray structs v n sizes b
  by (layer.One s) e k = let f = sym (fits_roll (layer.One s)) ∙ k in absurd (cc)
  by (layer.List []) e k =
      let f = both (0 == n) _ (sym (fits_roll (layer.List [])) ∙ k) in
      let z = eqb-true 0 n f.0 in
      absurd (omega arith)
  by (layer.List (w ∷ ws)) e k =
      let f = both (length (map (fits structs) (w ∷ ws)) == n) _ (sym (fits_roll (layer.List (w ∷ ws))) ∙ k) in
      record {
        first = w;
        part = ap (λ (y : Value-F Value). part_in y 0) e;
        long = ap (λ (y : Value-F Value). length_in y) e ∙ sym (map_long (fits structs) (w ∷ ws)) ∙ eqb-true _ n f.0;
        fit = (both (fits structs w sizes b) _ f.1).0;
      }
  by (layer.Fields ws) e k = let f = sym (fits_roll (layer.Fields ws)) ∙ k in absurd (cc)

-- ---- the sizes of a value where extents are open

get_here : (pre : List ℕ) (m : ℕ) (rest : List ℕ) → get_or (pre ++ m ∷ rest) (length pre) 0 ≡ m
get_here [] m rest = refl
get_here (p ∷ pre) m rest = get_here pre m rest

pub record SizesRight (xs : List Extent) (ns pre own : List ℕ) : Type 0 where
  pub fit : sizes_fit own ≡ true
  pub same : map (size_in (pre ++ own)) (numbered (length pre) xs) ≡ ns

sizes_right : (structs : List Struct) (xs : List Extent) (ns pre : List ℕ) (b : Option Base) (v : Value) → extents_fit xs (map size.Stated ns) ≡ true → sizes_fit ns ≡ true → fits structs v ns b ≡ true → SizesRight xs ns pre (sizes_at xs (Some v))
sizes_right structs [] [] pre b v e r h = record { fit = refl; same = refl }
sizes_right structs [] (n ∷ ns) pre b v e r h = absurd (cc)
sizes_right structs (x ∷ xs) [] pre b v e r h = absurd (cc)
sizes_right structs (extent.Stated m ∷ xs) (n ∷ ns) pre b v e r h =
    let range = both (nat_le 1 n && nat_le n ARRAY_SIZE) _ r in
    let a = array_of structs v n ns b (leb-true 1 n (both (nat_le 1 n) _ range.0).0) h in
    let f = both (m == n) _ e in
    let same = eqb-true m n f.0 in
    let rest = sizes_right structs xs ns pre b a.first f.1 range.1 a.fit in
    subst (λ (o : Option Value). SizesRight (extent.Stated m ∷ xs) (n ∷ ns) pre (sizes_at xs o)) (sym a.part)
    (record {
      fit = rest.fit;
      same = ap (λ (all : List ℕ). m ∷ all) rest.same ∙ ap (λ k. k ∷ ns) same;
    })
sizes_right structs (extent.Unstated ∷ xs) (n ∷ ns) pre b v e r h =
    let range = both (nat_le 1 n && nat_le n ARRAY_SIZE) _ r in
    let a = array_of structs v n ns b (leb-true 1 n (both (nat_le 1 n) _ range.0).0) h in
    let rest = sizes_right structs xs ns (pre ++ n ∷ []) b a.first e range.1 a.fit in
    let own = sizes_at xs (Some a.first) in
    let one : (pre ++ n ∷ []) ++ own ≡ pre ++ (n ∷ own) = append_assoc pre (n ∷ []) own in
    let long : length (pre ++ n ∷ []) ≡ length pre + 1 = length-append pre (n ∷ []) in
    let back : map (size_in (pre ++ (n ∷ own))) (numbered (length pre + 1) xs) ≡ ns = ap (λ opens. map (size_in opens) (numbered (length pre + 1) xs)) (sym one) ∙ ap (λ k. map (size_in ((pre ++ n ∷ []) ++ own)) (numbered k xs)) (sym long) ∙ rest.same in
    let made : SizesRight (extent.Unstated ∷ xs) (n ∷ ns) pre (n ∷ own) = record {
      fit = and_true (nat_le 1 n && nat_le n ARRAY_SIZE) _ range.0 rest.fit;
      same = ap (λ (k : ℕ). k ∷ map (size_in (pre ++ (n ∷ own))) (numbered (length pre + 1) xs)) (get_here pre n own) ∙ ap (λ (all : List ℕ). n ∷ all) back;
    } in
    subst (λ (o : Option Value). SizesRight (extent.Unstated ∷ xs) (n ∷ ns) pre (length_of (Some v) ∷ sizes_at xs o)) (sym a.part)
    (subst (λ k. SizesRight (extent.Unstated ∷ xs) (n ∷ ns) pre (k ∷ own)) (sym a.long) made)

-- ---- stated sizes as numbers

numbers : (sizes : List Size) → are_stated sizes ≡ true → (ns : List ℕ) × (sizes ≡ map size.Stated ns)
numbers [] h = ([], refl)
numbers (size.Stated n ∷ sizes) h = let rest = numbers sizes h in (n ∷ rest.0, ap (λ (all : List Size). size.Stated n ∷ all) rest.1)
numbers (size.Open k ∷ sizes) h = absurd (cc)

numbers_in : (ns : List ℕ) → map (size_in []) (map size.Stated ns) ≡ ns
numbers_in [] = refl
numbers_in (n ∷ ns) = ap (λ (all : List ℕ). n ∷ all) (numbers_in ns)

numbers_counted : (ns : List ℕ) → map size_counted (map size.Stated ns) ≡ ns
numbers_counted [] = refl
numbers_counted (n ∷ ns) = ap (λ (all : List ℕ). n ∷ all) (numbers_counted ns)

numbers_fit : (x : Scene) (ns : List ℕ) → sizes_stand x (map size.Stated ns) ≡ true → sizes_fit ns ≡ true
numbers_fit x [] h = refl
numbers_fit x (n ∷ ns) h = let p = both (nat_le 1 n && nat_le n ARRAY_SIZE) _ h in and_true (nat_le 1 n && nat_le n ARRAY_SIZE) _ p.0 (numbers_fit x ns p.1)

-- ---- defaults

-- a default is of its parameter's shape, where its sizes fit that shape's extents and stand
pub default_right : WordsAreCounted → (structs : List Struct) → structs_stand [] [] structs ≡ true → (shape : Shape) (x : Scene) → x.opens ≡ 0 → x.counts ≡ struct_counts structs → (sizes : List Size) (v : Value)
    → extents_fit (extents shape) sizes ≡ true → shape_stands x (record { sizes = sizes; base = base_of shape }) ≡ true → Fits structs (whole [] sizes (Some (base_of shape))) v → default_stands structs shape (Some v) ≡ true
default_right words structs all shape x none counts sizes v fit stands h =
    let b = base_of shape in
    let p = both (sizes_stand x sizes && base_stands x b) _ stands in
    let q = both (sizes_stand x sizes) _ p.0 in
    let ns = numbers sizes (stands_stated x none sizes q.0) in
    let value : fits structs v ns.0 (Some b) ≡ true = subst (λ (m : List ℕ). fits structs v m (Some b) ≡ true) (ap (λ (s : List Size). map (size_in []) s) ns.1 ∙ numbers_in ns.0) h in
    let range : sizes_fit ns.0 ≡ true = numbers_fit x ns.0 (subst (λ (s : List Size). sizes_stand x s ≡ true) ns.1 q.0) in
    let count : product (map size_counted sizes) * base_scalars x.counts b ≡ product ns.0 * base_scalars (struct_counts structs) b = ap (λ (s : List Size). product (map size_counted s) * base_scalars x.counts b) ns.1 ∙ ap (λ (m : List ℕ). product m * base_scalars x.counts b) (numbers_counted ns.0) ∙ ap (λ (cs : List ℕ). product ns.0 * base_scalars cs b) counts in
    let few : scalars v ≤ SCALARS = subst (λ m. m ≤ SCALARS) (count ∙ sym (words structs all v ns.0 b value)) (leb-true _ _ p.1) in
    let right = sizes_right structs (extents shape) ns.0 [] (Some b) v (subst (λ (s : List Size). extents_fit (extents shape) s ≡ true) ns.1 fit) range value in
    and_true (sizes_fit (sizes_at (extents shape) (Some v)) && nat_le (scalars v) SCALARS) _
    (and_true (sizes_fit (sizes_at (extents shape) (Some v))) _ right.fit (le-leb _ _ few))
    (subst (λ (m : List ℕ). fits structs v m (Some b) ≡ true) (sym right.same) value)
