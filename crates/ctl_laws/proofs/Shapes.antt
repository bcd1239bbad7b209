-- Types against shapes, and what stands in the variables.
use Rattle.std.proofs.Common.{◌≡◌, ℕ, zero, suc, pos, neg_ℤ, ◌^◌, ◌-◌, ◌≤◌, ◌<◌, List, [], ◌∷◌, map, length, Option, Some, None, Bool, true, false, ◌&&◌, nat_le, refl, ap, subst, ◌∙◌, arith, slice_get, slice_set, eqb-true, leb-true, ltb-true, le-leb}
use Rattle.std.proofs.lemmas.Int.{ints}
use Rattle.std.specs.Prelude.{get_or}
use Rattle.fix_num.specs.declared.TheConstants.{FRACTION}
use Rattle.ctl_base.specs.declared.kind.ScalarKind.{ScalarKind}
use Rattle.ctl_base.specs.declared.kind.ScalarKind.TheVariants as kind
use Rattle.ctl_base.specs.declared.limits.TheConstants.{ARRAY_SIZE}
use Rattle.ctl_types.specs.declared.shape.Size.{Size}
use Rattle.ctl_types.specs.declared.shape.Size.TheVariants.{Stated, Open}
use Rattle.ctl_types.specs.declared.shape.Base.{Base}
use Rattle.ctl_types.specs.declared.shape.Base.TheVariants.{Scalar, Struct}
use Rattle.ctl_types.specs.declared.shape.Shape.{Shape}
use Rattle.ctl_types.specs.declared.program.Struct.{Struct as StructForm}
use Rattle.ctl_types.specs.declared.value.Value.{Value}
use Rattle.ctl_types.specs.Scalars.{in_range}
use Rattle.ctl_types.specs.Shapes.{Whole, whole, whole_of, local, through, size_in, field_shapes}
use Rattle.ctl_types.specs.Values.{Env, var_of, sizes_fit}
use Rattle.ctl_types.specs.Typing.{Typed, has, is_scalar, is_index, same_base, same_bases, same_size, same_sizes, are_stated, element_in, element_type, shape_type, field_in, field_type, variable_type, Variable, Variables, Scene, size_stands, sizes_stand}
use Rattle.ctl_types.specs.Scoping.{is_free}
use Rattle.ctl_laws.specs.Sound.{Of, variable_shape, Holds, Stands}
use Rattle.ctl_laws.proofs.Values.{both, and_true, kinds_same, array, shape}
use Rattle.ctl_laws.proofs.Ranges.{within}
use Rattle.ctl_laws.proofs.Runs.{IndexKind}

base_same : (a b : Base) → same_base a b ≡ true → a ≡ b
base_same (Scalar k) (Scalar l) h = ap Scalar (kinds_same k l h)
base_same (Struct m) (Struct n) h = ap Struct (eqb-true m n h)
base_same (Scalar k) (Struct n) h = absurd (cc)
base_same (Struct m) (Scalar k) h = absurd (cc)

bases_same : (a b : Option Base) → same_bases a b ≡ true → a ≡ b
bases_same None None h = refl
bases_same (Some a) (Some b) h = ap Some (base_same a b h)
bases_same None (Some b) h = absurd (cc)
bases_same (Some a) None h = absurd (cc)

pub size_same : (a b : Size) → same_size a b ≡ true → a ≡ b
size_same (Stated m) (Stated n) h = ap Stated (eqb-true m n h)
size_same (Open m) (Open n) h = ap Open (eqb-true m n h)
size_same (Stated m) (Open n) h = absurd (cc)
size_same (Open m) (Stated n) h = absurd (cc)

pub sizes_same : (a b : List Size) → same_sizes a b ≡ true → a ≡ b
sizes_same [] [] h = refl
sizes_same [] (e ∷ es) h = absurd (cc)
sizes_same (d ∷ ds) [] h = absurd (cc)
sizes_same (d ∷ ds) (e ∷ es) h = let b = both (same_size d e) _ h in let p = size_same d e b.0 in let q = sizes_same ds es b.1 in cc

-- stated sizes are the same in each call
pub stated_sizes : (a b : List ℕ) (sizes : List Size) → are_stated sizes ≡ true → map (size_in a) sizes ≡ map (size_in b) sizes
stated_sizes a b [] h = refl
stated_sizes a b (Stated n ∷ sizes) h = ap (λ k. n ∷ k) (stated_sizes a b sizes h)
stated_sizes a b (Open k ∷ sizes) h = absurd (cc)

pub stated_whole : (opens : List ℕ) (m : Shape) → are_stated (local 0 m).sizes ≡ true → whole opens (local 0 m).sizes (Some (local 0 m).base) ≡ whole_of m
stated_whole opens m h = ap (λ (d : List ℕ). shape d (Some (local 0 m).base)) (stated_sizes opens [] (local 0 m).sizes h)

stated_through : (es sizes : List Size) → are_stated sizes ≡ true → map (through es) sizes ≡ sizes
stated_through es [] h = refl
stated_through es (Stated n ∷ sizes) h = ap (λ k. Stated n ∷ k) (stated_through es sizes h)
stated_through es (Open k ∷ sizes) h = absurd (cc)

-- ---- sizes in range

size_at : (opens : List ℕ) (k : ℕ) → sizes_fit opens ≡ true → k < length opens → (1 ≤ get_or opens k 0) × (get_or opens k 0 ≤ ARRAY_SIZE)
size_at [] k h l = absurd (omega arith)
size_at (n ∷ opens) zero h l = let b = both (nat_le 1 n && nat_le n ARRAY_SIZE) _ h in let c = both (nat_le 1 n) _ b.0 in (leb-true _ _ c.0, leb-true _ _ c.1)
size_at (n ∷ opens) (suc k) h l = size_at opens k (both (nat_le 1 n && nat_le n ARRAY_SIZE) _ h).1 (omega arith)

leb_true : (a b : ℕ) → a ≤ b → nat_le a b ≡ true
leb_true a b l = le-leb a b l

pub size_fits : (s : Scene) (opens : List ℕ) (size : Size) → length opens ≡ s.opens → sizes_fit opens ≡ true → size_stands s size ≡ true → (1 ≤ size_in opens size) × (size_in opens size ≤ ARRAY_SIZE)
size_fits s opens (Stated n) l h w = let b = both (nat_le 1 n) _ w in (leb-true _ _ b.0, leb-true _ _ b.1)
size_fits s opens (Open k) l h w = let q : k < s.opens = ltb-true _ _ w in size_at opens k h (omega arith)

pub size_range : (s : Scene) (opens : List ℕ) (size : Size) → length opens ≡ s.opens → sizes_fit opens ≡ true → size_stands s size ≡ true → in_range FRACTION kind.Int (pos (size_in opens size)) ≡ true
size_range s opens size l h w = let b = (size_fits s opens size l h w).1 in within (neg_ℤ (pos (2 ^ 31))) (pos (2 ^ 31 - 1)) (pos (size_in opens size)) (omega (arith, ints)) (omega (arith, ints))

pub sizes_range : (s : Scene) (opens : List ℕ) (sizes : List Size) → length opens ≡ s.opens → sizes_fit opens ≡ true → sizes_stand s sizes ≡ true → sizes_fit (map (size_in opens) sizes) ≡ true
sizes_range s opens [] l h w = refl
sizes_range s opens (x ∷ sizes) l h w =
    let b = both (size_stands s x) _ w in
    let c = size_fits s opens x l h b.0 in
    and_true (nat_le 1 (size_in opens x) && nat_le (size_in opens x) ARRAY_SIZE) _ (and_true (nat_le 1 (size_in opens x)) _ (leb_true _ _ c.0) (leb_true _ _ c.1)) (sizes_range s opens sizes l h b.1)

module _ (opens : List ℕ) where
  abbrev pub full : Typed → Whole
  full t = whole opens t.sizes t.base

  pub has_full : (t : Typed) (sizes : List Size) (base : Option Base) → has t sizes base ≡ true → (t.well ≡ true) × (full t ≡ whole opens sizes base)
  has_full t sizes base h =
      let a = both t.well _ h in
      let b = both (same_sizes t.sizes sizes) _ a.1 in
      (a.0, ap (λ (d : List Size). whole opens d t.base) (sizes_same t.sizes sizes b.0) ∙ ap (whole opens sizes) (bases_same t.base base b.1))

  -- an index is of one of three kinds
  pub index_full : (t : Typed) → is_index t ≡ true → (k : ScalarKind) × IndexKind k × (is_scalar k t ≡ true)
  index_full t h = by (is_scalar kind.Bool t) (is_scalar kind.Int t) (is_scalar kind.Unsigned t) refl refl refl where
    by : (a b c : Bool) → is_scalar kind.Bool t ≡ a → is_scalar kind.Int t ≡ b → is_scalar kind.Unsigned t ≡ c → (k : ScalarKind) × IndexKind k × (is_scalar k t ≡ true)
    by true b c p q r = (kind.Bool, tt, p)
    by false true c p q r = (kind.Int, tt, q)
    by false false true p q r = (kind.Unsigned, tt, r)
    by false false false p q r = absurd (cc)

  element_cases : (well : Bool) (sizes : List Size) (base : Option Base) (depth : ℕ) → (element_in well sizes base depth).well ≡ true → (well ≡ true) × (n : ℕ) × (whole opens sizes base ≡ array n (map (size_in opens) (element_in well sizes base depth).sizes) (element_in well sizes base depth).base)
  element_cases well [] base depth h = absurd (cc)
  element_cases well (d ∷ sizes) base depth h = (h, size_in opens d, refl)

  pub element_full : (t : Typed) → (element_type t).well ≡ true → (t.well ≡ true) × (n : ℕ) × (full t ≡ array n (map (size_in opens) (element_type t).sizes) (element_type t).base)
  element_full t h = element_cases t.well t.sizes t.base t.depth h

  get_through : (es : List Size) (k : ℕ) → size_in opens (get_or es k (Stated 0)) ≡ get_or (map (size_in opens) es) k 0
  get_through [] k = refl
  get_through (e ∷ es) zero = refl
  get_through (e ∷ es) (suc k) = get_through es k

  size_through : (es : List Size) (e : Size) → size_in opens (through es e) ≡ size_in (map (size_in opens) es) e
  size_through es (Stated n) = refl
  size_through es (Open k) = get_through es k

  sizes_through : (es sizes : List Size) → map (size_in opens) (map (through es) sizes) ≡ map (size_in (map (size_in opens) es)) sizes
  sizes_through es [] = refl
  sizes_through es (d ∷ sizes) = let a = size_through es d in let b = sizes_through es sizes in cc

  -- a shape of the callee is what it is with the sizes that it is called with
  pub whole_through : (es sizes : List Size) (base : Option Base) → whole opens (map (through es) sizes) base ≡ whole (map (size_in opens) es) sizes base
  whole_through es sizes base = ap (λ (d : List ℕ). shape d base) (sizes_through es sizes)

-- the fields of all structs have stated sizes
abbrev pub FieldsStated : List StructForm → Type 0
FieldsStated structs = (m n : ℕ) (f : Shape) → slice_get (field_shapes structs m) n ≡ Some f → are_stated (local 0 f).sizes ≡ true

module _ (opens : List ℕ) (s : Scene) (stated : FieldsStated s.structs) where
  shape_cases : (well : Bool) (depth m n : ℕ) (o : Option Shape) → slice_get (field_shapes s.structs m) n ≡ o → (shape_type well depth o).well ≡ true → (well ≡ true) × (f : Shape) × (o ≡ Some f) × (full opens (shape_type well depth o) ≡ whole_of f)
  shape_cases well depth m n None e h = absurd (cc)
  shape_cases well depth m n (Some f) e h = ((both well _ h).0, f, refl, stated_whole opens f (stated m n f e))

  field_cases : (well : Bool) (sizes : List Size) (base : Option Base) (depth n : ℕ) → (field_in s well sizes base depth n).well ≡ true → (well ≡ true) × (m : ℕ) × (f : Shape) × (slice_get (field_shapes s.structs m) n ≡ Some f) × (whole opens sizes base ≡ shape [] (Some (Struct m))) × (full opens (field_in s well sizes base depth n) ≡ whole_of f)
  field_cases well (d ∷ sizes) base depth n h = absurd (cc)
  field_cases well [] None depth n h = absurd (cc)
  field_cases well [] (Some (Scalar k)) depth n h = absurd (cc)
  field_cases well [] (Some (Struct m)) depth n h = let c = shape_cases well depth m n (slice_get (field_shapes s.structs m) n) refl h in (c.0, m, c.1, c.2, refl, c.3)

  pub field_full : (t : Typed) (n : ℕ) → (field_type s t n).well ≡ true → (t.well ≡ true) × (m : ℕ) × (f : Shape) × (slice_get (field_shapes s.structs m) n ≡ Some f) × (full opens t ≡ shape [] (Some (Struct m))) × (full opens (field_type s t n) ≡ whole_of f)
  field_full t n h = field_cases t.well t.sizes t.base t.depth n h

-- ---- variables

pub type_some : (o : Option (Option Variable)) → (variable_type o).well ≡ true → (h : Variable) × (o ≡ Some (Some h))
type_some None e = absurd (cc)
type_some (Some None) e = absurd (cc)
type_some (Some (Some h)) e = (h, refl)

module _ (structs : List StructForm) (opens : List ℕ) where
  holds_some : (h : Variable) (o : Option Value) → Holds structs opens (Some h) o → (v : Value) × (o ≡ Some v) × Of structs (variable_shape opens h) v
  holds_some h None t = absurd t
  holds_some h (Some v) t = (v, refl, t)

  pub stand_at : (scope : Variables) (env : Env) (x : ℕ) (h : Variable) → Stands structs opens scope env → slice_get scope x ≡ Some (Some h) → (v : Value) × (var_of env x ≡ Some v) × Of structs (variable_shape opens h) v
  stand_at [] env x h t e = absurd (cc)
  stand_at (g ∷ scope) [] x h t e = absurd t
  stand_at (g ∷ scope) (o ∷ env) zero h t e = let q : g ≡ Some h = cc in holds_some h o (subst (λ (g : Option Variable). Holds structs opens g o) q t.0)
  stand_at (g ∷ scope) (o ∷ env) (suc x) h t e = stand_at scope env x h t.1 e

  pub stand_set : (scope : Variables) (env : Env) (x : ℕ) (h : Variable) (v : Value) → Stands structs opens scope env → slice_get scope x ≡ Some (Some h) → Of structs (variable_shape opens h) v → Stands structs opens scope (slice_set env x (Some v))
  stand_set [] env x h v t e f = absurd (cc)
  stand_set (g ∷ scope) [] x h v t e f = absurd t
  stand_set (g ∷ scope) (o ∷ env) zero h v t e f = let q : Some h ≡ g = cc in (subst (λ (g : Option Variable). Holds structs opens g (Some v)) q f, t.1)
  stand_set (g ∷ scope) (o ∷ env) (suc x) h v t e f = (t.0, stand_set scope env x h v t.1 e f)

  pub stand_declared : (scope : Variables) (env : Env) (x : ℕ) (h : Variable) (v : Value) → Stands structs opens scope env → is_free (slice_get scope x) ≡ true → Of structs (variable_shape opens h) v → Stands structs opens (slice_set scope x (Some h)) (slice_set env x (Some v))
  stand_declared [] env x h v t e f = absurd (cc)
  stand_declared (g ∷ scope) [] x h v t e f = absurd t
  stand_declared (g ∷ scope) (o ∷ env) zero h v t e f = (f, t.1)
  stand_declared (g ∷ scope) (o ∷ env) (suc x) h v t e f = (t.0, stand_declared scope env x h v t.1 e f)
