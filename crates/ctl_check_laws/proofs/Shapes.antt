-- Kinds, sizes and shapes.
use Rattle.std.proofs.Common.{◌≡◌, ℕ, zero, suc, ◌+◌, ◌-◌, ◌*◌, ◌^◌, ◌≤◌, ◌<◌, min, List, [], ◌∷◌, ◌++◌, append_assoc, map, length, get_or, Option, Some, None, Bool, true, false, ◌&&◌, ◌==◌, if◌then◌else◌, nat_le, nat_lt, refl, sym, ap, subst, ◌∙◌, arith, eqb-true, eq-eqb, leb-true, ltb-true, le-leb, lt-ltb, le-mul_of_pos_right, mul_assoc, sum_by}
use Rattle.ctl_base.specs.declared.kind.ScalarKind.{ScalarKind}
use Rattle.ctl_base.specs.declared.kind.ScalarKind.TheVariants as kind
use Rattle.ctl_base.specs.declared.limits.TheConstants.{ARRAY_SIZE, SCALARS}
use Rattle.ctl_types.specs.declared.shape.Base.{Base}
use Rattle.ctl_types.specs.declared.shape.Base.TheVariants.{Scalar, Struct}
use Rattle.ctl_types.specs.declared.shape.Extent.{Extent}
use Rattle.ctl_types.specs.declared.shape.Extent.TheVariants as extent
use Rattle.ctl_types.specs.declared.shape.Size.{Size}
use Rattle.ctl_types.specs.declared.shape.Size.TheVariants.{Stated, Open}
use Rattle.ctl_types.specs.declared.shape.Shape.{Shape}
use Rattle.ctl_types.specs.declared.shape.LocalShape.{LocalShape}
use Rattle.ctl_types.specs.declared.value.Value.{Value}
use Rattle.ctl_types.specs.Scalars.{same_kind}
use Rattle.ctl_types.specs.Shapes.{extents, base_of, open_count, numbered, local, through, size_in, product, base_scalars}
use Rattle.ctl_types.specs.Values.{own_size, sizes_at, sizes_fit, part_of}
use Rattle.ctl_types.specs.Typing.{same_base, same_bases, same_size, same_sizes, are_stated, Scene, size_stands, sizes_stand, base_stands, size_counted, shape_stands}
use Rattle.ctl_check_rules.specs.Operators.{short}
use Rattle.ctl_check_rules.specs.Shapes.{stated_size, stated_sizes, extent_fits, extents_fit, open_sizes_in}
use Rattle.ctl_check_laws.specs.Accepted.{value_stands}
use Rattle.ctl_check_laws.proofs.Basics.{both, and_true, length_more, or_end}

-- ---- what is the same

pub kind_same : (a : ScalarKind) → same_kind a a ≡ true
kind_same kind.Bool = refl
kind_same kind.Int = refl
kind_same kind.Unsigned = refl
kind_same kind.Half = refl
kind_same kind.Float = refl

pub kinds_same : (a b : ScalarKind) → same_kind a b ≡ true → a ≡ b
kinds_same kind.Bool kind.Bool h = refl
kinds_same kind.Bool kind.Int h = absurd (cc)
kinds_same kind.Bool kind.Unsigned h = absurd (cc)
kinds_same kind.Bool kind.Half h = absurd (cc)
kinds_same kind.Bool kind.Float h = absurd (cc)
kinds_same kind.Int kind.Bool h = absurd (cc)
kinds_same kind.Int kind.Int h = refl
kinds_same kind.Int kind.Unsigned h = absurd (cc)
kinds_same kind.Int kind.Half h = absurd (cc)
kinds_same kind.Int kind.Float h = absurd (cc)
kinds_same kind.Unsigned kind.Bool h = absurd (cc)
kinds_same kind.Unsigned kind.Int h = absurd (cc)
kinds_same kind.Unsigned kind.Unsigned h = refl
kinds_same kind.Unsigned kind.Half h = absurd (cc)
kinds_same kind.Unsigned kind.Float h = absurd (cc)
kinds_same kind.Half kind.Bool h = absurd (cc)
kinds_same kind.Half kind.Int h = absurd (cc)
kinds_same kind.Half kind.Unsigned h = absurd (cc)
kinds_same kind.Half kind.Half h = refl
kinds_same kind.Half kind.Float h = absurd (cc)
kinds_same kind.Float kind.Bool h = absurd (cc)
kinds_same kind.Float kind.Int h = absurd (cc)
kinds_same kind.Float kind.Unsigned h = absurd (cc)
kinds_same kind.Float kind.Half h = absurd (cc)
kinds_same kind.Float kind.Float h = refl

pub base_same : (b : Base) → same_base b b ≡ true
base_same (Scalar k) = kind_same k
base_same (Struct n) = eq-eqb n n refl

pub bases_same : (a b : Base) → same_base a b ≡ true → a ≡ b
bases_same (Scalar k) (Scalar l) h = ap Scalar (kinds_same k l h)
bases_same (Struct m) (Struct n) h = ap Struct (eqb-true m n h)
bases_same (Scalar k) (Struct n) h = absurd (cc)
bases_same (Struct m) (Scalar k) h = absurd (cc)

pub size_same : (a : Size) → same_size a a ≡ true
size_same (Stated n) = eq-eqb n n refl
size_same (Open k) = eq-eqb k k refl

pub sizes_same : (a : List Size) → same_sizes a a ≡ true
sizes_same [] = refl
sizes_same (s ∷ sizes) = and_true (same_size s s) _ (size_same s) (sizes_same sizes)

size_is : (a b : Size) → same_size a b ≡ true → a ≡ b
size_is (Stated m) (Stated n) h = ap Stated (eqb-true m n h)
size_is (Open m) (Open n) h = ap Open (eqb-true m n h)
size_is (Stated m) (Open n) h = absurd (cc)
size_is (Open m) (Stated n) h = absurd (cc)

-- ---- stated sizes

pub stated_numbers : (k : ℕ) (xs : List Extent) → are_stated (numbered k xs) ≡ true → map stated_size xs ≡ numbered k xs
stated_numbers k [] h = refl
stated_numbers k (extent.Stated n ∷ xs) h = ap (λ sizes. Stated n ∷ sizes) (stated_numbers k xs h)
stated_numbers k (extent.Unstated ∷ xs) h = absurd (cc)

-- the sizes of a shape without open sizes
pub stated_local : (shape : Shape) → are_stated (local 0 shape).sizes ≡ true → stated_sizes shape ≡ (local 0 shape).sizes
stated_local shape h = stated_numbers 0 (extents shape) h

pub stated_through : (es sizes : List Size) → are_stated sizes ≡ true → map (through es) sizes ≡ sizes
stated_through es [] h = refl
stated_through es (Stated n ∷ sizes) h = ap (λ sizes. Stated n ∷ sizes) (stated_through es sizes h)
stated_through es (Open k ∷ sizes) h = absurd (cc)

-- ---- sizes that extents take

pub open_long : (xs : List Extent) (sizes : List Size) → extents_fit xs sizes ≡ true → length (open_sizes_in xs sizes) ≡ open_count xs
open_long [] sizes h = refl
open_long (x ∷ xs) [] h = absurd (cc)
open_long (extent.Stated n ∷ xs) (size ∷ sizes) h = open_long xs sizes (both (same_size (Stated n) size) _ h).1
open_long (extent.Unstated ∷ xs) (size ∷ sizes) h = let z = open_long xs sizes h in omega arith

pub open_stand : (x : Scene) (xs : List Extent) (sizes : List Size) → sizes_stand x sizes ≡ true → sizes_stand x (open_sizes_in xs sizes) ≡ true
open_stand x [] sizes h = refl
open_stand x (y ∷ xs) [] h = refl
open_stand x (extent.Stated n ∷ xs) (size ∷ sizes) h = open_stand x xs sizes (both (size_stands x size) _ h).1
open_stand x (extent.Unstated ∷ xs) (size ∷ sizes) h =
    let b = both (size_stands x size) _ h in and_true (size_stands x size) _ b.0 (open_stand x xs sizes b.1)

-- with the sizes at its open extents a parameter has the sizes of its argument
pub through_fits : (xs : List Extent) (sizes front back : List Size) (k : ℕ) → k ≡ length front → extents_fit xs sizes ≡ true → map (through (front ++ (open_sizes_in xs sizes ++ back))) (numbered k xs) ≡ sizes
through_fits [] [] front back k n h = refl
through_fits [] (size ∷ sizes) front back k n h = absurd (cc)
through_fits (x ∷ xs) [] front back k n h = absurd (cc)
through_fits (extent.Stated m ∷ xs) (size ∷ sizes) front back k n h =
    let b = both (same_size (Stated m) size) _ h in
    let p = size_is (Stated m) size b.0 in
    let q = through_fits xs sizes front back k n b.1 in
    ap (λ s. s ∷ map (through (front ++ (open_sizes_in xs sizes ++ back))) (numbered k xs)) p ∙ ap (λ sizes. size ∷ sizes) q
through_fits (extent.Unstated ∷ xs) (size ∷ sizes) front back k n h =
    let all : List Size = front ++ (size ∷ (open_sizes_in xs sizes ++ back)) in
    let p : get_or all k (Stated 0) ≡ size = ap (λ k. get_or all k (Stated 0)) n ∙ or_end front size (open_sizes_in xs sizes ++ back) (Stated 0) in
    let e : (front ++ size ∷ []) ++ (open_sizes_in xs sizes ++ back) ≡ all = append_assoc front (size ∷ []) (open_sizes_in xs sizes ++ back) in
    let l = length_more front size in
    let q = through_fits xs sizes (front ++ size ∷ []) back (k + 1) (omega arith) h in
    let r : map (through all) (numbered (k + 1) xs) ≡ sizes = subst (λ (all : List Size). map (through all) (numbered (k + 1) xs) ≡ sizes) e q in
    ap (λ s. s ∷ map (through all) (numbered (k + 1) xs)) p ∙ ap (λ sizes. size ∷ sizes) r

-- with the sizes of its default a parameter has the sizes of that value
pub through_default : (xs : List Extent) (ns before : List ℕ) (front back : List Size) (k j : ℕ) → k ≡ length front → j ≡ length before → length ns ≡ open_count xs → map (through (front ++ (map Stated ns ++ back))) (numbered k xs) ≡ map Stated (map (size_in (before ++ ns)) (numbered j xs))
through_default [] ns before front back k j n m l = refl
through_default (extent.Stated c ∷ xs) ns before front back k j n m l = ap (λ sizes. Stated c ∷ sizes) (through_default xs ns before front back k j n m l)
through_default (extent.Unstated ∷ xs) [] before front back k j n m l = absurd (omega arith)
through_default (extent.Unstated ∷ xs) (c ∷ ns) before front back k j n m l =
    let all : List Size = front ++ (Stated c ∷ (map Stated ns ++ back)) in
    let p : get_or all k (Stated 0) ≡ Stated c = ap (λ k. get_or all k (Stated 0)) n ∙ or_end front (Stated c) (map Stated ns ++ back) (Stated 0) in
    let p' : get_or (before ++ (c ∷ ns)) j 0 ≡ c = ap (λ j. get_or (before ++ (c ∷ ns)) j 0) m ∙ or_end before c ns 0 in
    let e : (front ++ Stated c ∷ []) ++ (map Stated ns ++ back) ≡ all = append_assoc front (Stated c ∷ []) (map Stated ns ++ back) in
    let e' : (before ++ c ∷ []) ++ ns ≡ before ++ (c ∷ ns) = append_assoc before (c ∷ []) ns in
    let h = length_more front (Stated c) in
    let h' = length_more before c in
    let q = through_default xs ns (before ++ c ∷ []) (front ++ Stated c ∷ []) back (k + 1) (j + 1) (omega arith) (omega arith) (omega arith) in
    let r = subst (λ (all : List Size). map (through all) (numbered (k + 1) xs) ≡ map Stated (map (size_in ((before ++ c ∷ []) ++ ns)) (numbered (j + 1) xs))) e q in
    let s : map (through all) (numbered (k + 1) xs) ≡ map Stated (map (size_in (before ++ (c ∷ ns))) (numbered (j + 1) xs)) = subst (λ (cs : List ℕ). map (through all) (numbered (k + 1) xs) ≡ map Stated (map (size_in cs) (numbered (j + 1) xs))) e' r in
    ap (λ s. s ∷ map (through all) (numbered (k + 1) xs)) (p ∙ sym (ap Stated p')) ∙ ap (λ sizes. Stated (get_or (before ++ (c ∷ ns)) j 0) ∷ sizes) s

-- ---- the sizes of a default

pub sizes_long : (xs : List Extent) (v : Option Value) → length (sizes_at xs v) ≡ open_count xs
sizes_long [] v = refl
sizes_long (extent.Stated n ∷ xs) v = sizes_long xs (part_of v 0)
sizes_long (extent.Unstated ∷ xs) v = let z = sizes_long xs (part_of v 0) in omega arith

pub shorts : (ns : List ℕ) → sizes_fit ns ≡ true → map (λ n. Stated (short n)) ns ≡ map Stated ns
shorts [] h = refl
shorts (n ∷ ns) h =
    let b = both (nat_le 1 n && nat_le n ARRAY_SIZE) _ h in
    let c = both (nat_le 1 n) _ b.0 in
    let l : n ≤ ARRAY_SIZE = leb-true _ _ c.1 in
    let e : min n (2 ^ 32 - 1) ≡ n = omega arith in
    ap (λ m. Stated m ∷ map (λ n. Stated (short n)) ns) e ∙ ap (λ sizes. Stated n ∷ sizes) (shorts ns b.1)

pub fit_stand : (x : Scene) (ns : List ℕ) → sizes_fit ns ≡ true → sizes_stand x (map Stated ns) ≡ true
fit_stand x [] h = refl
fit_stand x (n ∷ ns) h = let b = both (nat_le 1 n && nat_le n ARRAY_SIZE) _ h in and_true (nat_le 1 n && nat_le n ARRAY_SIZE) _ b.0 (fit_stand x ns b.1)

-- ---- shapes that stand

pub scalar_stands : (x : Scene) (k : ScalarKind) → value_stands x [] (Some (Scalar k)) ≡ true
scalar_stands x k = refl

pub sizes_of_value : (x : Scene) (sizes : List Size) (base : Option Base) → value_stands x sizes base ≡ true → sizes_stand x sizes ≡ true
sizes_of_value x [] None h = refl
sizes_of_value x (size ∷ sizes) None h = absurd (cc)
sizes_of_value x sizes (Some base) h =
    let a = both (sizes_stand x sizes && base_stands x base) _ h in (both (sizes_stand x sizes) _ a.0).0

counted_least : (x : Scene) (size : Size) → size_stands x size ≡ true → 1 ≤ size_counted size
counted_least x (Stated n) h = leb-true _ _ (both (nat_le 1 n) _ h).0
counted_least x (Open k) h = omega arith

less_product : (c p b s : ℕ) → 1 ≤ c → c * p * b ≤ s → p * b ≤ s
less_product c p b s l h =
    let e : c * p * b ≡ c * (p * b) = mul_assoc c p b in
    let m : p * b ≤ (p * b) * c = le-mul_of_pos_right (p * b) l in
    let f : (p * b) * c ≡ c * (p * b) = grind arith in
    omega arith

-- the elements of an array that stands
pub element_stands : (x : Scene) (size : Size) (sizes : List Size) (base : Option Base) → value_stands x (size ∷ sizes) base ≡ true → value_stands x sizes base ≡ true
element_stands x size sizes None h = absurd (cc)
element_stands x size sizes (Some base) h =
    let a = both (sizes_stand x (size ∷ sizes) && base_stands x base) _ h in
    let b = both (sizes_stand x (size ∷ sizes)) _ a.0 in
    let c = both (size_stands x size) _ b.0 in
    let l = less_product (size_counted size) (product (map size_counted sizes)) (base_scalars x.counts base) SCALARS (counted_least x size c.0) (leb-true _ _ a.1) in
    and_true (sizes_stand x sizes && base_stands x base) _ (and_true (sizes_stand x sizes) _ c.1 b.1) (le-leb _ _ l)

-- the size of an array that stands
pub first_stands : (x : Scene) (size : Size) (sizes : List Size) (base : Option Base) → value_stands x (size ∷ sizes) base ≡ true → size_stands x size ≡ true
first_stands x size sizes base h = (both (size_stands x size) _ (sizes_of_value x (size ∷ sizes) base h)).0

-- ---- shapes in another scene

stated_sizes_stand : (s t : Scene) (sizes : List Size) → are_stated sizes ≡ true → sizes_stand s sizes ≡ true → sizes_stand t sizes ≡ true
stated_sizes_stand s t [] a h = refl
stated_sizes_stand s t (Stated n ∷ sizes) a h = let b = both (nat_le 1 n && nat_le n ARRAY_SIZE) _ h in and_true (nat_le 1 n && nat_le n ARRAY_SIZE) _ b.0 (stated_sizes_stand s t sizes a b.1)
stated_sizes_stand s t (Open k ∷ sizes) a h = absurd (cc)

-- the second scene has the structs of the first one
pub record Wider (s t : Scene) : Type 0 where
  pub structs : length s.structs ≤ length t.structs
  pub counts : (n : ℕ) → n < length s.structs → get_or t.counts n 0 ≡ get_or s.counts n 0

base_wider : (s t : Scene) (base : Base) → Wider s t → base_stands s base ≡ true → (base_stands t base ≡ true) × (base_scalars t.counts base ≡ base_scalars s.counts base)
base_wider s t (Scalar k) w h = (refl, refl)
base_wider s t (Struct n) w h = let l : n < length s.structs = ltb-true _ _ h in let m = w.structs in (lt-ltb _ _ (omega arith), w.counts n l)

-- a shape without open sizes stands there too
pub shape_wider : (s t : Scene) (shape : LocalShape) → Wider s t → are_stated shape.sizes ≡ true → shape_stands s shape ≡ true → shape_stands t shape ≡ true
shape_wider s t shape w a h =
    let b = both (sizes_stand s shape.sizes && base_stands s shape.base) _ h in
    let c = both (sizes_stand s shape.sizes) _ b.0 in
    let d = base_wider s t shape.base w c.1 in
    let e : nat_le (product (map size_counted shape.sizes) * base_scalars t.counts shape.base) SCALARS ≡ true = subst (λ (n : ℕ). nat_le (product (map size_counted shape.sizes) * n) SCALARS ≡ true) (sym d.1) b.1 in
    and_true (sizes_stand t shape.sizes && base_stands t shape.base) _ (and_true (sizes_stand t shape.sizes) _ (stated_sizes_stand s t shape.sizes a c.0) d.0) e
