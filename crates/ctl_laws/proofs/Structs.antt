-- Structs, their zeros, and constants.
use Rattle.std.proofs.Common.{◌≡◌, ℕ, zero, suc, ◌+◌, ◌<◌, List, [], ◌∷◌, ◌++◌, map, length, Some, true, ◌&&◌, nat_lt, refl, sym, ap, subst, ◌∙◌, arith, slice_get}
use Rattle.std.proofs.lemmas.List.{append_assoc, append-nil}
use Rattle.std.specs.Prelude.{get_or}
use Rattle.ctl_types.specs.declared.shape.Base.TheVariants.{Struct}
use Rattle.ctl_types.specs.declared.shape.Shape.{Shape}
use Rattle.ctl_types.specs.declared.program.Field.{Field}
use Rattle.ctl_types.specs.declared.program.Struct.{Struct as StructForm}
use Rattle.ctl_types.specs.declared.program.Constant.{Constant}
use Rattle.ctl_types.specs.declared.value.Value.{Value}
use Rattle.ctl_types.specs.declared.value.Value.TheOpen as layer
use Rattle.ctl_types.specs.Shapes.{whole_of, local, base_of, field_shapes, struct_scalars, struct_counts}
use Rattle.ctl_types.specs.Values.{nothing, fits, each_fit, zero_of, zero_struct, zeros_after, struct_zeros}
use Rattle.ctl_types.specs.Typing.{are_stated, Scene, sizes_stand, base_stands}
use Rattle.ctl_types.specs.Scoping.{field_stands, fields_stand, empty_scene, struct_stands, structs_stand, result_stands, constant_stands, constants_stand}
use Rattle.ctl_laws.proofs.Values.{both, and_true, fits_roll}
use Rattle.ctl_laws.proofs.Ranges.{Numbers}
use Rattle.ctl_laws.proofs.Shapes.{FieldsStated}
use Rattle.ctl_laws.proofs.Around.{ConstantsWell, Counts, ZerosFit}
use Rattle.ctl_laws.proofs.Initialisers.{base_fits, zero_fits, known_struct, stated_small}

abbrev shapes_of : List Field → List Shape
shapes_of fs = map (λ (f : Field). f.shape) fs

-- ---- fields are stated

fields_stated : (s : Scene) (fs : List Field) → fields_stand s fs ≡ true → (n : ℕ) (m : Shape) → slice_get (shapes_of fs) n ≡ Some m → are_stated (local 0 m).sizes ≡ true
fields_stated s [] w n m e = absurd (cc)
fields_stated s (f ∷ fs) w zero m e =
    let b = both (field_stands s f) _ w in
    let q : f.shape ≡ m = cc in
    subst (λ (m : Shape). are_stated (local 0 m).sizes ≡ true) q (both (are_stated (local 0 f.shape).sizes) _ b.0).0
fields_stated s (f ∷ fs) w (suc n) m e = fields_stated s fs (both (field_stands s f) _ w).1 n m e

pub structs_stated : (before : List StructForm) (counts : List ℕ) (rest : List StructForm) → structs_stand before counts rest ≡ true → FieldsStated rest
structs_stated before counts [] w m n f e = absurd (cc)
structs_stated before counts (d ∷ rest) w zero n f e =
    let b = both (struct_stands before counts d) _ w in
    let c = both (nat_lt 0 (length d.fields) && fields_stand (empty_scene [] before counts) d.fields) _ b.0 in
    fields_stated (empty_scene [] before counts) d.fields (both (nat_lt 0 (length d.fields)) _ c.0).1 n f e
structs_stated before counts (d ∷ rest) w (suc m) n f e = structs_stated (before ++ d ∷ []) (counts ++ struct_scalars counts d ∷ []) rest (both (struct_stands before counts d) _ w).1 m n f e

-- ---- zeros

abbrev AreZeros : List StructForm → ℕ → List Value → Type 0
AreZeros structs k [] = Unit {0}
AreZeros structs k (z ∷ zs) = (fits structs z [] (Some (Struct k)) ≡ true) × AreZeros structs (suc k) zs

zeros_at : (structs : List StructForm) (k : ℕ) (zs : List Value) (n : ℕ) → AreZeros structs k zs → n < length zs → fits structs (get_or zs n nothing) [] (Some (Struct (k + n))) ≡ true
zeros_at structs k [] n a l = absurd (omega arith)
zeros_at structs k (z ∷ zs) zero a l = let e : k ≡ k + 0 = omega arith in subst (λ (k : ℕ). fits structs z [] (Some (Struct k)) ≡ true) e a.0
zeros_at structs k (z ∷ zs) (suc n) a l = let e : suc k + n ≡ k + suc n = omega arith in subst (λ (k : ℕ). fits structs (get_or zs n nothing) [] (Some (Struct k)) ≡ true) e (zeros_at structs (suc k) zs n a.1 (omega arith))

zeros_more : (structs : List StructForm) (k : ℕ) (zs : List Value) (z : Value) → AreZeros structs k zs → fits structs z [] (Some (Struct (k + length zs))) ≡ true → AreZeros structs k (zs ++ z ∷ [])
zeros_more structs k [] z a f = let e : k + 0 ≡ k = omega arith in (subst (λ (k : ℕ). fits structs z [] (Some (Struct k)) ≡ true) e f, tt)
zeros_more structs k (y ∷ zs) z a f = let e : k + length (y ∷ zs) ≡ suc k + length zs = omega arith in (a.0, zeros_more structs (suc k) zs z a.1 (subst (λ (k : ℕ). fits structs z [] (Some (Struct k)) ≡ true) e f))

zeros_fit : (structs : List StructForm) (zs : List Value) → AreZeros structs 0 zs → (n : ℕ) → n < length zs → fits structs (get_or zs n nothing) [] (Some (Struct n)) ≡ true
zeros_fit structs zs a n l = let e : 0 + n ≡ n = omega arith in subst (λ (k : ℕ). fits structs (get_or zs n nothing) [] (Some (Struct k)) ≡ true) e (zeros_at structs 0 zs n a l)

abbrev zeros_of : List Value → List Field → List Value
zeros_of zs fs = map (λ (f : Field). zero_of zs (whole_of f.shape).sizes (base_of f.shape)) fs

fields_right : Numbers → (structs before : List StructForm) (counts : List ℕ) (zs : List Value) (fs : List Field) → ((n : ℕ) → n < length before → fits structs (get_or zs n nothing) [] (Some (Struct n)) ≡ true) → fields_stand (empty_scene [] before counts) fs ≡ true → each_fit (map (fits structs) (zeros_of zs fs)) (shapes_of fs) ≡ true
fields_right m structs before counts zs [] z w = refl
fields_right m structs before counts zs (f ∷ fs) z w =
    let b = both (field_stands (empty_scene [] before counts) f) _ w in
    let c = both (are_stated (local 0 f.shape).sizes) _ b.0 in
    let d = both (sizes_stand (empty_scene [] before counts) (local 0 f.shape).sizes && base_stands (empty_scene [] before counts) (base_of f.shape)) _ c.1 in
    let e = both (sizes_stand (empty_scene [] before counts) (local 0 f.shape).sizes) _ d.0 in
    and_true (fits structs (zero_of zs (whole_of f.shape).sizes (base_of f.shape)) (whole_of f.shape).sizes (whole_of f.shape).base) _ (zero_fits structs zs (whole_of f.shape).sizes (base_of f.shape) (base_fits m structs zs (length before) z (base_of f.shape) (known_struct (empty_scene [] before counts) (base_of f.shape) e.1))) (fields_right m structs before counts zs fs z b.1)

get_middle : (pre rest : List StructForm) (d : StructForm) → slice_get (pre ++ d ∷ rest) (length pre) ≡ Some d
get_middle [] rest d = refl
get_middle (c ∷ pre) rest d = get_middle pre rest d

length_more : {A : Type 0} (xs : List A) (x : A) → length (xs ++ x ∷ []) ≡ suc (length xs)
length_more [] x = omega arith
length_more (y ∷ xs) x = let z = length_more xs x in omega arith

structs_right : Numbers → (structs rest pre : List StructForm) (counts : List ℕ) (zs : List Value) → structs ≡ pre ++ rest → length zs ≡ length pre → AreZeros structs 0 zs → structs_stand pre counts rest ≡ true → AreZeros structs 0 (zeros_after zs rest) × (length (zeros_after zs rest) ≡ length structs)
structs_right m structs [] pre counts zs e l a w = (a, l ∙ sym (ap length (e ∙ append-nil pre)))
structs_right m structs (d ∷ rest) pre counts zs e l a w =
    let b = both (struct_stands pre counts d) _ w in
    let c = both (nat_lt 0 (length d.fields) && fields_stand (empty_scene [] pre counts) d.fields) _ b.0 in
    let k = (both (nat_lt 0 (length d.fields)) _ c.0).1 in
    let z = zero_struct zs d in
    let g : field_shapes structs (length zs) ≡ shapes_of d.fields = rw (e, l, get_middle pre rest d) refl in
    let low : (n : ℕ) → n < length pre → fits structs (get_or zs n nothing) [] (Some (Struct n)) ≡ true = λ n i. zeros_fit structs zs a n (omega arith) in
    let f : fits structs z [] (Some (Struct (length zs))) ≡ true = fits_roll structs (layer.Fields (zeros_of zs d.fields)) [] (Some (Struct (length zs))) ∙ subst (λ (ms : List Shape). each_fit (map (fits structs) (zeros_of zs d.fields)) ms ≡ true) (sym g) (fields_right m structs pre counts zs d.fields low k) in
    let q : length zs ≡ 0 + length zs = omega arith in
    structs_right m structs rest (pre ++ d ∷ []) (counts ++ struct_scalars counts d ∷ []) (zs ++ z ∷ []) (e ∙ sym (append_assoc pre (d ∷ []) rest)) (let n = length_more pre d in let o = length_more zs z in omega arith) (zeros_more structs 0 zs z a (subst (λ (k : ℕ). fits structs z [] (Some (Struct k)) ≡ true) q f)) b.1

pub zeros_right : Numbers → (structs : List StructForm) → structs_stand [] [] structs ≡ true → ZerosFit structs
zeros_right m structs w n l = let z = structs_right m structs structs [] [] [] refl refl tt w in zeros_fit structs (struct_zeros structs) z.0 n (let k = z.1 in omega arith)

-- ---- constants

pub constants_right : (s : Scene) → Counts s.structs → s.counts ≡ struct_counts s.structs → (cs : List Constant) → constants_stand s cs ≡ true → ConstantsWell s.structs (map (λ (c : Constant). c.shape) cs) (map (λ (c : Constant). c.value) cs)
constants_right s counts counted [] w = tt
constants_right s counts counted (c ∷ cs) w =
    let b = both (constant_stands s c) _ w in
    let d = both (result_stands s (Some c.shape)) _ b.0 in
    let e = both (are_stated (local 0 c.shape).sizes) _ d.0 in
    ((e.0, (d.1, stated_small s [] counts counted (local 0 c.shape) c.value e.1 e.0 d.1)), constants_right s counts counted cs b.1)
