-- Definitions keep the rules where one more struct, constant or function keeps them.
use Rattle.std.proofs.Common.{◌≡◌, ℕ, zero, suc, ◌+◌, ◌<◌, List, [], ◌∷◌, ◌++◌, map, length, Some, true, ◌&&◌, nat_lt, refl, sym, ap, subst, ◌∙◌, arith, slice_get, ltb-true, lt-ltb}
use Rattle.std.proofs.lemmas.List.{append_assoc, append-nil}
use Rattle.std.specs.Prelude.{get_or}
use Rattle.ctl_types.specs.declared.shape.Base.{Base}
use Rattle.ctl_types.specs.declared.shape.Base.TheVariants as base
use Rattle.ctl_types.specs.declared.shape.Shape.{Shape}
use Rattle.ctl_types.specs.declared.program.Field.{Field}
use Rattle.ctl_types.specs.declared.program.Struct.{Struct}
use Rattle.ctl_types.specs.declared.program.Constant.{Constant}
use Rattle.ctl_types.specs.declared.program.Function.{Function}
use Rattle.ctl_types.specs.Shapes.{local, base_of, field_shapes, field_shapes_in, struct_scalars, counts_after, struct_counts}
use Rattle.ctl_types.specs.Definitions.{Defined, library_structs, library_constants}
use Rattle.ctl_types.specs.Typing.{Scene, are_stated, sizes_stand, base_stands}
use Rattle.ctl_types.specs.Scoping.{IsDefined, field_stands, fields_stand, empty_scene, struct_stands, structs_stand, constant_stands, constants_stand, function_signature, function_stands, functions_stand, signatures_after, with_functions, with_struct, with_constant, with_function, scene_before, scene_of}
use Rattle.program_laws.proofs.Verdicts.{both, and_true}
use Rattle.program_laws.proofs.Grown.{Known, Grows}
use Rattle.program_laws.proofs.GrownScopes.{functions_grown, constant_grown, constants_grown}

-- ---- functions

functions_more : (s : Scene) (fs : List Function) (f : Function) → functions_stand s fs ≡ true → function_stands (with_functions s (signatures_after s fs)) f ≡ true → functions_stand s (fs ++ f ∷ []) ≡ true
functions_more s [] f h k = and_true _ _ k refl
functions_more s (g ∷ fs) f h k =
    let p = both _ _ h in
    and_true _ _ p.0 (functions_more (with_functions s (s.functions ++ function_signature s g ∷ [])) fs f p.1 k)

pub function_defined : (d : Defined) (f : Function) → IsDefined d → function_stands (scene_of d) f ≡ true → IsDefined (with_function d f)
function_defined d f is h =
    let p = both _ _ is.stand in
    let q = both _ _ p.1 in
    record { structs = is.structs; constants = is.constants; stand = and_true _ _ p.0 (and_true _ _ q.0 (functions_more (scene_before d) d.functions f q.1 h)) }

-- ---- lists with one more

length_more : {A : Type 0} (xs : List A) (x : A) → length (xs ++ x ∷ []) ≡ suc (length xs)
length_more [] x = refl
length_more (y ∷ xs) x = ap suc (length_more xs x)

still_there : {A : Type 0} (xs : List A) (x : A) (n : ℕ) → nat_lt n (length xs) ≡ true → nat_lt n (length (xs ++ x ∷ [])) ≡ true
still_there xs x n h =
    let a = ltb-true n (length xs) h in
    let b = length_more xs x in
    lt-ltb n (length (xs ++ x ∷ [])) (omega arith)

get_low : {A : Type 0} (xs : List A) (x : A) (n : ℕ) → n < length xs → slice_get (xs ++ x ∷ []) n ≡ slice_get xs n
get_low [] x n h = absurd (omega arith)
get_low (y ∷ xs) x zero h = refl
get_low (y ∷ xs) x (suc n) h = get_low xs x n (omega arith)

get_or_low : (xs : List ℕ) (x n : ℕ) → n < length xs → get_or (xs ++ x ∷ []) n 0 ≡ get_or xs n 0
get_or_low [] x n h = absurd (omega arith)
get_or_low (y ∷ xs) x zero h = refl
get_or_low (y ∷ xs) x (suc n) h = get_or_low xs x n (omega arith)

-- ---- structs

structs_more : (before : List Struct) (counts : List ℕ) (rest : List Struct) (d : Struct) → structs_stand before counts rest ≡ true → struct_stands (before ++ rest) (counts_after counts rest) d ≡ true → structs_stand before counts (rest ++ d ∷ []) ≡ true
structs_more before counts [] d h k = and_true _ _ (ap (λ (before : List Struct). struct_stands before counts d) (sym (append-nil before)) ∙ k) refl
structs_more before counts (c ∷ rest) d h k =
    let p = both (struct_stands before counts c) _ h in
    and_true (struct_stands before counts c) _ p.0 (structs_more (before ++ c ∷ []) (counts ++ struct_scalars counts c ∷ []) rest d p.1 (ap (λ (before : List Struct). struct_stands before (counts_after (counts ++ struct_scalars counts c ∷ []) rest) d) (append_assoc before (c ∷ []) rest) ∙ k))

counts_more : (counts : List ℕ) (structs : List Struct) (d : Struct) → counts_after counts (structs ++ d ∷ []) ≡ counts_after counts structs ++ struct_scalars (counts_after counts structs) d ∷ []
counts_more counts [] d = refl
counts_more counts (c ∷ structs) d = counts_more (counts ++ struct_scalars counts c ∷ []) structs d

counts_long : (counts : List ℕ) (structs : List Struct) → length (counts_after counts structs) ≡ length counts + length structs
counts_long counts [] = omega arith
counts_long counts (c ∷ structs) =
    let a = counts_long (counts ++ struct_scalars counts c ∷ []) structs in
    let b = length_more counts (struct_scalars counts c) in
    omega arith

-- the fields of structs are of structs that are there
known_more : (few : ℕ) (before all : List Struct) (b : Base) → base_stands (empty_scene [] before []) b ≡ true → length before + few ≡ length all → Known all b
known_more few before all (base.Scalar k) h e = tt
known_more few before all (base.Struct n) h e = let a = ltb-true n (length before) h in lt-ltb n (length all) (omega arith)

base_plain : (before : List Struct) (counts : List ℕ) (b : Base) → base_stands (empty_scene [] before counts) b ≡ true → base_stands (empty_scene [] before []) b ≡ true
base_plain before counts (base.Scalar k) h = refl
base_plain before counts (base.Struct n) h = h

fields_known : (few : ℕ) (before all : List Struct) (counts : List ℕ) (fs : List Field) → length before + few ≡ length all → fields_stand (empty_scene [] before counts) fs ≡ true → (i : ℕ) (m : Shape) → slice_get (map (λ (f : Field). f.shape) fs) i ≡ Some m → Known all (base_of m)
fields_known few before all counts [] e h i m k = absurd (cc)
fields_known few before all counts (f ∷ fs) e h zero m k =
    let s = empty_scene [] before counts in
    let b = both (field_stands s f) _ h in
    let c = both (are_stated (local 0 f.shape).sizes) _ b.0 in
    let d = both (sizes_stand s (local 0 f.shape).sizes && base_stands s (base_of f.shape)) _ c.1 in
    let q : f.shape ≡ m = cc in
    subst (λ (m : Shape). Known all (base_of m)) q (known_more few before all (base_of f.shape) (base_plain before counts (base_of f.shape) (both (sizes_stand s (local 0 f.shape).sizes) _ d.0).1) e)
fields_known few before all counts (f ∷ fs) e h (suc i) m k = fields_known few before all counts fs e (both (field_stands (empty_scene [] before counts) f) _ h).1 i m k

structs_known : (before all : List Struct) (counts : List ℕ) (rest : List Struct) → length before + length rest ≡ length all → structs_stand before counts rest ≡ true → (n i : ℕ) (m : Shape) → slice_get (field_shapes rest n) i ≡ Some m → Known all (base_of m)
structs_known before all counts [] e h n i m k = absurd (cc)
structs_known before all counts (d ∷ rest) e h zero i m k =
    let b = both (struct_stands before counts d) _ h in
    let c = both (nat_lt 0 (length d.fields) && fields_stand (empty_scene [] before counts) d.fields) _ b.0 in
    fields_known (length (d ∷ rest)) before all counts d.fields e (both (nat_lt 0 (length d.fields)) _ c.0).1 i m k
structs_known before all counts (d ∷ rest) e h (suc n) i m k =
    let b = both (struct_stands before counts d) _ h in
    let l = length_more before d in
    structs_known (before ++ d ∷ []) all (counts ++ struct_scalars counts d ∷ []) rest (omega arith) b.1 n i m k

struct_grows : (structs : List Struct) (constants : List Shape) (x : Struct) → structs_stand [] [] structs ≡ true → Grows structs (struct_counts structs) constants (structs ++ x ∷ []) (struct_counts (structs ++ x ∷ [])) constants
struct_grows structs constants x h = record {
  longer = λ n l. still_there structs x n l;
  fields = λ n l. ap (λ o. field_shapes_in o) (get_low structs x n (ltb-true n (length structs) l));
  count = λ n l.
      let a = ltb-true n (length structs) l in
      let b = counts_long [] structs in
      ap (λ counts. get_or counts n 0) (counts_more [] structs x) ∙ get_or_low (struct_counts structs) (struct_scalars (struct_counts structs) x) n (omega arith);
  constant = λ n m e. e;
  known = λ n i m e. structs_known [] structs [] structs (omega arith) h n i m e;
}

pub struct_defined : (d : Defined) (x : Struct) → IsDefined d → struct_stands d.structs (struct_counts d.structs) x ≡ true → IsDefined (with_struct d x)
struct_defined d x is h =
    let p = both (structs_stand [] [] d.structs) _ is.stand in
    let q = both (constants_stand (scene_before d) d.constants) _ p.1 in
    let structs = d.structs ++ x ∷ [] in
    let shapes = map (λ (c : Constant). c.shape) d.constants in
    let g = struct_grows d.structs shapes x p.0 in
    record {
      structs = (is.structs.0 ++ x ∷ [], ap (λ (structs : List Struct). structs ++ x ∷ []) is.structs.1 ∙ append_assoc library_structs is.structs.0 (x ∷ []));
      constants = is.constants;
      stand = and_true _ _ (structs_more [] [] d.structs x p.0 h) (and_true _ _ (constants_grown structs (struct_counts structs) shapes (scene_before d) g d.constants q.0) (functions_grown structs (struct_counts structs) shapes (scene_before d) g d.functions q.1));
    }

-- ---- constants

constants_more : (s : Scene) (cs : List Constant) (c : Constant) → constants_stand s cs ≡ true → constant_stands s c ≡ true → constants_stand s (cs ++ c ∷ []) ≡ true
constants_more s [] c h k = and_true _ _ k refl
constants_more s (b ∷ cs) c h k =
    let p = both (constant_stands s b) _ h in
    and_true (constant_stands s b) _ p.0 (constants_more s cs c p.1 k)

shape_there : (cs : List Constant) (c : Constant) (n : ℕ) (m : Shape) → slice_get (map (λ (c : Constant). c.shape) cs) n ≡ Some m → slice_get (map (λ (c : Constant). c.shape) (cs ++ c ∷ [])) n ≡ Some m
shape_there [] c n m e = absurd (cc)
shape_there (b ∷ cs) c zero m e = e
shape_there (b ∷ cs) c (suc n) m e = shape_there cs c n m e

constant_grows : (structs : List Struct) (cs : List Constant) (c : Constant) → structs_stand [] [] structs ≡ true → Grows structs (struct_counts structs) (map (λ (c : Constant). c.shape) cs) structs (struct_counts structs) (map (λ (c : Constant). c.shape) (cs ++ c ∷ []))
constant_grows structs cs c h = record {
  longer = λ n l. l;
  fields = λ n l. refl;
  count = λ n l. refl;
  constant = λ n m e. shape_there cs c n m e;
  known = λ n i m e. structs_known [] structs [] structs (omega arith) h n i m e;
}

pub constant_defined : (d : Defined) (c : Constant) → IsDefined d → constant_stands (scene_before d) c ≡ true → IsDefined (with_constant d c)
constant_defined d c is h =
    let p = both (structs_stand [] [] d.structs) _ is.stand in
    let q = both (constants_stand (scene_before d) d.constants) _ p.1 in
    let counts = struct_counts d.structs in
    let shapes = map (λ (c : Constant). c.shape) (d.constants ++ c ∷ []) in
    let g = constant_grows d.structs d.constants c p.0 in
    record {
      structs = is.structs;
      constants = (is.constants.0 ++ c ∷ [], ap (λ (constants : List Constant). constants ++ c ∷ []) is.constants.1 ∙ append_assoc library_constants is.constants.0 (c ∷ []));
      stand = and_true _ _ p.0 (and_true _ _ (constants_more (scene_before (with_constant d c)) d.constants c (constants_grown d.structs counts shapes (scene_before d) g d.constants q.0) (constant_grown d.structs counts shapes (scene_before d) g c h)) (functions_grown d.structs counts shapes (scene_before d) g d.functions q.1));
    }
