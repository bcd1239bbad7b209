-- What stands around an expression, from the definitions that keep the rules.
use Rattle.std.proofs.Common.{◌≡◌, ℕ, zero, suc, ◌+◌, ◌≤◌, ◌<◌, List, [], ◌∷◌, ◌++◌, map, length, get_or, Option, Some, None, Bool, true, false, ◌&&◌, ◌||◌, ◌==◌, nat_le, nat_lt, refl, sym, ap, subst, ◌∙◌, arith, slice_get}
use Rattle.ctl_base.specs.declared.limits.TheConstants.{CALL_DEPTH, SCALARS}
use Rattle.ctl_types.specs.declared.shape.Shape.{Shape}
use Rattle.ctl_types.specs.declared.value.Value.{Value}
use Rattle.ctl_types.specs.declared.statement.TypedStatement.{out-TypedStatement}
use Rattle.ctl_types.specs.declared.program.Field.{Field}
use Rattle.ctl_types.specs.declared.program.Struct.{Struct as StructForm}
use Rattle.ctl_types.specs.declared.program.Constant.{Constant}
use Rattle.ctl_types.specs.declared.program.Parameter.{Parameter}
use Rattle.ctl_types.specs.declared.program.Function.{Function}
use Rattle.ctl_types.specs.Shapes.{extents, open_count, local, field_shapes_in, struct_scalars, counts_after, struct_counts}
use Rattle.ctl_types.specs.Values.{sizes_at, sizes_fit, scalars}
use Rattle.ctl_types.specs.Definitions.{Defined}
use Rattle.ctl_types.specs.Typing.{Scene, Variables, Signature, Formal, are_stated, shape_stands, node_stands, formals_from, signature_of}
use Rattle.ctl_types.specs.Scoping.{is_void, result_stands, default_stands, parameters_stand, inside, is_block, body_scope, function_signature, function_stands, with_functions, functions_stand, signatures_after, field_stands, fields_stand, empty_scene, struct_stands, structs_stand, constant_stands, constants_stand, scene_before, scene_of, IsDefined}
use Rattle.ctl_scope.specs.declared.around.Around.{Around as Place}
use Rattle.ctl_scope.specs.declared.around.Around.TheVariants.{Outside, Head, Body}
use Rattle.ctl_scope.specs.Scope.{ScopeForm, visible}
use Rattle.ctl_scope.specs.Beside.{too_deep, scene}
use Rattle.ctl_check_expr.specs.Places.{fields_of}
use Rattle.ctl_check_laws.specs.Accepted.{Holds}
use Rattle.ctl_check_laws.specs.WellTyped.{Standing, FieldsStand}
use Rattle.ctl_check_laws.proofs.Basics.{both, and_true, get_some, get_of, get_left, get_end, or_left, length_more}
use Rattle.ctl_check_laws.proofs.Shapes.{Wider, shape_wider}
use Rattle.ctl_check_laws.proofs.Around.{StatedShape, StatedResult, DefaultFits, DefaultsFit, Callable, Around}

-- a shape without open sizes stands where there are more structs
stated_wider : (s t : Scene) (shape : Shape) → Wider s t → StatedShape s shape → StatedShape t shape
stated_wider s t shape w h = record { stated = h.stated; stands = shape_wider s t (local 0 shape) w h.stated h.stands }

same_wider : (s t : Scene) → s.structs ≡ t.structs → s.counts ≡ t.counts → Wider s t
same_wider s t p q = record { structs = let l = ap (λ structs. length structs) p in omega arith; counts = λ n l. ap (λ counts. get_or counts n 0) (sym q) }

result_wider : (s t : Scene) (o : Option Shape) → Wider s t → result_stands s o ≡ true → StatedResult t o
result_wider s t None w h = tt
result_wider s t (Some shape) w h = let b = both (are_stated (local 0 shape).sizes) _ h in stated_wider s t shape w (record { stated = b.0; stands = b.1 })

-- ---- structs

counts_keep : (counts : List ℕ) (structs : List StructForm) (n : ℕ) → n < length counts → get_or (counts_after counts structs) n 0 ≡ get_or counts n 0
counts_keep counts [] n l = refl
counts_keep counts (d ∷ structs) n l =
    let m = length_more counts (struct_scalars counts d) in
    counts_keep (counts ++ struct_scalars counts d ∷ []) structs n (omega arith) ∙ or_left counts (struct_scalars counts d ∷ []) n 0 l

field_stated : (s t : Scene) (fs : List Field) (n : ℕ) (f : Field) → Wider s t → fields_stand s fs ≡ true → slice_get fs n ≡ Some f → StatedShape t f.shape
field_stated s t [] n f w h e = absurd (cc)
field_stated s t (k ∷ fs) zero f w h e =
    let q : k ≡ f = cc in
    let b = both (field_stands s k) _ h in
    let c = both (are_stated (local 0 k.shape).sizes) _ b.0 in
    subst (λ (f : Field). StatedShape t f.shape) q (stated_wider s t k.shape w (record { stated = c.0; stands = c.1 }))
field_stated s t (k ∷ fs) (suc n) f w h e = field_stated s t fs n f w (both (field_stands s k) _ h).1 e

struct_stated : (t : Scene) (before : List StructForm) (counts : List ℕ) (rest : List StructForm) (m n : ℕ) (f : Field) → length t.structs ≡ length before + length rest → t.counts ≡ counts_after counts rest → length counts ≡ length before → structs_stand before counts rest ≡ true → slice_get (fields_of (slice_get rest m)) n ≡ Some f → StatedShape t f.shape
struct_stated t before counts [] m n f l c k h e = absurd (cc)
struct_stated t before counts (d ∷ rest) zero n f l c k h e =
    let b = both (struct_stands before counts d) _ h in
    let a = both (nat_lt 0 (length d.fields) && fields_stand (empty_scene [] before counts) d.fields) _ b.0 in
    let w : Wider (empty_scene [] before counts) t = record { structs = omega arith; counts = λ i j. ap (λ counts. get_or counts i 0) c ∙ counts_keep counts (d ∷ rest) i (omega arith) } in
    field_stated (empty_scene [] before counts) t d.fields n f w (both (nat_lt 0 (length d.fields)) _ a.0).1 e
struct_stated t before counts (d ∷ rest) (suc m) n f l c k h e =
    let i = length_more before d in
    let j = length_more counts (struct_scalars counts d) in
    struct_stated t (before ++ d ∷ []) (counts ++ struct_scalars counts d ∷ []) rest m n f (omega arith) c (omega arith) (both (struct_stands before counts d) _ h).1 e

-- ---- constants

constant_stated : (s : Scene) (cs : List Constant) (n : ℕ) (c : Constant) → constants_stand s cs ≡ true → slice_get cs n ≡ Some c → result_stands s (Some c.shape) ≡ true
constant_stated s [] n c h e = absurd (cc)
constant_stated s (k ∷ cs) zero c h e =
    let q : k ≡ c = cc in
    let b = both (constant_stands s k) _ h in
    subst (λ (c : Constant). result_stands s (Some c.shape) ≡ true) q (both (result_stands s (Some k.shape)) _ b.0).0
constant_stated s (k ∷ cs) (suc n) c h e = constant_stated s cs n c (both (constant_stands s k) _ h).1 e

-- ---- functions

after_keeps : (s : Scene) (fs : List Function) (k : ℕ) (g : Signature) → slice_get s.functions k ≡ Some g → slice_get (signatures_after s fs) k ≡ Some g
after_keeps s [] k g e = e
after_keeps s (f ∷ fs) k g e = after_keeps (with_functions s (s.functions ++ function_signature s f ∷ [])) fs k g (get_left s.functions (function_signature s f ∷ []) k g e)

signature_at : (s : Scene) (fs : List Function) (k i : ℕ) (f : Function) → i ≡ length s.functions + k → slice_get fs k ≡ Some f → (depth : ℕ) × (slice_get (signatures_after s fs) i ≡ Some (signature_of depth f))
signature_at s [] k i f n e = absurd (cc)
signature_at s (g ∷ fs) zero i f n e =
    let q : g ≡ f = cc in
    let t = with_functions s (s.functions ++ function_signature s g ∷ []) in
    let here : slice_get (s.functions ++ function_signature s g ∷ []) i ≡ Some (function_signature s g) = subst (λ i. slice_get (s.functions ++ function_signature s g ∷ []) i ≡ Some (function_signature s g)) (let z : length s.functions ≡ i = omega arith in z) (get_end s.functions (function_signature s g)) in
    (suc (body_scope s g).depth, subst (λ (f : Function). slice_get (signatures_after t fs) i ≡ Some (signature_of (suc (body_scope s g).depth) f)) q (after_keeps t fs i (function_signature s g) here))
signature_at s (g ∷ fs) (suc k) i f n e = signature_at (with_functions s (s.functions ++ function_signature s g ∷ [])) fs k i f (let z = length_more s.functions (function_signature s g) in omega arith) e

function_at : (s : Scene) (gs : List Signature) (fs : List Function) (k : ℕ) (f : Function) → functions_stand (with_functions s gs) fs ≡ true → slice_get fs k ≡ Some f → (hs : List Signature) × (function_stands (with_functions s hs) f ≡ true)
function_at s gs [] k f w e = absurd (cc)
function_at s gs (g ∷ fs) zero f w e = let q : g ≡ f = cc in (gs, subst (λ (f : Function). function_stands (with_functions s gs) f ≡ true) q (both (function_stands (with_functions s gs) g) _ w).0)
function_at s gs (g ∷ fs) (suc k) f w e = function_at s (gs ++ function_signature (with_functions s gs) g ∷ []) fs k f (both (function_stands (with_functions s gs) g) _ w).1 e

default_fits : (structs : List StructForm) (shape : Shape) (o : Option Value) → default_stands structs shape o ≡ true → DefaultFits shape o
default_fits structs shape None h = tt
default_fits structs shape (Some v) h =
    let b = both (sizes_fit (sizes_at (extents shape) (Some v)) && nat_le (scalars v) SCALARS) _ h in
    (both (sizes_fit (sizes_at (extents shape) (Some v))) _ b.0).0

defaults_fit : (s : Scene) (k : ℕ) (ps : List Parameter) → parameters_stand s (formals_from k ps) ps ≡ true → DefaultsFit ps
defaults_fit s k [] h = tt
defaults_fit s k (q ∷ ps) h =
    let b = both ((shape_stands s (local k q.shape) && default_stands s.structs q.shape q.default) && node_stands s q.node) _ h in
    let c = both (shape_stands s (local k q.shape) && default_stands s.structs q.shape q.default) _ b.0 in
    let e = both (shape_stands s (local k q.shape)) _ c.0 in
    (default_fits s.structs q.shape q.default e.1, defaults_fit s (k + open_count (extents q.shape)) ps b.1)

-- ---- all of them

roomy : (a : Place) → 0 < too_deep a
roomy Outside = omega arith
roomy (Head f) = omega arith
roomy (Body f) = omega arith

module _ (s : ScopeForm) (d : Defined) (h : Standing s d) where
  structs : structs_stand [] [] d.structs ≡ true
  structs = (both (structs_stand [] [] d.structs) _ h.defined.stand).0

  others : (constants_stand (scene_before d) d.constants ≡ true) × (functions_stand (scene_before d) d.functions ≡ true)
  others = both (constants_stand (scene_before d) d.constants) _ (both (structs_stand [] [] d.structs) _ h.defined.stand).1

  callable : (k : ℕ) (f : Function) → slice_get d.functions k ≡ Some f → Callable s d k f
  callable k f e =
      let a = signature_at (scene_before d) d.functions k k f (omega arith) e in
      let t = function_at (scene_before d) [] d.functions k f others.1 e in
      let x = with_functions (scene_before d) t.0 in
      let b = both ((node_stands x f.node && parameters_stand (inside x f) (signature_of 0 f).formals f.parameters) && result_stands x f.result) _ t.1 in
      let c = both (node_stands x f.node && parameters_stand (inside x f) (signature_of 0 f).formals f.parameters) _ b.0 in
      let p = both (node_stands x f.node) _ c.0 in
      record {
        depth = a.0;
        signature = a.1;
        counted = ap (λ depths. get_or depths k 0) h.beside.depths ∙ get_of (λ (g : Signature). g.depth) (scene_of d).functions k (signature_of a.0 f) 0 a.1;
        result = result_wider x (scene s d) f.result (same_wider x (scene s d) refl refl) c.1;
        defaults = defaults_fit (inside x f) 0 f.parameters p.1;
      }

  pub around : (vs : Variables) → Holds vs (visible s) → Around s d vs
  around vs a = record {
    roomy = roomy s.around;
    variables = h.variables;
    holds = a;
    constants = λ n c e. result_wider (scene_before d) (scene s d) (Some c.shape) (same_wider (scene_before d) (scene s d) refl refl) (constant_stated (scene_before d) d.constants n c others.0 e);
    fields = λ m n f e. struct_stated (scene s d) [] [] d.structs m n f (let l : length d.structs ≡ 0 + length d.structs = omega arith in l) refl refl structs e;
    functions = callable;
  }

-- ---- fields

get_back : {A B : Type 0} (f : A → B) (xs : List A) (k : ℕ) (y : B) → slice_get (map f xs) k ≡ Some y → (x : A) × (slice_get xs k ≡ Some x) × (f x ≡ y)
get_back f [] k y e = absurd (cc)
get_back f (x ∷ xs) zero y e = (x, refl, let q : f x ≡ y = cc in q)
get_back f (x ∷ xs) (suc k) y e = get_back f xs k y e

field_back : (o : Option StructForm) (n : ℕ) (shape : Shape) → slice_get (field_shapes_in o) n ≡ Some shape → (f : Field) × (slice_get (fields_of o) n ≡ Some f) × (f.shape ≡ shape)
field_back None n shape e = absurd (cc)
field_back (Some d) n shape e = get_back (λ (f : Field). f.shape) d.fields n shape e

pub fields_are_standing : FieldsStand
fields_are_standing s d h m n shape e =
    let f = field_back (slice_get d.structs m) n shape e in
    let k : StatedShape (scene s d) f.0.shape = struct_stated (scene s d) [] [] d.structs m n f.0 (let l : length d.structs ≡ 0 + length d.structs = omega arith in l) refl refl (structs s d h) f.1 in
    ap (λ shape. result_stands (scene s d) (Some shape)) (sym f.2) ∙ and_true (are_stated (local 0 f.0.shape).sizes) _ k.stated k.stands
