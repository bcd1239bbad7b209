-- Functions, each by those before it.
use Rattle.std.proofs.Common.{◌≡◌, ℕ, zero, suc, ◌+◌, List, [], ◌∷◌, ◌++◌, map, replicate, length, Option, Some, None, Ok, Err, Result, Bool, true, false, true≢false, ◌&&◌, ◌||◌, ◌==◌, if◌then◌else◌, nat_le, refl, sym, ap, subst, ◌∙◌, arith, eq-eqb, leb-true}
use Rattle.ctl_base.specs.declared.limits.TheConstants.{SCALARS}
use Rattle.ctl_types.specs.declared.shape.Shape.{Shape}
use Rattle.ctl_types.specs.declared.shape.LocalShape.{LocalShape}
use Rattle.ctl_types.specs.declared.statement.TypedStatement.{out-TypedStatement}
use Rattle.ctl_types.specs.declared.program.Struct.{Struct as StructForm}
use Rattle.ctl_types.specs.declared.program.Parameter.{Parameter}
use Rattle.ctl_types.specs.declared.program.Function.{Function}
use Rattle.ctl_types.specs.declared.value.Value.{Value}
use Rattle.ctl_types.specs.Shapes.{Whole, whole, local, locals, extents, base_of, open_count, open_sizes_of, struct_counts}
use Rattle.ctl_types.specs.Values.{Env, nothing, fits, scalars, sizes_fit, sizes_at, argument_fits, arguments_fit, takes}
use Rattle.ctl_types.specs.Typing.{Typed, are_stated, shape_stands, node_stands, Variables, Scene, Formal, Signature, default_sizes, formals_from, signature_of, result_type}
use Rattle.ctl_types.specs.Scoping.{is_void, result_stands, default_stands, parameters_stand, parameter_variables, first_scope, inside, is_block, body_scope, function_signature, function_stands, with_functions, functions_stand, signatures_after}
use Rattle.ctl_types.specs.Run.{Fault, Trapped, Wrong, Pixel, Outcome, End, Normal, Left, Came, Called, run_statement, fallen, end_of, ended, whole_result, parameter_shapes, called_of, meanings}
use Rattle.ctl_laws.specs.Sound.{Of, Stands}
use Rattle.ctl_laws.proofs.Values.{both, and_true, shape, nothing_fits, scalars_nothing}
use Rattle.ctl_laws.proofs.Ranges.{Numbers}
use Rattle.ctl_laws.proofs.Runs.{Good}
use Rattle.ctl_laws.proofs.Shapes.{FieldsStated, stated_whole}
use Rattle.ctl_laws.proofs.Around.{formal_shape, formal_shapes, Begins, DefaultsWell, ConstantsWell, CameWell, Serves, Served, served_more, LibraryServes, Counts, ZerosFit, Around, setting, Sound}
use Rattle.ctl_laws.proofs.Statements.{Under, Stand, stands_under, Ends, statement_well}

or_not : (a b : Bool) → (a || b) ≡ true → b ≡ false → a ≡ true
or_not true b h k = refl
or_not false b h k = absurd (true≢false (sym h ∙ k))

-- what functions stand on, whatever the open sizes
pub record Ready {C : Type 0} {pay : ℕ → C → C} (s : Scene) (cs : List Value) (calls : List (Called C pay)) : Type 0 where
  pub numbers : Numbers
  pub counts : Counts s.structs
  pub counted : s.counts ≡ struct_counts s.structs
  pub fields : FieldsStated s.structs
  pub zeros : ZerosFit s.structs
  pub constants : ConstantsWell s.structs s.constants cs
  pub functions : Served s.structs s.functions calls
  pub library : LibraryServes C pay s.structs

-- the shapes of parameters are those of the signature
pub locals_formals : (k : ℕ) (ps : List Parameter) → locals k (map (λ (q : Parameter). q.shape) ps) ≡ formal_shapes (formals_from k ps)
locals_formals k [] = refl
locals_formals k (q ∷ ps) = ap (λ rest. local k q.shape ∷ rest) (locals_formals (k + open_count (extents q.shape)) ps)

default_well : (s : Scene) (structs : List StructForm) (q : Parameter) (k : ℕ) (o : Option Value) → q.default ≡ o → default_stands structs q.shape o ≡ true → (ns : List ℕ) → default_sizes q.shape o ≡ Some ns → (v : Value) × (o ≡ Some v) × Of structs (shape ns (Some (base_of q.shape))) v
default_well s structs q k None e w ns f = absurd (cc)
default_well s structs q k (Some v) e w ns f =
    let b = both (sizes_fit (sizes_at (extents q.shape) (Some v)) && nat_le (scalars v) SCALARS) _ w in
    let c = both (sizes_fit (sizes_at (extents q.shape) (Some v))) _ b.0 in
    let same : (whole (sizes_at (extents q.shape) (Some v)) (local 0 q.shape).sizes (Some (base_of q.shape))).sizes ≡ ns = cc in
    (v, refl, (subst (λ (sizes : List ℕ). fits structs v sizes (Some (base_of q.shape)) ≡ true) same b.1, leb-true _ _ c.1))

defaults_well : (s : Scene) (k : ℕ) (ps : List Parameter) → parameters_stand s (formals_from k ps) ps ≡ true → DefaultsWell s.structs (formals_from k ps) (map (λ (q : Parameter). q.default) ps)
defaults_well s k [] w = tt
defaults_well s k (q ∷ ps) w =
    let b = both ((shape_stands s (local k q.shape) && default_stands s.structs q.shape q.default) && node_stands s q.node) _ w in
    let c = both (shape_stands s (local k q.shape) && default_stands s.structs q.shape q.default) _ b.0 in
    let d = both (shape_stands s (local k q.shape)) _ c.0 in
    (λ ns e. default_well s s.structs q k q.default refl d.1 ns e, defaults_well s (k + open_count (extents q.shape)) ps b.1)

-- the variables of a function at its beginning
blanks_stand : (structs : List StructForm) (opens : List ℕ) (n : ℕ) → Stands structs opens (replicate n None) (replicate n None)
blanks_stand structs opens zero = tt
blanks_stand structs opens (suc n) = (tt, blanks_stand structs opens n)

pub frame_stands : (structs : List StructForm) (opens : List ℕ) (formals : List Formal) (frame : Env) (n : ℕ) → arguments_fit structs opens (formal_shapes formals) frame ≡ true → Stands structs opens (parameter_variables formals ++ replicate n None) (frame ++ replicate n None)
frame_stands structs opens [] [] n w = blanks_stand structs opens n
frame_stands structs opens [] (o ∷ frame) n w = absurd (cc)
frame_stands structs opens (g ∷ formals) [] n w = absurd (cc)
frame_stands structs opens (g ∷ formals) (None ∷ frame) n w = absurd (cc)
frame_stands structs opens (g ∷ formals) (Some v ∷ frame) n w =
    let b = both (argument_fits structs opens g.shape v) _ w in
    let c = both (fits structs v (formal_shape opens g).sizes (Some g.shape.base)) _ b.0 in
    ((c.0, leb-true _ _ c.1), frame_stands structs opens formals frame n b.1)

-- and what is known of them at its end
stands_begin : (structs : List StructForm) (opens : List ℕ) (formals : List Formal) (more : Variables) (env : Env) → Stands structs opens (parameter_variables formals ++ more) env → Begins structs opens formals env
stands_begin structs opens [] more env st = tt
stands_begin structs opens (g ∷ formals) more [] st = absurd st
stands_begin structs opens (g ∷ formals) more (None ∷ env) st = absurd st.0
stands_begin structs opens (g ∷ formals) more (Some v ∷ env) st = (st.0, stands_begin structs opens formals more env st.1)

-- a result is of its shape in each call
result_whole : (s : Scene) (opens : List ℕ) (o : Option Shape) → result_stands s o ≡ true → whole opens (result_type o).sizes (result_type o).base ≡ whole_result o
result_whole s opens None w = refl
result_whole s opens (Some m) w = stated_whole opens m (both (are_stated (local 0 m).sizes) _ w).0

module _ {C : Type 0} {pay : ℕ → C → C} where
  came_if : (structs : List StructForm) (opens : List ℕ) (g : Signature) (b : Bool) (o : Result (Came C pay) Fault) → b ≡ true → CameWell structs opens g o → CameWell structs opens g (if b then o else Err Wrong)
  came_if structs opens g true o e c = c
  came_if structs opens g false o e c = absurd (cc)

  fallen_right : (structs : List StructForm) (opens : List ℕ) (g : Signature) (o : Option Shape) (p : Pixel C pay) → is_void o ≡ true → g.result ≡ result_type o → Begins structs opens g.formals p.env → CameWell structs opens g (fallen C pay o p)
  fallen_right structs opens g None p w e st = (subst (λ (t : Typed). Of structs (whole opens t.sizes t.base) nothing) (sym e) (nothing_fits structs, let n = scalars_nothing in omega arith), st)
  fallen_right structs opens g (Some m) p w e st = absurd (cc)

module _ {C : Type 0} {pay : ℕ → C → C} (s : Scene) (constants : List Value) (calls : List (Called C pay)) (r : Ready s constants calls) where
  abbrev around : Function → List ℕ → Around C pay
  around f opens = record { scene = inside s f; constants = constants; calls = calls; opens = opens }

  sound : (f : Function) (opens : List ℕ) → length opens ≡ (signature_of 0 f).opens → sizes_fit opens ≡ true → Sound (around f opens)
  sound f opens n z = record { numbers = r.numbers; counts = r.counts; counted = r.counted; fields = r.fields; zeros = r.zeros; constants = r.constants; functions = r.functions; library = r.library; opens = n; sizes = z }

  end_right : (f : Function) (opens : List ℕ) (h : Sound (around f opens)) (g : Signature) (returns : Bool) (after : Variables) (o : Outcome C pay End) → g.formals ≡ (signature_of 0 f).formals → g.result ≡ result_type f.result → result_stands s f.result ≡ true → (is_void f.result || returns) ≡ true → Under (first_scope (signature_of 0 f).formals f.variables).variables after → Good (Ends (around f opens) h (result_type f.result) (first_scope (signature_of 0 f).formals f.variables).variables returns after) o → CameWell s.structs opens g (ended C pay s.structs f.result o)
  end_right f opens h g returns after (Err (Trapped kind node)) ef er w v u k = tt
  end_right f opens h g returns after (Err Wrong) ef er w v u k = absurd k
  end_right f opens h g returns after (Ok got) ef er w v u k = cases got.value got.after k where
    begins : (env : Env) → Stand (around f opens) (first_scope (signature_of 0 f).formals f.variables).variables env → Begins s.structs opens g.formals env
    begins env st = subst (λ (formals : List Formal). Begins s.structs opens formals env) (sym ef) (stands_begin s.structs opens (signature_of 0 f).formals (replicate f.variables None) env st)

    cases : (e : End) (p : Pixel C pay) → Ends (around f opens) h (result_type f.result) (first_scope (signature_of 0 f).formals f.variables).variables returns after e p → CameWell s.structs opens g (end_of C pay s.structs f.result e p)
    cases Normal p k = fallen_right s.structs opens g f.result p (or_not (is_void f.result) returns v k.0) er (begins p.env (stands_under (around f opens) (first_scope (signature_of 0 f).formals f.variables).variables after p.env u k.1))
    cases (Left a) p k =
        let same = result_whole s opens f.result w in
        let fit = subst (λ (t : Whole). Of s.structs t a) same k.1 in
        came_if s.structs opens g (fits s.structs a (whole_result f.result).sizes (whole_result f.result).base) _ fit.0 (subst (λ (t : Typed). Of s.structs (whole opens t.sizes t.base) a) (sym er) k.1, begins p.env k.0)

  pub function_right : (f : Function) → function_stands s f ≡ true → Serves s.structs (function_signature s f) (called_of C pay s.structs constants calls f)
  function_right f w =
      let b = both ((node_stands s f.node && parameters_stand (inside s f) (signature_of 0 f).formals f.parameters) && result_stands s f.result) _ w in
      let c = both (node_stands s f.node && parameters_stand (inside s f) (signature_of 0 f).formals f.parameters) _ b.0 in
      let d = both (node_stands s f.node) _ c.0 in
      let e = both (((body_scope s f).well && is_block (out-TypedStatement f.body)) && length (body_scope s f).after.used == f.variables) _ b.1 in
      let well = (both (body_scope s f).well _ (both ((body_scope s f).well && is_block (out-TypedStatement f.body)) _ e.0).0).0 in
      record {
        defaults = defaults_well (inside s f) 0 f.parameters d.1;
        run = λ opens frame turns spent n z fit.
            let h = sound f opens n z in
            let q = statement_well (around f opens) h (result_type f.result) f.body (first_scope (signature_of 0 f).formals f.variables) well in
            let p : Pixel C pay = record { env = frame ++ replicate f.variables None; turns = turns; spent = spent } in
            let fit2 : arguments_fit s.structs opens (locals 0 (parameter_shapes C pay f.parameters)) frame ≡ true = subst (λ (shapes : List LocalShape). arguments_fit s.structs opens shapes frame ≡ true) (sym (locals_formals 0 f.parameters)) fit in
            let take : takes s.structs (parameter_shapes C pay f.parameters) opens frame ≡ true = and_true (length opens == open_sizes_of (parameter_shapes C pay f.parameters) && sizes_fit opens) _ (and_true (length opens == open_sizes_of (parameter_shapes C pay f.parameters)) _ (eq-eqb _ _ n) z) fit2 in
            came_if s.structs opens (function_signature s f) (takes s.structs (parameter_shapes C pay f.parameters) opens frame) (ended C pay s.structs f.result (run_statement C pay (setting (around f opens)) f.body p)) take (end_right f opens h (function_signature s f) (body_scope s f).returns (body_scope s f).after.variables (run_statement C pay (setting (around f opens)) f.body p) refl refl c.1 e.1 q.0 (q.1 p (frame_stands s.structs opens (signature_of 0 f).formals frame f.variables fit)));
      }

-- all functions
pub functions_right : {C : Type 0} {pay : ℕ → C → C} (s : Scene) (constants : List Value) (calls : List (Called C pay)) (fs : List Function) → Ready s constants calls → functions_stand s fs ≡ true → Served s.structs (signatures_after s fs) (meanings C pay s.structs constants calls fs)
functions_right s constants calls [] r w = r.functions
functions_right {C} {pay} s constants calls (f ∷ fs) r w =
    let b = both (function_stands s f) _ w in
    let g = function_signature s f in
    let c : Called C pay = called_of C pay s.structs constants calls f in
    let t = with_functions s (s.functions ++ g ∷ []) in
    let more : Ready t constants (calls ++ c ∷ []) = record { numbers = r.numbers; counts = r.counts; counted = r.counted; fields = r.fields; zeros = r.zeros; constants = r.constants; functions = served_more s.structs s.functions calls g c r.functions (function_right s constants calls r f b.0); library = r.library } in
    functions_right t constants (calls ++ c ∷ []) fs more b.1
