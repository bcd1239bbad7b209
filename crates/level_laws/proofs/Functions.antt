-- Functions keep the law, each by those before it.
use Rattle.std.proofs.Common.{◌≡◌, ◌<◌, ◌≤◌, ◌+◌, ℕ, zero, suc, List, [], ◌∷◌, ◌++◌, map, replicate, Option, Some, None, Result, Ok, Err, Bool, true, false, true≢false, if◌then◌else◌, length, get_or, slice_get, ap, sym, subst, ◌∙◌, refl, arith}
use Rattle.std.proofs.lemmas.Bool.{lt-ltb}
use Rattle.ctl_types.specs.declared.shape.Shape.{Shape}
use Rattle.ctl_types.specs.declared.shape.LocalShape.{LocalShape}
use Rattle.ctl_types.specs.declared.value.Value.{Value}
use Rattle.ctl_types.specs.declared.program.Struct.{Struct as StructForm}
use Rattle.ctl_types.specs.declared.program.Parameter.{Parameter}
use Rattle.ctl_types.specs.declared.program.Function.{Function}
use Rattle.ctl_types.specs.Shapes.{locals, open_count, extents}
use Rattle.ctl_types.specs.Values.{Env, nothing, var_of, fits, arguments_fit, takes}
use Rattle.ctl_types.specs.Typing.{Scene, result_type, signature_of}
use Rattle.ctl_types.specs.Scoping.{first_scope, inside, body_scope, function_stands, function_signature, functions_stand, with_functions}
use Rattle.ctl_types.specs.Run.{Fault, Wrong, End, Normal, Left, Pixel, Outcome, Came, Called, Setting, run_statement, end_of, ended, whole_result, parameter_shapes, function_run, called_of, meanings}
use Rattle.level_rules.specs.declared.instance.Instance.{Instance}
use Rattle.level_rules.specs.declared.instance.Holder.{Holder}
use Rattle.level_rules.specs.declared.instance.Holder.TheVariants.{Result as ResultHolder, Variable}
use Rattle.level_rules.specs.Rules.{VaryingSet, Known, Around, instance_of, walk_statement}
use Rattle.level_rules.specs.Levels.{Meets, around, before}
use Rattle.level_laws.specs.Uniform.{Alike}
use Rattle.level_laws.proofs.Runs.{Agrees}
use Rattle.level_laws.proofs.Evens.{some_same}
use Rattle.level_laws.proofs.Calls.{SameWhere, CameAlike, IsUniform, Served}
use Rattle.level_laws.proofs.Falls.{FallsTo, CameFalls, AllFall}
use Rattle.level_laws.proofs.Exits.{Exits}
use Rattle.level_laws.proofs.Typed.{both}
use Rattle.level_laws.proofs.Scoped.{even_statement, statement_falls}
use Rattle.level_laws.proofs.Tells.{tells}

-- ---- the variables at the beginning

-- there is an argument for each parameter
fits_long : (structs : List StructForm) (opens : List ℕ) (shapes : List LocalShape) (frame : Env) → arguments_fit structs opens shapes frame ≡ true → length frame ≡ length shapes
fits_long structs opens [] [] h = refl
fits_long structs opens [] (v ∷ frame) h = absurd (true≢false (sym h))
fits_long structs opens (x ∷ shapes) [] h = absurd (true≢false (sym h))
fits_long structs opens (x ∷ shapes) (None ∷ frame) h = absurd (true≢false (sym h))
fits_long structs opens (x ∷ shapes) (Some v ∷ frame) h = ap suc (fits_long structs opens shapes frame (both _ _ h).1)

locals_long : (k : ℕ) (shapes : List Shape) → length (locals k shapes) ≡ length shapes
locals_long k [] = refl
locals_long k (x ∷ shapes) = ap suc (locals_long (k + open_count (extents x)) shapes)

shapes_long : (parameters : List Parameter) → length (map (λ (q : Parameter). q.shape) parameters) ≡ length parameters
shapes_long [] = refl
shapes_long (q ∷ parameters) = ap suc (shapes_long parameters)

takes_long : (structs : List StructForm) (parameters : List Parameter) (opens : List ℕ) (frame : Env) → takes structs (map (λ (q : Parameter). q.shape) parameters) opens frame ≡ true → length frame ≡ length parameters
takes_long structs parameters opens frame h = fits_long structs opens (locals 0 (map (λ (q : Parameter). q.shape) parameters)) frame (both _ _ h).1 ∙ locals_long 0 (map (λ (q : Parameter). q.shape) parameters) ∙ shapes_long parameters

where_long : {A : Type 0} (levels : List Bool) (us vs : List A) → SameWhere levels us vs → length us ≡ length vs
where_long [] [] [] s = refl
where_long [] [] (v ∷ vs) s = absurd s
where_long [] (u ∷ us) vs s = absurd s
where_long (l ∷ levels) [] vs s = absurd s
where_long (l ∷ levels) (u ∷ us) [] s = absurd s
where_long (l ∷ levels) (u ∷ us) (v ∷ vs) s = ap suc (where_long levels us vs s.1)

append_long : {A : Type 0} (us vs xs : List A) → length us ≡ length vs → length (us ++ xs) ≡ length (vs ++ xs)
append_long [] [] xs h = refl
append_long [] (v ∷ vs) xs h = absurd (omega arith)
append_long (u ∷ us) [] xs h = absurd (omega arith)
append_long (u ∷ us) (v ∷ vs) xs h = ap suc (append_long us vs xs (omega arith))

begin_at : (levels : List Bool) (us vs xs : Env) (x : ℕ) → SameWhere levels us vs → (x < length us → get_or levels x false ≡ true → ⊥) → var_of (us ++ xs) x ≡ var_of (vs ++ xs) x
begin_at [] [] [] xs x s e = refl
begin_at [] [] (v ∷ vs) xs x s e = absurd s
begin_at [] (u ∷ us) vs xs x s e = absurd s
begin_at (l ∷ levels) [] vs xs x s e = absurd s
begin_at (l ∷ levels) (u ∷ us) [] xs x s e = absurd s
begin_at (true ∷ levels) (u ∷ us) (v ∷ vs) xs zero s e = absurd (e (omega arith) refl)
begin_at (false ∷ levels) (u ∷ us) (v ∷ vs) xs zero s e = s.0 refl
begin_at (l ∷ levels) (u ∷ us) (v ∷ vs) xs (suc x) s e = begin_at levels us vs xs x s.1 (λ i k. e (omega arith) k)

begin_alike : (set : VaryingSet) (levels : List Bool) (us vs xs : Env) → SameWhere levels us vs → ((k : ℕ) → k < length us → get_or levels k false ≡ true → set (Variable k) ≡ true) → Alike set (us ++ xs) (vs ++ xs)
begin_alike set levels us vs xs s m = record { long = append_long us vs xs (where_long levels us vs s); at = λ x e. begin_at levels us vs xs x s (λ i k. true≢false (sym (m x i k) ∙ e)) }

-- nothing varies
abbrev pub nowhere : Around
nowhere = record { set = λ h. false; opens = []; uniforms = [] }

-- ---- one function

-- what a function is left with
abbrev value_of : End → Value
value_of Normal = nothing
value_of (Left v) = v

exits_same : (l r : Bool) (x y : End) → (l ≡ true → r ≡ true) → Exits l r x y → r ≡ false → value_of x ≡ value_of y
exits_same true r x y t h e = absurd (true≢false (sym (t refl) ∙ e))
exits_same false r Normal Normal t h e = refl
exits_same false r Normal (Left v) t h e = absurd h
exits_same false r (Left u) Normal t h e = absurd h
exits_same false r (Left u) (Left v) t h e = h e

module _ (C : Type 0) (pay : ℕ → C → C) where
  -- ended so, it gives this, or a fault
  abbrev EndsAs : Value → Env → ℕ → Result (Came C pay) Fault → Type 0
  EndsAs v env n (Ok came) = ((came.value ≡ v) × (came.frame ≡ env)) × (came.turns ≤ n)
  EndsAs v env n (Err fault) = Unit {0}

  ends_as : (structs : List StructForm) (result : Option Shape) (end : End) (p : Pixel C pay) → EndsAs (value_of end) p.env p.turns (end_of C pay structs result end p)
  ends_as structs None Normal p = ((refl, refl), omega arith)
  ends_as structs (Some shape) Normal p = tt
  ends_as structs result (Left v) p = at (fits structs v (whole_result result).sizes (whole_result result).base) where
    at : (b : Bool) → EndsAs v p.env p.turns (if b then Ok (record { value = v; frame = p.env; turns = p.turns; spent = p.spent }) else Err Wrong)
    at true = ((refl, refl), omega arith)
    at false = tt

  ends_alike : (a : Around) (set : VaryingSet) (u v : Value) (env more : Env) (m n : ℕ) (o p : Result (Came C pay) Fault) → EndsAs u env m o → EndsAs v more n p → Alike set env more → (set ResultHolder ≡ false → u ≡ v) → CameAlike C pay a set o p
  ends_alike a set u v env more m n (Ok x) (Ok y) h k z e = (subst (λ env. Alike set env y.frame) (sym h.0.1) (subst (λ more. Alike set env more) (sym k.0.1) z), λ i. h.0.0 ∙ e i ∙ sym k.0.0)
  ends_alike a set u v env more m n (Ok x) (Err fault) h k z e = tt
  ends_alike a set u v env more m n (Err fault) o h k z e = tt

  ended_alike : (a : Around) (structs : List StructForm) (result : Option Shape) (set : VaryingSet) (l : Bool) (o p : Outcome C pay End) → (l ≡ true → set ResultHolder ≡ true) → Agrees C pay set (Exits l (set ResultHolder)) o p → CameAlike C pay a set (ended C pay structs result o) (ended C pay structs result p)
  ended_alike a structs result set l (Ok x) (Ok y) t h = ends_alike a set (value_of x.value) (value_of y.value) x.after.env y.after.env x.after.turns y.after.turns _ _ (ends_as structs result x.value x.after) (ends_as structs result y.value y.after) h.0 (exits_same l (set ResultHolder) x.value y.value t h.1)
  ended_alike a structs result set l (Ok x) (Err fault) t h = still (ended C pay structs result (Ok x)) where
    still : (o : Result (Came C pay) Fault) → CameAlike C pay a set o (Err fault)
    still (Ok x) = tt
    still (Err f) = tt
  ended_alike a structs result set l (Err fault) o t h = tt

  ended_falls : (structs : List StructForm) (result : Option Shape) (n : ℕ) (o : Outcome C pay End) → FallsTo C pay n o → CameFalls C pay n (ended C pay structs result o)
  ended_falls structs result n (Ok x) h = at (end_of C pay structs result x.value x.after) (ends_as structs result x.value x.after) where
    at : (o : Result (Came C pay) Fault) → EndsAs (value_of x.value) x.after.env x.after.turns o → CameFalls C pay n o
    at (Ok came) k = let i : came.turns ≤ x.after.turns = k.1 in omega arith
    at (Err fault) k = tt
  ended_falls structs result n (Err fault) h = tt

  module _ (structs : List StructForm) (constants : List Value) (all : List Function) where
    abbrev setting : List (Called C pay) → List ℕ → Setting C pay
    setting runs opens = record { structs = structs; constants = constants; functions = runs; opens = opens }

    body_well : (sc : Scene) (f : Function) → function_stands sc f ≡ true → (body_scope sc f).well ≡ true
    body_well sc f h = (both _ _ (both _ _ (both _ _ (both _ _ h).1).0).0).0

    function_uniform : (known : Known) (runs : List (Called C pay)) (f : Function) (sc : Scene) (n : ℕ) (sizes : List ℕ) (levels : List Bool) (set : VaryingSet) → Served C pay (around all (instance_of n sizes levels false) set) known runs → AllFall C pay runs → function_stands sc f ≡ true → Meets known all f (instance_of n sizes levels false) set → IsUniform C pay (around all (instance_of n sizes levels false) set) (instance_of n sizes levels false) set (function_run C pay structs constants runs f)
    function_uniform known runs f sc n sizes levels set serves falls stands m frame other turns more spent paid same =
        at (takes structs (parameter_shapes C pay f.parameters) sizes frame) (takes structs (parameter_shapes C pay f.parameters) sizes other) (takes_long structs f.parameters sizes frame) where
          i : Instance
          i = instance_of n sizes levels false

          a : Around
          a = around all (instance_of n sizes levels false) set

          runs_alike : length frame ≡ length f.parameters → CameAlike C pay (around all (instance_of n sizes levels false) set) set (ended C pay structs f.result (run_statement C pay (setting runs sizes) f.body (record { env = frame ++ replicate f.variables None; turns = turns; spent = spent }))) (ended C pay structs f.result (run_statement C pay (setting runs sizes) f.body (record { env = other ++ replicate f.variables None; turns = more; spent = paid })))
          runs_alike l = ended_alike (around all (instance_of n sizes levels false) set) structs f.result set (walk_statement known f.body (around all (instance_of n sizes levels false) set) false).leaves _ _ (tells known (around all (instance_of n sizes levels false) set) f.body m.puts)
              ((even_statement C pay known (around all (instance_of n sizes levels false) set) (setting runs sizes) (inside sc f) refl serves (result_type f.result) falls f.body (first_scope (signature_of 0 f).formals f.variables) (body_well sc f stands) m.puts).by _ _
              (begin_alike set levels frame other (replicate f.variables None) same (λ k e g. m.begins k (subst (λ n. k < n) l e) g)))

          at : (b d : Bool) → (b ≡ true → length frame ≡ length f.parameters) → CameAlike C pay (around all (instance_of n sizes levels false) set) set (if b then ended C pay structs f.result (run_statement C pay (setting runs sizes) f.body (record { env = frame ++ replicate f.variables None; turns = turns; spent = spent })) else Err Wrong) (if d then ended C pay structs f.result (run_statement C pay (setting runs sizes) f.body (record { env = other ++ replicate f.variables None; turns = more; spent = paid })) else Err Wrong)
          at false d l = tt
          at true false l = still (ended C pay structs f.result (run_statement C pay (setting runs sizes) f.body (record { env = frame ++ replicate f.variables None; turns = turns; spent = spent }))) where
            still : (o : Result (Came C pay) Fault) → CameAlike C pay (around all (instance_of n sizes levels false) set) set o (Err Wrong)
            still (Ok x) = tt
            still (Err f) = tt
          at true true l = runs_alike (l refl)

    function_falls : (known : Known) (a : Around) (runs : List (Called C pay)) (f : Function) (sc : Scene) → ((opens : List ℕ) → Served C pay (record { set = a.set; opens = opens; uniforms = a.uniforms }) known runs) → AllFall C pay runs → (opens : List ℕ) (frame : Env) (turns : ℕ) (spent : C) → CameFalls C pay turns (function_run C pay structs constants runs f opens frame turns spent)
    function_falls known a runs f sc serves falls opens frame turns spent = at (takes structs (parameter_shapes C pay f.parameters) opens frame) where
      at : (b : Bool) → CameFalls C pay turns (if b then ended C pay structs f.result (run_statement C pay (setting runs opens) f.body (record { env = frame ++ replicate f.variables None; turns = turns; spent = spent })) else Err Wrong)
      at true = ended_falls structs f.result turns _ ((statement_falls C pay known (record { set = a.set; opens = opens; uniforms = a.uniforms }) (setting runs opens) sc refl (serves opens) (result_type f.result) falls f.body).by (record { env = frame ++ replicate f.variables None; turns = turns; spent = spent }))
      at false = tt

    -- ---- all functions so far

    abbrev pub Serves : Known → List (Called C pay) → Type 0
    Serves known runs = Served C pay nowhere known runs

    get_last : {A : Type 0} (B : Type 0) (xs : List A) (x y : A) (k : ℕ) → slice_get (xs ++ x ∷ []) k ≡ Some y → (slice_get xs k ≡ Some y → B) → (k ≡ length xs → x ≡ y → B) → B
    get_last B [] x y zero e f g = g refl (some_same e)
    get_last B [] x y (suc k) e f g = absurd (none_some e) where
      none_some : {A : Type 0} {a : A} → ◌≡◌ {A = Option A} None (Some a) → ⊥
      none_some e = cc
    get_last B (z ∷ xs) x y zero e f g = f e
    get_last B (z ∷ xs) x y (suc k) e f g = get_last B xs x y k e f (λ i j. g (ap suc i) j)

    get_under : {A : Type 0} (xs : List A) (k : ℕ) (x : A) → slice_get xs k ≡ Some x → k < length xs
    get_under [] k x e = absurd (none_some e) where
      none_some : {A : Type 0} {a : A} → ◌≡◌ {A = Option A} None (Some a) → ⊥
      none_some e = cc
    get_under (y ∷ xs) zero x e = omega arith
    get_under (y ∷ xs) (suc k) x e = let h = get_under xs k x e in omega arith

    before_same : (n : ℕ) (known : Known) (i : Instance) → i.function < n → before n known i ≡ known i
    before_same n known i l = ap (λ (b : Bool). if b then known i else (λ (h : Holder). false)) (lt-ltb i.function n l)

    -- what is known of the functions before is enough
    serves_before : (known : Known) (runs : List (Called C pay)) → Serves known runs → Serves (before (length runs) known) runs
    serves_before known runs serves k f e sizes levels = subst (λ set. IsUniform C pay nowhere (instance_of k sizes levels false) set f.run) (sym (before_same (length runs) known (instance_of k sizes levels false) (get_under runs k f e))) (serves k f e sizes levels)

    more_serve : (known : Known) (runs : List (Called C pay)) (f : Function) (sc : Scene) → Serves known runs → AllFall C pay runs → function_stands sc f ≡ true → ((i : Instance) → i.function ≡ length runs → Meets (before (length runs) known) all f i (known i)) → Serves known (runs ++ called_of C pay structs constants runs f ∷ [])
    more_serve known runs f sc serves falls stands m k g e sizes levels = get_last (IsUniform C pay nowhere (instance_of k sizes levels false) (known (instance_of k sizes levels false)) g.run) runs (called_of C pay structs constants runs f) g k e
        (λ j. serves k g j sizes levels)
        (λ j q. subst (λ (g : Called C pay). IsUniform C pay nowhere (instance_of k sizes levels false) (known (instance_of k sizes levels false)) g.run) q
        (function_uniform (before (length runs) known) runs f sc k sizes levels (known (instance_of k sizes levels false)) (serves_before known runs serves) falls stands (m (instance_of k sizes levels false) j)))

    more_fall : (known : Known) (runs : List (Called C pay)) (f : Function) (sc : Scene) → Serves known runs → AllFall C pay runs → AllFall C pay (runs ++ called_of C pay structs constants runs f ∷ [])
    more_fall known runs f sc serves falls k g e opens frame turns spent = get_last (CameFalls C pay turns (g.run opens frame turns spent)) runs (called_of C pay structs constants runs f) g k e
        (λ j. falls k g j opens frame turns spent)
        (λ j q. subst (λ (g : Called C pay). CameFalls C pay turns (g.run opens frame turns spent)) q (function_falls known nowhere runs f sc (λ opens. serves) falls opens frame turns spent))

    length_more : {A : Type 0} (xs : List A) (x : A) → length (xs ++ x ∷ []) ≡ suc (length xs)
    length_more [] x = refl
    length_more (y ∷ xs) x = ap suc (length_more xs x)

    pub all_serve : (known : Known) (n : ℕ) (runs : List (Called C pay)) (sc : Scene) (functions : List Function) → n ≡ length runs → Serves known runs → AllFall C pay runs → functions_stand sc functions ≡ true → ((m : ℕ) (f : Function) → slice_get functions m ≡ Some f → (i : Instance) → i.function ≡ n + m → Meets (before (n + m) known) all f i (known i)) → Serves known (meanings C pay structs constants runs functions)
    all_serve known n runs sc [] e serves falls stands m = serves
    all_serve known n runs sc (f ∷ functions) e serves falls stands m =
        let k = both (function_stands sc f) _ stands in
        let first : (i : Instance) → i.function ≡ length runs → Meets (before (length runs) known) all f i (known i) = λ i j. subst (λ n. Meets (before n known) all f i (known i)) (let q : n + 0 ≡ length runs = omega arith in q) (m 0 f refl i (omega arith)) in
        all_serve known (suc n) (runs ++ called_of C pay structs constants runs f ∷ []) (with_functions sc (sc.functions ++ function_signature sc f ∷ [])) functions (ap suc e ∙ sym (length_more runs _))
        (more_serve known runs f sc serves falls k.0 first)
        (more_fall known runs f sc serves falls)
        k.1
        (λ j g h i l. subst (λ n. Meets (before n known) all g i (known i)) (let q : n + suc j ≡ suc n + j = omega arith in q) (m (suc j) g h i (omega arith)))
