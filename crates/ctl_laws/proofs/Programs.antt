-- Definitions that keep the rules, their entries and initialisers.
use Rattle.std.proofs.Common.{◌≡◌, ℕ, zero, suc, ◌+◌, List, [], ◌∷◌, ◌++◌, map, take, length, sum_by, Option, Some, Ok, Err, Result, true, ◌&&◌, refl, sym, ap, subst, ◌∙◌, arith, slice_get}
use Rattle.ctl_types.specs.declared.shape.Base.{Base}
use Rattle.ctl_types.specs.declared.program.Struct.{Struct as StructForm}
use Rattle.ctl_types.specs.declared.program.Function.{Function}
use Rattle.ctl_types.specs.declared.statement.Initialiser.{Initialiser}
use Rattle.ctl_types.specs.declared.value.Value.{Value}
use Rattle.ctl_types.specs.Shapes.{Whole, whole, size_in}
use Rattle.ctl_types.specs.Values.{Env, Fits, sizes_fit, scalars, open_sizes}
use Rattle.ctl_types.specs.Definitions.{Defined, constant_values}
use Rattle.ctl_types.specs.Laws.{WordsAreCounted}
use Rattle.ctl_types.specs.Typing.{Variables, expr_type, Scene, Formal, formals_from, Signature, signature_of, node_stands, initialiser_type}
use Rattle.ctl_types.specs.Scoping.{structs_stand, constants_stand, functions_stand, function_stands, function_signature, body_scope, result_stands, with_functions, signatures_after, parameters_stand, inside, scene_before, scene_of, IsDefined}
use Rattle.ctl_types.specs.Run.{Fault, Trapped, Wrong, Pixel, Outcome, Came, first_scalars, parameter_shapes, meanings, ended_with, entry_came, run_of, entry_frame, entry_of, call_run, initial_value, setting_of, run_initialiser, run_expr}
use Rattle.ctl_types.specs.declared.expression.TypedExpr.{TypedExpr}
use Rattle.ctl_types.specs.declared.value.Value.{roll-Value, out-Value}
use Rattle.ctl_types.specs.declared.value.Value.TheOpen as layer
use Rattle.ctl_types.specs.declared.value.Value.TheOpen.{Value-F}
use Rattle.ctl_types.specs.declared.value.Value.TheViews.{roll-out-Value}
use Rattle.ctl_laws.specs.Sound.{Stands, GivesWell, scene_at, setting_at, ExpressionsGiveWell, InitialisersGiveWell, SizeIsLength, inputs_fit, EndsWell, EntriesEndWell}
use Rattle.ctl_laws.proofs.Values.{both, and_true, fits_in, fits_out, array_long}
use Rattle.ctl_laws.proofs.Shapes.{size_same}
use Rattle.ctl_laws.proofs.Places.{On, Be, whole_type}
use Rattle.ctl_laws.proofs.Calls.{expr_well}
use Rattle.ctl_laws.proofs.Initialisers.{Bounded, initialiser_well}
use Rattle.ctl_laws.proofs.Ranges.{Numbers}
use Rattle.ctl_laws.proofs.Runs.{Good, good_more}
use Rattle.ctl_laws.proofs.Around.{Begins, CameWell, Served, served_at, LibraryServes, Counts, Around, setting, Sound}
use Rattle.ctl_laws.proofs.Functions.{Ready, functions_right}
use Rattle.ctl_laws.proofs.Structs.{structs_stated, zeros_right, constants_right}
use Rattle.ctl_laws.proofs.Entries.{FirstFits, begun, frame_count, frame_sizes, frame_fits, outputs_fit}

get_left : {A : Type 0} (xs ys : List A) (k : ℕ) (g : A) → slice_get xs k ≡ Some g → slice_get (xs ++ ys) k ≡ Some g
get_left [] ys k g e = absurd (cc)
get_left (x ∷ xs) ys zero g e = e
get_left (x ∷ xs) ys (suc k) g e = get_left xs ys k g e

get_end : {A : Type 0} (xs : List A) (g : A) → slice_get (xs ++ g ∷ []) (length xs) ≡ Some g
get_end [] g = refl
get_end (x ∷ xs) g = get_end xs g

length_more : {A : Type 0} (xs : List A) (x : A) → length (xs ++ x ∷ []) ≡ suc (length xs)
length_more [] x = omega arith
length_more (y ∷ xs) x = let z = length_more xs x in omega arith

after_keeps : (s : Scene) (fs : List Function) (k : ℕ) (g : Signature) → slice_get s.functions k ≡ Some g → slice_get (signatures_after s fs) k ≡ Some g
after_keeps s [] k g e = e
after_keeps s (f ∷ fs) k g e = after_keeps (with_functions s (s.functions ++ function_signature s f ∷ [])) fs k g (get_left s.functions (function_signature s f ∷ []) k g e)

signature_at : (s : Scene) (fs : List Function) (k i : ℕ) (f : Function) → i ≡ length s.functions + k → slice_get fs k ≡ Some f → (depth : ℕ) × (slice_get (signatures_after s fs) i ≡ Some (signature_of depth f))
signature_at s [] k i f n e = absurd (cc)
signature_at s (g ∷ fs) zero i f n e =
    let q : g ≡ f = cc in
    let t = with_functions s (s.functions ++ function_signature s g ∷ []) in
    let here : slice_get (s.functions ++ function_signature s g ∷ []) i ≡ Some (function_signature s g) = subst (λ i. slice_get (s.functions ++ function_signature s g ∷ []) i ≡ Some (function_signature s g)) (let z : length s.functions ≡ i = omega arith in z) (get_end s.functions (function_signature s g)) in
    (suc (body_scope s g).depth, subst (λ (f : Function). slice_get (signatures_after t fs) i ≡ Some (signature_of (suc (body_scope s g).depth) f)) q (after_keeps t fs i (function_signature s g) here))
signature_at s (g ∷ fs) (suc k) i f n e = signature_at (with_functions s (s.functions ++ function_signature s g ∷ [])) fs k i f (let z = length_more s.functions (function_signature s g) in omega arith) e

function_at : (s : Scene) (gs : List Signature) (fs : List Function) (k : ℕ) (f : Function) → functions_stand (with_functions s gs) fs ≡ true → slice_get fs k ≡ Some f → (hs : List Signature) × (function_stands (with_functions s hs) f ≡ true)
function_at s gs [] k f w e = absurd (cc)
function_at s gs (g ∷ fs) zero f w e = let q : g ≡ f = cc in (gs, subst (λ (f : Function). function_stands (with_functions s gs) f ≡ true) q (both (function_stands (with_functions s gs) g) _ w).0)
function_at s gs (g ∷ fs) (suc k) f w e = function_at s (gs ++ function_signature (with_functions s gs) g ∷ []) fs k f (both (function_stands (with_functions s gs) g) _ w).1 e

module _ {C : Type 0} {pay : ℕ → C → C} (numbers : Numbers) (counted : WordsAreCounted) (library : (structs : List StructForm) → Counts structs → LibraryServes C pay structs) (d : Defined) (defined : IsDefined d) where
  -- the parts of the rules
  pub record Parts : Type 0 where
    pub structs : structs_stand [] [] d.structs ≡ true
    pub constants : constants_stand (scene_before d) d.constants ≡ true
    pub functions : functions_stand (scene_before d) d.functions ≡ true

  parts : Parts
  parts =
      let a = both (structs_stand [] [] d.structs) _ defined.stand in
      let b = both (constants_stand (scene_before d) d.constants) _ a.1 in
      record { structs = a.0; constants = b.0; functions = b.1 }

  counts : Counts d.structs
  counts v sizes base h = counted d.structs parts.structs v sizes base h

  pub ready : Ready {C = C} {pay = pay} (scene_before d) (constant_values d) []
  ready = record {
    numbers = numbers;
    counts = counts;
    counted = refl;
    fields = structs_stated [] [] d.structs parts.structs;
    zeros = zeros_right numbers d.structs parts.structs;
    constants = constants_right (scene_before d) counts refl d.constants parts.constants;
    functions = tt;
    library = library d.structs counts;
  }

  all_served : Served d.structs (signatures_after (scene_before d) d.functions) (meanings C pay d.structs (constant_values d) [] d.functions)
  all_served = functions_right (scene_before d) (constant_values d) [] d.functions ready parts.functions

  entry_ended : (f : Function) (g : Signature) (frame : Env) (o : Result (Came C pay) Fault) → g.formals ≡ formals_from 0 f.parameters → FirstFits d.structs f.parameters frame → CameWell d.structs (open_sizes (parameter_shapes C pay f.parameters) frame) g o → EndsWell C pay d.structs f (entry_came C pay f.parameters o)
  entry_ended f g frame (Err (Trapped kind node)) e first c = tt
  entry_ended f g frame (Err Wrong) e first c = absurd c
  entry_ended f g frame (Ok came) e first c =
      let o = outputs_fit d.structs f.parameters frame came.frame (open_sizes (parameter_shapes C pay f.parameters) frame) [] 0 first refl refl (subst (λ (formals : List Formal). Begins d.structs (open_sizes (parameter_shapes C pay f.parameters) frame) formals came.frame) e c.1) in
      subst (λ o. EndsWell C pay d.structs f (ended_with C pay came.turns came.spent o)) (sym o.1) o.2

  pub entry_right : (entry : ℕ) (f : Function) → slice_get d.functions entry ≡ Some f → (inputs : List Value) → inputs_fit d.structs f.parameters inputs ≡ true → (turns : ℕ) (spent : C) → EndsWell C pay d.structs f (call_run C pay d entry inputs turns spent)
  entry_right entry f e inputs fit turns spent =
      let functions = meanings C pay d.structs (constant_values d) [] d.functions in
      let a = signature_at (scene_before d) d.functions entry entry f (omega arith) e in
      let r = served_at d.structs (signatures_after (scene_before d) d.functions) functions entry (signature_of a.0 f) all_served a.1 in
      let t = function_at (scene_before d) [] d.functions entry f parts.functions e in
      let s = with_functions (scene_before d) t.0 in
      let b = both ((node_stands s f.node && parameters_stand (inside s f) (signature_of 0 f).formals f.parameters) && result_stands s f.result) _ t.1 in
      let c = both (node_stands s f.node && parameters_stand (inside s f) (signature_of 0 f).formals f.parameters) _ b.0 in
      let k = both (node_stands s f.node) _ c.0 in
      let frame = begun numbers (inside s f) counts refl ready.zeros 0 f.parameters inputs k.1 fit in
      let opens = open_sizes (parameter_shapes C pay f.parameters) frame.0 in
      let ended : (spent : C) → EndsWell C pay d.structs f (entry_came C pay f.parameters (r.0.run opens frame.0 turns spent)) = λ spent. entry_ended f (signature_of a.0 f) frame.0 (r.0.run opens frame.0 turns spent) refl frame.2 (r.2.run opens frame.0 turns spent (frame_count d.structs f.parameters frame.0 frame.2) (frame_sizes d.structs f.parameters frame.0 frame.2) (frame_fits d.structs f.parameters frame.0 opens [] 0 frame.2 refl refl)) in
      let first : C = pay (sum_by scalars (constant_values d)) spent in
      let second : C = pay (first_scalars f.parameters frame.0) first in
      subst (λ o. EndsWell C pay d.structs f (entry_of C pay d entry o inputs turns spent)) (sym e) (subst (λ o. EndsWell C pay d.structs f (entry_frame C pay functions entry f.parameters turns first o)) (sym frame.1) (subst (λ o. EndsWell C pay d.structs f (entry_came C pay f.parameters (run_of C pay o opens frame.0 turns second))) (sym r.1) (ended second)))

  good_gives : (scope : Variables) (opens : List ℕ) (w : Whole) (o : Outcome C pay Value) → Good (λ v q. Stands d.structs opens scope q.env × Fits d.structs w v) o → GivesWell C pay d.structs opens scope w o
  good_gives scope opens w (Ok got) g = g
  good_gives scope opens w (Err (Trapped kind node)) g = tt
  good_gives scope opens w (Err Wrong) g = absurd g

  pub initialiser_right : (i : Initialiser) (turns : ℕ) (spent : C) → (initialiser_type (scene_of d) [] i).well ≡ true → GivesWell C pay d.structs [] [] (whole [] (initialiser_type (scene_of d) [] i).sizes (initialiser_type (scene_of d) [] i).base) (initial_value C pay d i turns spent)
  initialiser_right i turns spent w =
      let x : Around C pay = record { scene = scene_of d; constants = constant_values d; calls = meanings C pay d.structs (constant_values d) [] d.functions; opens = [] } in
      let h : Sound x = record { numbers = numbers; counts = counts; counted = refl; fields = ready.fields; zeros = ready.zeros; constants = ready.constants; functions = all_served; library = ready.library; opens = refl; sizes = refl } in
      let p : Pixel C pay = record { env = []; turns = turns; spent = spent } in
      good_gives [] [] (whole [] (initialiser_type (scene_of d) [] i).sizes (initialiser_type (scene_of d) [] i).base) (run_initialiser C pay (setting_of C pay d []) i p) (good_more (λ v q. On x h [] q × (Fits d.structs (whole_type x h [] (initialiser_type (scene_of d) [] i)) v × Bounded x h [] (initialiser_type (scene_of d) [] i) v)) (λ v q. Stands d.structs [] [] q.env × Fits d.structs (whole [] (initialiser_type (scene_of d) [] i).sizes (initialiser_type (scene_of d) [] i).base) v) (run_initialiser C pay (setting x) i p) (initialiser_well x h [] i p tt w) (λ v q g. (g.0, g.1.0)))

  take_stand : (s : Scene) (fs : List Function) (k : ℕ) → functions_stand s fs ≡ true → functions_stand s (take k fs) ≡ true
  take_stand s [] zero w = refl
  take_stand s [] (suc k) w = refl
  take_stand s (f ∷ fs) zero w = refl
  take_stand s (f ∷ fs) (suc k) w = let b = both (function_stands s f) _ w in and_true (function_stands s f) _ b.0 (take_stand (with_functions s (s.functions ++ function_signature s f ∷ [])) fs k b.1)

  pub expression_right : (k : ℕ) (opens : List ℕ) (scope : Variables) (e : TypedExpr) (p : Pixel C pay) → sizes_fit opens ≡ true → Stands d.structs opens scope p.env → (expr_type (scene_at d k (length opens)) scope e).well ≡ true → GivesWell C pay d.structs opens scope (whole opens (expr_type (scene_at d k (length opens)) scope e).sizes (expr_type (scene_at d k (length opens)) scope e).base) (run_expr C pay (setting_at C pay d k opens) e p)
  expression_right k opens scope e p z st w =
      let x : Around C pay = record { scene = scene_at d k (length opens); constants = constant_values d; calls = meanings C pay d.structs (constant_values d) [] (take k d.functions); opens = opens } in
      let served = functions_right (scene_before d) (constant_values d) [] (take k d.functions) ready (take_stand (scene_before d) d.functions k parts.functions) in
      let h : Sound x = record { numbers = numbers; counts = counts; counted = refl; fields = ready.fields; zeros = ready.zeros; constants = ready.constants; functions = served; library = ready.library; opens = refl; sizes = z } in
      let y = whole opens (expr_type (scene_at d k (length opens)) scope e).sizes (expr_type (scene_at d k (length opens)) scope e).base in
      good_gives scope opens y (run_expr C pay (setting x) e p) (good_more (Be x h scope y) (λ v q. Stands d.structs opens scope q.env × Fits d.structs y v) (run_expr C pay (setting x) e p) (expr_well x h scope e p st w) (λ v q g. (g.0, g.1.0)))

pub entries_end_well : (C : Type 0) (pay : ℕ → C → C) → Numbers → WordsAreCounted → ((structs : List StructForm) → Counts structs → LibraryServes C pay structs) → EntriesEndWell C pay
entries_end_well C pay numbers counted library d defined entry f e inputs fit turns spent = entry_right numbers counted library d defined entry f e inputs fit turns spent

pub initialisers_give_well : (C : Type 0) (pay : ℕ → C → C) → Numbers → WordsAreCounted → ((structs : List StructForm) → Counts structs → LibraryServes C pay structs) → InitialisersGiveWell C pay
initialisers_give_well C pay numbers counted library d defined i turns spent w = initialiser_right numbers counted library d defined i turns spent w

pub expressions_give_well : (C : Type 0) (pay : ℕ → C → C) → Numbers → WordsAreCounted → ((structs : List StructForm) → Counts structs → LibraryServes C pay structs) → ExpressionsGiveWell C pay
expressions_give_well C pay numbers counted library d defined k opens scope e p z st w = expression_right numbers counted library d defined k opens scope e p z st w

-- ---- sizes

size_in_form : (structs : List StructForm) (n : ℕ) (sizes : List ℕ) (base : Option Base) (y : Value-F Value) → fits_in structs y (n ∷ sizes) base ≡ true → (vs : List Value) × (y ≡ layer.List vs) × (length vs ≡ n)
size_in_form structs n sizes base (layer.One t) f = absurd (cc)
size_in_form structs n sizes base (layer.Fields vs) f = absurd (cc)
size_in_form structs n sizes base (layer.List vs) f = (vs, refl, array_long structs vs n sizes base f)

pub size_is_length : SizeIsLength
size_is_length structs opens size [] base v h f = absurd (cc)
size_is_length structs opens size (s ∷ sizes) base v h f =
    let e : s ≡ size = size_same s size h in
    let l = size_in_form structs (size_in opens s) (map (size_in opens) sizes) base (out-Value v) (sym (fits_out structs v (size_in opens s ∷ map (size_in opens) sizes) base) ∙ f) in
    (l.0, sym (roll-out-Value v) ∙ ap roll-Value l.1, l.2 ∙ ap (size_in opens) e)
