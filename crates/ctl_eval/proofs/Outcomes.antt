-- The run of an entry by what its steps give.
use Rattle.std.proofs.Common.{◌≡◌, ℕ, zero, suc, ◌+◌, ◌<◌, List, [], ◌∷◌, ◌++◌, take, length, get_or, replicate, Option, Some, None, Err, Bool, true, false, ◌&&◌, ◌==◌, if◌then◌else◌, slice_get, refl, ap, sym, subst, ◌∙◌, append_assoc, arith}
use Rattle.std.proofs.lemmas.List.{append-nil}
use Rattle.ctl_types.specs.declared.value.Value.{Value}
use Rattle.ctl_types.specs.declared.program.Struct.{Struct}
use Rattle.ctl_types.specs.declared.program.Parameter.{Parameter}
use Rattle.ctl_types.specs.declared.program.Function.{Function}
use Rattle.ctl_types.specs.Shapes.{open_sizes_of, locals}
use Rattle.ctl_types.specs.Values.{Env, arguments_fit, sizes_fit, open_sizes}
use Rattle.ctl_types.specs.Definitions.{Defined, constant_values}
use Rattle.ctl_types.specs.Scoping.{IsDefined}
use Rattle.ctl_types.specs.Run as run
use Rattle.ctl_types.specs.Run.{Fault, Trapped, Wrong, Ended, first_frame, outputs_of}
use Rattle.ctl_types.specs.Cost.{uncounted, plain_run}
use Rattle.ctl_laws.specs.Sound.{EntriesEndWell, EndsWell, inputs_fit}
use Rattle.eval_values.specs.Uncounted.{free, Called, function_at}
use Rattle.eval_tree.specs.Scene.{calls_of}
use Rattle.ctl_eval.specs.Means.{from_frame, shapes_of}

-- ---- a function that is there

got : (fs : List Function) (k : ℕ) (f : Function) → slice_get fs k ≡ Some f → (k < length fs) × (f ≡ get_or fs k f)
got [] k f e = absurd (cc)
got (g ∷ fs) zero f e = let q : g ≡ f = cc in (omega arith, sym q)
got (g ∷ fs) (suc k) f e = let r = got fs k f e in (let h = r.0 in omega arith, r.1)

any_default : (fs : List Function) (k : ℕ) (f g : Function) → k < length fs → get_or fs k f ≡ get_or fs k g
any_default [] k f g h = absurd (omega arith)
any_default (x ∷ fs) zero f g h = refl
any_default (x ∷ fs) (suc k) f g h = any_default fs k f g (omega arith)

is_that : (fs : List Function) (k : ℕ) (f g : Function) → slice_get fs k ≡ Some f → g ≡ get_or fs k g → g ≡ f
is_that fs k f g e q = q ∙ any_default fs k g f (got fs k f e).0 ∙ sym (got fs k f e).1

-- the parameters of the entry are those of the function that is there
pub parameters_of : (fs gs : List Function) (k : ℕ) (f g : Function) (ps : List Parameter) → gs ≡ fs → slice_get fs k ≡ Some f → g ≡ get_or gs k g → ps ≡ (get_or gs k g).parameters → ps ≡ f.parameters
parameters_of fs gs k f g ps a e q p = p ∙ ap (λ (x : Function). x.parameters) (sym q ∙ is_that fs k f g e (q ∙ ap (λ l. get_or l k g) a))

-- the same structs and parameters begin alike
pub begins_alike : (structs others : List Struct) (ps qs : List Parameter) (inputs : List Value) → structs ≡ others → ps ≡ qs → first_frame structs ps inputs ≡ first_frame others qs inputs
begins_alike structs others ps qs inputs s p = ap (λ l. first_frame l ps inputs) s ∙ ap (λ l. first_frame others l inputs) p

-- ---- a function by its number

module _ (structs : List Struct) (constants : List Value) where
  abbrev made : List Called → Function → Called
  made calls f = run.called_of (Unit {0}) free structs constants calls f

  abbrev grown : List Called → List Function → List Called
  grown calls fs = run.meanings (Unit {0}) free structs constants calls fs

  grown_from : (calls : List Called) (fs : List Function) → (more : List Called) × (grown calls fs ≡ calls ++ more)
  grown_from calls [] = ([], sym (append-nil calls))
  grown_from calls (f ∷ fs) = let r = grown_from (calls ++ made calls f ∷ []) fs in (made calls f ∷ r.0, r.1 ∙ append_assoc calls (made calls f ∷ []) r.0)

  at_length : (calls more : List Called) (r : Called) (k : ℕ) → k ≡ length calls → slice_get (calls ++ r ∷ more) k ≡ Some r
  at_length [] more r zero h = refl
  at_length [] more r (suc k) h = absurd (omega arith)
  at_length (c ∷ calls) more r zero h = absurd (omega arith)
  at_length (c ∷ calls) more r (suc k) h = at_length calls more r k (omega arith)

  length_one : (calls : List Called) (r : Called) → length (calls ++ r ∷ []) ≡ suc (length calls)
  length_one [] r = refl
  length_one (c ∷ calls) r = ap suc (length_one calls r)

  found_there : (calls : List Called) (fs : List Function) (f : Function) (i k : ℕ) → k ≡ length calls + i → i < length fs → f ≡ get_or fs i f → slice_get (grown calls fs) k ≡ Some (made (grown calls (take i fs)) f)
  found_there calls [] f i k q h e = absurd (omega arith)
  found_there calls (g ∷ fs) f zero k q h e =
      let r = grown_from (calls ++ made calls g ∷ []) fs in
      ap (λ l. slice_get l k) (r.1 ∙ append_assoc calls (made calls g ∷ []) r.0) ∙ at_length calls r.0 (made calls g) k (omega arith) ∙ ap (λ f. Some (made calls f)) (sym e)
  found_there calls (g ∷ fs) f (suc i) k q h e = let n = length_one calls (made calls g) in found_there (calls ++ made calls g ∷ []) fs f i k (omega arith) (omega arith) e

-- ---- the run

module _ (d : Defined) (entry : ℕ) (f : Function) (e : slice_get d.functions entry ≡ Some f) (inputs : List Value) (turns : ℕ) where
  abbrev calls : List Called
  calls = run.meanings (Unit {0}) free d.structs (constant_values d) [] d.functions

  abbrev before : List Called
  before = run.meanings (Unit {0}) free d.structs (constant_values d) [] (take entry d.functions)

  abbrev opens : Env → List ℕ
  opens frame = open_sizes (shapes_of f.parameters) frame

  begun : plain_run d entry inputs turns ≡ run.entry_frame (Unit {0}) free calls entry f.parameters turns tt (first_frame d.structs f.parameters inputs)
  begun = ap (λ o. run.entry_of (Unit {0}) free d entry o inputs turns tt) e

  runs : (c : Option Called) (frame : Env) → run.run_of (Unit {0}) free c (opens frame) frame turns tt ≡ function_at c (opens frame) frame turns
  runs None frame = refl
  runs (Some c) frame = refl

  pub with_frame : (frame : Env) → first_frame d.structs f.parameters inputs ≡ Some frame → plain_run d entry inputs turns ≡ from_frame d entry f.parameters frame turns
  unfolding calls_of
  with_frame frame n =
      begun ∙ ap (run.entry_frame (Unit {0}) free calls entry f.parameters turns tt) n
      ∙ ap (run.entry_came (Unit {0}) free f.parameters) (runs (slice_get calls entry) frame)

  not_taken : (a b c : Bool) → b ≡ false → ((a && b) && c) ≡ false
  not_taken true b c h = ap (λ b. b && c) h
  not_taken false b c h = refl

  found : slice_get calls entry ≡ Some (made d.structs (constant_values d) before f)
  found = let r = got d.functions entry f e in found_there d.structs (constant_values d) [] d.functions f entry entry (omega arith) r.0 r.1

  stopped : (frame : Env) → first_frame d.structs f.parameters inputs ≡ Some frame → sizes_fit (opens frame) ≡ false → plain_run d entry inputs turns ≡ Err Wrong
  stopped frame n w =
      begun ∙ ap (run.entry_frame (Unit {0}) free calls entry f.parameters turns tt) n
      ∙ ap (λ c. run.entry_came (Unit {0}) free f.parameters (run.run_of (Unit {0}) free c (opens frame) frame turns tt)) found
      ∙ ap (λ b. run.entry_came (Unit {0}) free f.parameters (if b then run.ended (Unit {0}) free d.structs f.result (run.run_statement (Unit {0}) free (record { structs = d.structs; constants = constant_values d; functions = before; opens = opens frame }) f.body (record { env = frame ++ replicate f.variables None; turns = turns; spent = tt })) else Err Wrong)) (not_taken (length (opens frame) == open_sizes_of (shapes_of f.parameters)) (sizes_fit (opens frame)) (arguments_fit d.structs (opens frame) (locals 0 (shapes_of f.parameters)) frame) w)

  pub sized : EntriesEndWell (Unit {0}) uncounted → IsDefined d → inputs_fit d.structs f.parameters inputs ≡ true → (frame : Env) → first_frame d.structs f.parameters inputs ≡ Some frame → sizes_fit (opens frame) ≡ true
  sized law is fit frame n = by (sizes_fit (opens frame)) refl where
    by : (b : Bool) → sizes_fit (opens frame) ≡ b → sizes_fit (opens frame) ≡ true
    by true q = q
    by false q = absurd (subst (EndsWell (Unit {0}) uncounted d.structs f) (stopped frame n q) (law d is entry f e inputs fit turns tt))
