-- A function by its number.
use Rattle.std.proofs.Common.{◌≡◌, ℕ, zero, suc, ◌+◌, ◌<◌, ◌≤◌, List, [], ◌∷◌, ◌++◌, map, take, length, get_or, replicate, refl, ap, sym, ◌∙◌, append_assoc, arith, Bool, true, false, Option, Some, None, Result, Ok, Err, slice_get, if◌then◌else◌}
use Rattle.std.proofs.lemmas.List.{append-nil}
use Rattle.ctl_types.specs.declared.value.Value.{Value}
use Rattle.ctl_types.specs.declared.program.Struct.{Struct}
use Rattle.ctl_types.specs.declared.program.Parameter.{Parameter}
use Rattle.ctl_types.specs.declared.program.Function.{Function}
use Rattle.ctl_types.specs.Values.{Env, takes}
use Rattle.ctl_types.specs.Run as run
use Rattle.ctl_types.specs.Run.{Fault, Trapped, Wrong, End}
use Rattle.eval_values.specs.declared.stop.Stop.{Stop}
use Rattle.eval_values.specs.declared.stop.Stop.TheVariants as stop
use Rattle.eval_values.specs.Uncounted.{free, Pixel, Outcome, pixel, Called, Came, Gives, Comes, function_at, end_of}
use Rattle.eval_tree.specs.Scene.{SceneForm, calls_of, values_of, setting, run_statement}
use Rattle.eval_tree.specs.Calls.{seen, begun, Begins, defaults_of, default_of}
use Rattle.eval_tree.specs.Weight.{weight, statement_size}
use Rattle.eval_tree.specs.declared.ends.End.{End as EndForm}

module _ (structs : List Struct) (constants : List Value) where
  abbrev made : List Called → Function → Called
  made calls f = run.called_of (Unit {0}) free structs constants calls f

  abbrev grown : List Called → List Function → List Called
  grown calls fs = run.meanings (Unit {0}) free structs constants calls fs

  grown_from : (calls : List Called) (fs : List Function) → (more : List Called) × (grown calls fs ≡ calls ++ more)
  grown_from calls [] = ([], sym (append-nil calls))
  grown_from calls (f ∷ fs) = let r = grown_from (calls ++ made calls f ∷ []) fs in (made calls f ∷ r.0, r.1 ∙ append_assoc calls (made calls f ∷ []) r.0)

  at_length : (calls more : List Called) (r : Called) (k : ℕ) → k ≡ length calls → slice_get (calls ++ r ∷ more) k ≡ Some r
  at_length [] more r zero h = refl
  at_length [] more r (suc k) h = absurd (omega arith)
  at_length (c ∷ calls) more r zero h = absurd (omega arith)
  at_length (c ∷ calls) more r (suc k) h = at_length calls more r k (omega arith)

  length_one : (calls : List Called) (r : Called) → length (calls ++ r ∷ []) ≡ suc (length calls)
  length_one [] r = refl
  length_one (c ∷ calls) r = ap suc (length_one calls r)

  found_there : (calls : List Called) (fs : List Function) (f : Function) (i k : ℕ) → k ≡ length calls + i → i < length fs → f ≡ get_or fs i f → slice_get (grown calls fs) k ≡ Some (made (grown calls (take i fs)) f)
  found_there calls [] f i k q h e = absurd (omega arith)
  found_there calls (g ∷ fs) f zero k q h e =
      let r = grown_from (calls ++ made calls g ∷ []) fs in
      ap (λ l. slice_get l k) (r.1 ∙ append_assoc calls (made calls g ∷ []) r.0) ∙ at_length calls r.0 (made calls g) k (omega arith) ∙ ap (λ f. Some (made calls f)) (sym e)
  found_there calls (g ∷ fs) f (suc i) k q h e = let n = length_one calls (made calls g) in found_there (calls ++ made calls g ∷ []) fs f i k (omega arith) (omega arith) e

  found_none : (calls : List Called) (fs : List Function) (k : ℕ) → length calls + length fs ≤ k → slice_get (grown calls fs) k ≡ None
  found_none [] [] k h = refl
  found_none (c ∷ calls) [] zero h = absurd (omega arith)
  found_none (c ∷ calls) [] (suc k) h = found_none calls [] k (omega arith)
  found_none calls (f ∷ fs) k h = let n = length_one calls (made calls f) in found_none (calls ++ made calls f ∷ []) fs k (omega arith)

  pub function_is : (fs : List Function) (f : Function) (k : ℕ) → k < length fs → f ≡ get_or fs k f → slice_get (calls_of structs constants fs) k ≡ Some (made (calls_of structs constants (take k fs)) f)
  unfolding calls_of
  function_is fs f k h e = found_there [] fs f k k (omega arith) h e

  pub function_absent : (fs : List Function) (k : ℕ) → length fs ≤ k → slice_get (calls_of structs constants fs) k ≡ None
  unfolding calls_of
  function_absent fs k h = found_none [] fs k (omega arith)

pub weight_falls : (fs : List Function) (k : ℕ) (f : Function) → k < length fs → f ≡ get_or fs k f → weight (take k fs) + statement_size f.body < weight fs
weight_falls [] k f h e = absurd (omega arith)
weight_falls (g ∷ fs) zero f h e = let q : statement_size f.body ≡ statement_size g.body = ap (λ (f : Function). statement_size f.body) e in omega arith
weight_falls (g ∷ fs) (suc k) f h e = let q = weight_falls fs k f (omega arith) e in omega arith

-- ---- the run of one

module _ (s : SceneForm) (f : Function) (k : ℕ) (opens : List ℕ) (frame : Env) (turns : ℕ) (h : k < length s.functions) (e : f ≡ get_or s.functions k f) where
  abbrev inner : SceneForm
  inner = record { structs = s.structs; constants = s.constants; functions = take k s.functions; opens = opens }

  abbrev bodied : Option Env → Result Came Fault
  bodied None = Err Wrong
  bodied (Some env) = run.ended (Unit {0}) free s.structs f.result (run_statement inner f.body (pixel env turns))

  runs : function_at (slice_get (setting s).functions k) opens frame turns ≡ bodied (begun s.structs f opens frame)
  runs = ap (λ c. function_at c opens frame turns) (function_is s.structs (values_of s.constants) s.functions f k h e) ∙ by (takes s.structs (map (λ (q : Parameter). q.shape) f.parameters) opens frame) where
    by : (b : Bool) → (if b then run.ended (Unit {0}) free s.structs f.result (run_statement inner f.body (pixel (frame ++ replicate f.variables None) turns)) else Err Wrong) ≡ bodied (if b then Some (frame ++ replicate f.variables None) else None)
    by true = refl
    by false = refl

  pub not_taken : begun s.structs f opens frame ≡ None → function_at (slice_get (setting s).functions k) opens frame turns ≡ Err Wrong
  not_taken n = runs ∙ ap bodied n

  began : (env : Env) → begun s.structs f opens frame ≡ Some env → function_at (slice_get (setting s).functions k) opens frame turns ≡ run.ended (Unit {0}) free s.structs f.result (run_statement inner f.body (pixel env turns))
  began env n = runs ∙ ap bodied n

  pub body_stops : (env env' : Env) (turns' : ℕ) (x : Stop) → begun s.structs f opens frame ≡ Some env → Gives seen (Err x) env' turns' (run_statement inner f.body (pixel env turns)) → Comes (Err x) env' turns' (function_at (slice_get (setting s).functions k) opens frame turns)
  body_stops env env' turns' (stop.Trap kind node) n y = began env n ∙ ap (run.ended (Unit {0}) free s.structs f.result) y
  body_stops env env' turns' stop.Wrong n y = began env n ∙ ap (run.ended (Unit {0}) free s.structs f.result) y
  body_stops env env' turns' stop.Memory n y = tt

  come : (res : Result Value Stop) (env' : Env) (turns' : ℕ) (a b : Result Came Fault) → a ≡ b → Comes res env' turns' b → Comes res env' turns' a
  come (Ok v) env' turns' a b q y = q ∙ y
  come (Err (stop.Trap kind node)) env' turns' a b q y = q ∙ y
  come (Err stop.Wrong) env' turns' a b q y = q ∙ y
  come (Err stop.Memory) env' turns' a b q y = tt

  pub body_ends : (env env' : Env) (turns' : ℕ) (end : EndForm) (res : Result Value Stop) → begun s.structs f opens frame ≡ Some env → run_statement inner f.body (pixel env turns) ≡ Ok (record { value = seen end; after = pixel env' turns' }) → Comes res env' turns' (end_of s.structs f.result (seen end) (pixel env' turns')) → Comes res env' turns' (function_at (slice_get (setting s).functions k) opens frame turns)
  body_ends env env' turns' end res n y z = come res env' turns' _ _ (began env n ∙ ap (run.ended (Unit {0}) free s.structs f.result) y) z

  pub begin_stops : (frame' env' : Env) (turns' : ℕ) (x : Stop) → Begins {V = Unit {0}} (Err x) frame' (begun s.structs f opens frame) → Comes (Err x) env' turns' (function_at (slice_get (setting s).functions k) opens frame turns)
  begin_stops frame' env' turns' (stop.Trap kind node) y = absurd y
  begin_stops frame' env' turns' stop.Wrong y = not_taken y
  begin_stops frame' env' turns' stop.Memory y = tt

pub absent_runs : (s : SceneForm) (k : ℕ) (opens : List ℕ) (frame : Env) (turns : ℕ) → length s.functions ≤ k → function_at (slice_get (setting s).functions k) opens frame turns ≡ Err Wrong
absent_runs s k opens frame turns h = ap (λ f. function_at f opens frame turns) (function_absent s.structs (values_of s.constants) s.functions k h)

got : (fs : List Function) (k : ℕ) (f : Function) → slice_get fs k ≡ Some f → (k < length fs) × (f ≡ get_or fs k f)
got [] k f e = absurd (cc)
got (g ∷ fs) zero f e = let q : g ≡ f = cc in (omega arith, sym q)
got (g ∷ fs) (suc k) f e = let r = got fs k f e in (let h = r.0 in omega arith, r.1)

not_got : (fs : List Function) (k : ℕ) → slice_get fs k ≡ None → length fs ≤ k
not_got [] k e = omega arith
not_got (g ∷ fs) zero e = absurd (cc)
not_got (g ∷ fs) (suc k) e = let h = not_got fs k e in omega arith

pub defaults_there : (s : SceneForm) (k : ℕ) (f : Function) → slice_get s.functions k ≡ Some f → map default_of f.parameters ≡ defaults_of (slice_get (setting s).functions k)
defaults_there s k f e = let r = got s.functions k f e in sym (ap defaults_of (function_is s.structs (values_of s.constants) s.functions f k r.0 r.1))

pub defaults_none : (s : SceneForm) (k : ℕ) → slice_get s.functions k ≡ None → defaults_of (slice_get (setting s).functions k) ≡ []
defaults_none s k e = ap defaults_of (function_absent s.structs (values_of s.constants) s.functions k (not_got s.functions k e))
