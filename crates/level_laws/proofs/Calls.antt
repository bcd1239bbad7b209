-- Calls at a place of uniform control.
use Rattle.std.proofs.Common.{◌≡◌, ◌+◌, ℕ, suc, List, [], ◌∷◌, map, Option, Some, None, Result, Ok, Err, Bool, true, false, true≢false, ◌||◌, length, slice_get, sum_by, ap, sym, subst, ◌∙◌, refl, arith}
use Rattle.ctl_base.specs.declared.kind.Node.{Node}
use Rattle.ctl_types.specs.declared.expression.Callee.TheVariants as callee
use Rattle.ctl_types.specs.declared.shape.Size.{Size}
use Rattle.ctl_types.specs.declared.value.Value.{Value}
use Rattle.ctl_types.specs.Shapes.{size_in}
use Rattle.ctl_types.specs.Values.{Env, var_of}
use Rattle.ctl_types.specs.Run.{Fault, Pixel, Passed, Target, converted_back, given_or, given, scalars_in, Came, FunctionRun, Called, Setting, ArgumentRun, put_back, brought, came_to, called, call_step}
use Rattle.level_rules.specs.declared.instance.Instance.{Instance}
use Rattle.level_rules.specs.declared.instance.Holder.TheVariants.{Result as ResultHolder, Variable}
use Rattle.level_rules.specs.Rules.{VaryingSet, Known, Around, ArgumentLook, levels_of, any, variable_if, one_if, outputs_found, instance_of, seen_callee}
use Rattle.level_rules.specs.Levels.{AllIn}
use Rattle.level_laws.specs.Uniform.{Alike}
use Rattle.level_laws.proofs.Envs.{all_left, all_right, or_left, or_right, by_level, alike_refl, alike_sym, alike_trans, set_in, stored_alike}
use Rattle.level_laws.proofs.Runs.{SameIf, Agrees, Even, even_then, even_held, even_evaluated}
use Rattle.level_laws.proofs.Stills.{Each, OutputIs}
use Rattle.level_laws.proofs.Evens.{some_same, EvenOf, PassedAll, EvenArgument, listed_even}

-- lists that are the same where the level is uniform
abbrev pub SameWhere : {A : Type 0} → List Bool → List A → List A → Type 0
SameWhere [] [] [] = Unit {0}
SameWhere [] [] (v ∷ vs) = ⊥
SameWhere [] (u ∷ us) vs = ⊥
SameWhere (l ∷ levels) [] vs = ⊥
SameWhere (l ∷ levels) (u ∷ us) [] = ⊥
SameWhere (l ∷ levels) (u ∷ us) (v ∷ vs) = (l ≡ false → u ≡ v) × SameWhere levels us vs

-- the variables from number k on are the same where they do not vary
abbrev pub SameFrom : (ℕ → Bool) → ℕ → Env → Env → Type 0
SameFrom f k [] [] = Unit {0}
SameFrom f k [] (v ∷ vs) = ⊥
SameFrom f k (u ∷ us) [] = ⊥
SameFrom f k (u ∷ us) (v ∷ vs) = (f k ≡ false → u ≡ v) × SameFrom f (k + 1) us vs

same_from : (f : ℕ → Bool) (k : ℕ) (us vs : Env) → length us ≡ length vs → ((j m : ℕ) → m ≡ k + j → f m ≡ false → var_of us j ≡ var_of vs j) → SameFrom f k us vs
same_from f k [] [] l h = tt
same_from f k [] (v ∷ vs) l h = absurd (omega arith)
same_from f k (u ∷ us) [] l h = absurd (omega arith)
same_from f k (u ∷ us) (v ∷ vs) l h = (λ e. h 0 k (omega arith) e, same_from f (k + 1) us vs (omega arith) (λ j m i e. h (suc j) m (omega arith) e))

pub alike_from : (set : VaryingSet) (us vs : Env) → Alike set us vs → SameFrom (λ k. set (Variable k)) 0 us vs
alike_from set us vs h = same_from (λ k. set (Variable k)) 0 us vs h.long (λ j m i e. h.at j (subst (λ m. set (Variable m) ≡ false) (let q : m ≡ j = omega arith in q) e))

pub equal_from : (b : Bool) (k : ℕ) (us vs : Env) → length us ≡ length vs → (b ≡ false → us ≡ vs) → SameFrom (λ k. b) k us vs
equal_from b k us vs l h = same_from (λ k. b) k us vs l (λ j m i e. ap (λ us. var_of us j) (h e))

not_put : (set : VaryingSet) (b : Bool) (x : ℕ) → AllIn set (one_if b (Variable x)) → set (Variable x) ≡ false → b ≡ false
not_put set true x h e = absurd (true≢false (sym h.0 ∙ e))
not_put set false x h e = refl

module _ (C : Type 0) (pay : ℕ → C → C) (a : Around) where
  abbrev w : VaryingSet
  w = a.set

  -- where both runs of a function give values, what does not vary is the same
  abbrev pub CameAlike : VaryingSet → Result (Came C pay) Fault → Result (Came C pay) Fault → Type 0
  CameAlike set (Ok x) (Ok y) = Alike set x.frame y.frame × (set ResultHolder ≡ false → x.value ≡ y.value)
  CameAlike set (Ok x) (Err fault) = Unit {0}
  CameAlike set (Err fault) came = Unit {0}

  -- runs from arguments that are the same where the parameter is uniform, with any turns
  abbrev pub IsUniform : Instance → VaryingSet → FunctionRun C pay → Type 0
  IsUniform i set run = (frame other : Env) (turns more : ℕ) (spent paid : C) → SameWhere i.levels frame other → CameAlike set (run i.sizes frame turns spent) (run i.sizes other more paid)

  pub given_same : (ds : List (Option Value)) (ls : List ArgumentLook) (us vs : List Passed) → PassedAll C pay a ls us vs → SameWhere (levels_of ls a false) (given ds us) (given ds vs)
  given_same ds [] [] [] h = tt
  given_same ds [] [] (v ∷ vs) h = absurd h
  given_same ds [] (u ∷ us) vs h = absurd h
  given_same ds (l ∷ ls) [] vs h = absurd h
  given_same ds (l ∷ ls) (u ∷ us) [] h = absurd h
  given_same [] (l ∷ ls) (u ∷ us) (v ∷ vs) h = (h.0.0, given_same [] ls us vs h.1)
  given_same (d ∷ ds) (l ∷ ls) (u ∷ us) (v ∷ vs) h = (λ e. ap (λ x. given_or x d) (h.0.0 e), given_same ds ls us vs h.1)

  -- ---- outputs are put back

  abbrev put_option : Option Target → List ℕ → Option Value → Pixel C pay → Pixel C pay
  put_option t path None p = p
  put_option t path (Some v) p = put_back C pay t path v p

  brought_one : (t : Option Target) (ts : List (Option Target)) (q : Passed) (qs : List Passed) (x : Option Value) (frame : Env) (p : Pixel C pay) → brought C pay (t ∷ ts) (q ∷ qs) (x ∷ frame) p ≡ brought C pay ts qs frame (put_option t q.path x p)
  brought_one t ts q qs None frame p = refl
  brought_one t ts q qs (Some v) frame p = refl

  put_none : (path : List ℕ) (x : Option Value) (p : Pixel C pay) → (put_option None path x p).env ≡ p.env
  put_none path None p = refl
  put_none path (Some v) p = refl

  put_in : (t : Target) (path : List ℕ) (x : Option Value) (p : Pixel C pay) → w (Variable t.variable) ≡ true → Alike w p.env (put_option (Some t) path x p).env
  put_in t path None p h = alike_refl w p.env
  put_in t path (Some v) p h = set_in w t.variable _ p.env h

  put_both : (t : Target) (path : List ℕ) (x : Option Value) (p q : Pixel C pay) → Alike w p.env q.env → Alike w (put_option (Some t) path x p).env (put_option (Some t) path x q).env
  put_both t path None p q h = h
  put_both t path (Some v) p q h = stored_alike w t.variable path path (converted_back t.conversion v) (converted_back t.conversion v) p.env q.env h (λ e. refl) (λ e. refl)

  put_even : (o : Option ℕ) (t : Option Target) → OutputIs o t → (b : Bool) → AllIn w (variable_if b o) → (path other : List ℕ) (x y : Option Value) → (b ≡ false → path ≡ other) → (b ≡ false → x ≡ y) → (p q : Pixel C pay) → Alike w p.env q.env → Alike w (put_option t path x p).env (put_option t other y q).env
  put_even None None e b h path other x y f g p q z = subst (λ env. Alike w env (put_option None other y q).env) (sym (put_none path x p)) (subst (λ env. Alike w p.env env) (sym (put_none other y q)) z)
  put_even None (Some t) e b h path other x y f g p q z = absurd e
  put_even (Some v) None e b h path other x y f g p q z = absurd e
  put_even (Some v) (Some t) e b h path other x y f g p q z = by_level (w (Variable t.variable))
      (λ i. alike_trans (alike_sym (put_in t path x p i)) (alike_trans z (put_in t other y q i)))
      (λ i. let n : b ≡ false = not_put w b v h (ap (λ x. w (Variable x)) e ∙ i) in
      subst (λ other. Alike w (put_option (Some t) path x p).env (put_option (Some t) other y q).env) (f n)
      (subst (λ y. Alike w (put_option (Some t) path x p).env (put_option (Some t) path y q).env) (g n) (put_both t path x p q z)))

  pub brought_even : (ls : List ArgumentLook) (rs : List (ArgumentRun C pay)) → Each (EvenArgument C pay a) ls rs → (f : ℕ → Bool) (k : ℕ) → AllIn w (outputs_found f k ls a false).puts → (us vs : List Passed) → PassedAll C pay a ls us vs → (frame other : Env) → SameFrom f k frame other → (p q : Pixel C pay) → Alike w p.env q.env → Alike w (brought C pay (map (λ (r : ArgumentRun C pay). r.target) rs) us frame p).env (brought C pay (map (λ (r : ArgumentRun C pay). r.target) rs) vs other q).env
  brought_even [] [] e f k h us vs s frame other m p q z = z
  brought_even [] (r ∷ rs) e f k h us vs s frame other m p q z = absurd e
  brought_even (l ∷ ls) [] e f k h us vs s frame other m p q z = absurd e
  brought_even (l ∷ ls) (r ∷ rs) e f k h [] vs s frame other m p q z = absurd s
  brought_even (l ∷ ls) (r ∷ rs) e f k h (u ∷ us) [] s frame other m p q z = absurd s
  brought_even (l ∷ ls) (r ∷ rs) e f k h (u ∷ us) (v ∷ vs) s [] [] m p q z = z
  brought_even (l ∷ ls) (r ∷ rs) e f k h (u ∷ us) (v ∷ vs) s [] (y ∷ other) m p q z = absurd m
  brought_even (l ∷ ls) (r ∷ rs) e f k h (u ∷ us) (v ∷ vs) s (x ∷ frame) [] m p q z = absurd m
  brought_even (l ∷ ls) (r ∷ rs) e f k h (u ∷ us) (v ∷ vs) s (x ∷ frame) (y ∷ other) m p q z =
      let ts : List (Option Target) = map (λ (r : ArgumentRun C pay). r.target) rs in
      let i = (l.look a false).varies in
      let one = put_even l.output r.target e.0.0 (f k || i) (all_left w _ _ h) u.path v.path x y (λ n. s.0.1 (or_right (f k) i n)) (λ n. m.0 (or_left (f k) i n)) p q z in
      let more = brought_even ls rs e.1 f (k + 1) (all_right w _ _ h) us vs s.1 frame other m.1 (put_option r.target u.path x p) (put_option r.target v.path y q) one in
      subst (λ d. Alike w d.env (brought C pay (r.target ∷ ts) (v ∷ vs) (y ∷ other) q).env) (sym (brought_one r.target ts u us x frame p))
      (subst (λ d. Alike w (brought C pay ts us frame (put_option r.target u.path x p)).env d.env) (sym (brought_one r.target ts v vs y other q)) more)

  -- what two runs of a function give, by what is the same of their variables
  pub came_even : (ts : List (Option Target)) (us vs : List Passed) (f : ℕ → Bool) (b : Bool) (env more : Env) (o p : Result (Came C pay) Fault) → ((x y : Came C pay) → o ≡ Ok x → p ≡ Ok y → SameFrom f 0 x.frame y.frame × (b ≡ false → x.value ≡ y.value)) → ((frame other : Env) → SameFrom f 0 frame other → (p q : Pixel C pay) → Alike w p.env q.env → Alike w (brought C pay ts us frame p).env (brought C pay ts vs other q).env) → Alike w env more → Agrees C pay w (SameIf b) (came_to C pay ts us env o) (came_to C pay ts vs more p)
  came_even ts us vs f b env more (Ok x) (Ok y) h g z = let k = h x y refl refl in (g x.frame y.frame k.0 _ _ z, k.1)
  came_even ts us vs f b env more (Ok x) (Err fault) h g z = tt
  came_even ts us vs f b env more (Err fault) o h g z = tt

  -- ---- a call of a function of the program

  from_came : (set : VaryingSet) (b : Bool) (o p : Result (Came C pay) Fault) → CameAlike set o p → (x y : Came C pay) → o ≡ Ok x → p ≡ Ok y → SameFrom (λ k. set (Variable k)) 0 x.frame y.frame × ((b || set ResultHolder) ≡ false → x.value ≡ y.value)
  from_came set b o p h x y e f =
      let k : CameAlike set (Ok x) (Ok y) = subst (λ o. CameAlike set o (Ok y)) e (subst (λ p. CameAlike set o p) f h) in
      (alike_from set x.frame y.frame k.0, λ i. k.1 (or_right b (set ResultHolder) i))

  -- the functions that are called keep the law
  abbrev pub Served : Known → List (Called C pay) → Type 0
  Served known functions = (n : ℕ) (f : Called C pay) → slice_get functions n ≡ Some f → (sizes : List ℕ) (levels : List Bool) → IsUniform (instance_of n sizes levels false) (known (instance_of n sizes levels false)) f.run

  called_even : (ls : List ArgumentLook) (rs : List (ArgumentRun C pay)) → Each (EvenArgument C pay a) ls rs → (set : VaryingSet) (opens : List ℕ) (us vs : List Passed) (f : Called C pay) → ((frame other : Env) (turns more : ℕ) (spent paid : C) → SameWhere (levels_of ls a false) frame other → CameAlike set (f.run opens frame turns spent) (f.run opens other more paid)) → AllIn w (outputs_found (λ k. set (Variable k)) 0 ls a false).puts → PassedAll C pay a ls us vs → Even C pay w (SameIf (any (levels_of ls a false) || set ResultHolder)) (called C pay opens (map (λ (r : ArgumentRun C pay). r.target) rs) us f) (called C pay opens (map (λ (r : ArgumentRun C pay). r.target) rs) vs f)
  called_even ls rs e set opens us vs f h k s = record {
    by = λ p q z. came_even (map (λ (r : ArgumentRun C pay). r.target) rs) us vs (λ k. set (Variable k)) (any (levels_of ls a false) || set ResultHolder) p.env q.env _ _
        (from_came set (any (levels_of ls a false)) _ _ (h (given f.defaults us) (given f.defaults vs) p.turns q.turns (pay (sum_by scalars_in (given f.defaults us)) p.spent) (pay (sum_by scalars_in (given f.defaults vs)) q.spent) (given_same f.defaults ls us vs s)))
        (brought_even ls rs e (λ k. set (Variable k)) 0 k us vs s) z;
  }

  pub program_even : (known : Known) (s : Setting C pay) → s.opens ≡ a.opens → Served known s.functions → (n : ℕ) (sizes : List Size) (node : Node) (ls : List ArgumentLook) (rs : List (ArgumentRun C pay)) → Each (EvenArgument C pay a) ls rs → EvenOf C pay a (seen_callee known (callee.Program n) sizes ls) (call_step C pay s (record { callee = callee.Program n; sizes = sizes; arguments = rs; node = node }))
  program_even known s o serves n sizes node ls rs e h =
      let i : Instance = instance_of n (map (size_in a.opens) sizes) (levels_of ls a false) false in
      even_evaluated C pay w (SameIf (any (levels_of ls a false) || known i ResultHolder)) _ _ (even_then C pay w (PassedAll C pay a ls) _ _ _ _ _ (listed_even C pay a ls rs e _ 0 (all_left w _ _ (all_left w _ _ h))) (λ us vs g.
      even_held C pay w _ (slice_get s.functions n) (slice_get s.functions n) (called C pay (map (size_in s.opens) sizes) (map (λ (r : ArgumentRun C pay). r.target) rs) us) (called C pay (map (size_in s.opens) sizes) (map (λ (r : ArgumentRun C pay). r.target) rs) vs) (λ f f2 j k.
      subst (λ f2. Even C pay w (SameIf (any (levels_of ls a false) || known i ResultHolder)) (called C pay (map (size_in s.opens) sizes) (map (λ (r : ArgumentRun C pay). r.target) rs) us f) (called C pay (map (size_in s.opens) sizes) (map (λ (r : ArgumentRun C pay). r.target) rs) vs f2)) (some_same (sym j ∙ k))
      (subst (λ opens. Even C pay w (SameIf (any (levels_of ls a false) || known i ResultHolder)) (called C pay (map (size_in opens) sizes) (map (λ (r : ArgumentRun C pay). r.target) rs) us f) (called C pay (map (size_in opens) sizes) (map (λ (r : ArgumentRun C pay). r.target) rs) vs f)) (sym o)
      (called_even ls rs e (known i) (map (size_in a.opens) sizes) us vs f (serves n f j (map (size_in a.opens) sizes) (levels_of ls a false)) (all_right w _ _ h) g)))))
