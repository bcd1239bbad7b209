-- Runs that change nothing which does not vary, and pairs of runs that stay the same in it.
use Rattle.std.proofs.Common.{◌≡◌, ◌+◌, ℕ, ℤ, Option, Some, None, Ok, Err, Bool, true, false, if◌then◌else◌, subst, refl}
use Rattle.ctl_base.specs.declared.kind.ScalarKind.{ScalarKind}
use Rattle.ctl_types.specs.declared.value.Value.{Value, out-Value}
use Rattle.ctl_types.specs.declared.value.Value.TheOpen as layer
use Rattle.ctl_types.specs.declared.value.Value.TheOpen.{Value-F}
use Rattle.ctl_types.specs.Scalars.{kind_of, word_of, same_kind}
use Rattle.ctl_types.specs.Values.{Env, scalars}
use Rattle.ctl_types.specs.Run.{Fault, Wrong, Pixel, Outcome, Run, go_on, give, held, paid, visited, evaluated, word_in, word}
use Rattle.level_rules.specs.Rules.{VaryingSet}
use Rattle.level_laws.specs.Uniform.{Alike}
use Rattle.level_laws.proofs.Envs.{alike_refl, alike_sym, alike_trans}

abbrev pub anything : {V : Type 0} → V → Type 0
anything v = Unit {0}

-- the same where it does not vary
abbrev pub SameIf : {V : Type 0} → Bool → V → V → Type 0
SameIf varies u v = varies ≡ false → u ≡ v

module _ (C : Type 0) (pay : ℕ → C → C) (w : VaryingSet) where
  abbrev pub Keeps : {V : Type 0} → (V → Type 0) → Env → Outcome C pay V → Type 0
  Keeps good env (Ok got) = Alike w env got.after.env × good got.value
  Keeps good env (Err fault) = Unit {0}

  abbrev pub Agrees : {V : Type 0} → (V → V → Type 0) → Outcome C pay V → Outcome C pay V → Type 0
  Agrees same (Ok a) (Ok b) = Alike w a.after.env b.after.env × same a.value b.value
  Agrees same (Ok a) (Err fault) = Unit {0}
  Agrees same (Err fault) o = Unit {0}

  -- the run changes nothing that does not vary
  pub record Still {V : Type 0} (good : V → Type 0) (run : Run C pay V) : Type 0 where
    pub by : (p : Pixel C pay) → Keeps good p.env (run p)

  -- two runs from states in which what does not vary is the same end so, where both end
  pub record Even {V : Type 0} (same : V → V → Type 0) (run other : Run C pay V) : Type 0 where
    pub by : (p q : Pixel C pay) → Alike w p.env q.env → Agrees same (run p) (other q)

  keeps_from : {V : Type 0} (good : V → Type 0) (a b : Env) (o : Outcome C pay V) → Alike w a b → Keeps good b o → Keeps good a o
  keeps_from good a b (Ok got) h k = (alike_trans h k.0, k.1)
  keeps_from good a b (Err fault) h k = tt

  pub agrees_err : {V : Type 0} (same : V → V → Type 0) (o : Outcome C pay V) (fault : Fault) → Agrees same o (Err fault)
  agrees_err same (Ok a) fault = tt
  agrees_err same (Err t) fault = tt

  keeps_then : {V W : Type 0} (good : V → Type 0) (more : W → Type 0) (env : Env) (o : Outcome C pay V) (next : V → Run C pay W) → Keeps good env o → ((v : V) → good v → Still more (next v)) → Keeps more env (go_on C pay o next)
  keeps_then good more env (Ok got) next k f = keeps_from more env got.after.env _ k.0 ((f got.value k.1).by got.after)
  keeps_then good more env (Err fault) next k f = tt

  pub still_then : {V W : Type 0} (good : V → Type 0) (more : W → Type 0) (run : Run C pay V) (next : V → Run C pay W) → Still good run → ((v : V) → good v → Still more (next v)) → Still more (λ p. go_on C pay (run p) next)
  still_then good more run next s f = record { by = λ p. keeps_then good more p.env (run p) next (s.by p) f }

  agrees_then : {V W : Type 0} (same : V → V → Type 0) (more : W → W → Type 0) (o p : Outcome C pay V) (next after : V → Run C pay W) → Agrees same o p → ((u v : V) → same u v → Even more (next u) (after v)) → Agrees more (go_on C pay o next) (go_on C pay p after)
  agrees_then same more (Ok a) (Ok b) next after h f = (f a.value b.value h.1).by a.after b.after h.0
  agrees_then same more (Ok a) (Err fault) next after h f = agrees_err more _ fault
  agrees_then same more (Err fault) o next after h f = tt

  pub even_then : {V W : Type 0} (same : V → V → Type 0) (more : W → W → Type 0) (run other : Run C pay V) (next after : V → Run C pay W) → Even same run other → ((u v : V) → same u v → Even more (next u) (after v)) → Even more (λ p. go_on C pay (run p) next) (λ p. go_on C pay (other p) after)
  even_then same more run other next after s f = record { by = λ p q a. agrees_then same more (run p) (other q) next after (s.by p q a) f }

  -- two runs that change nothing that does not vary
  pub even_still : {V : Type 0} (good fine : V → Type 0) (same : V → V → Type 0) (run other : Run C pay V) → Still good run → Still fine other → ((u v : V) → good u → fine v → same u v) → Even same run other
  even_still {V} good fine same run other s t f = record { by = λ p q a. both p.env q.env (run p) (other q) a (s.by p) (t.by q) } where
    both : (a b : Env) (o p : Outcome C pay V) → Alike w a b → Keeps good a o → Keeps fine b p → Agrees same o p
    both a b (Ok x) (Ok y) h k j = (alike_trans (alike_sym k.0) (alike_trans h j.0), f x.value y.value k.1 j.1)
    both a b (Ok x) (Err fault) h k j = tt
    both a b (Err fault) o h k j = tt

  pub still_weaker : {V : Type 0} (good fine : V → Type 0) (run : Run C pay V) → ((v : V) → good v → fine v) → Still good run → Still fine run
  still_weaker {V} good fine run g h = record { by = λ p. weaker p.env (run p) (h.by p) } where
    weaker : (env : Env) (o : Outcome C pay V) → Keeps good env o → Keeps fine env o
    weaker env (Ok a) h = (h.0, g a.value h.1)
    weaker env (Err fault) h = tt

  pub even_weaker : {V : Type 0} (same more : V → V → Type 0) (run other : Run C pay V) → ((u v : V) → same u v → more u v) → Even same run other → Even more run other
  even_weaker {V} same more run other f h = record { by = λ p q a. weaker (run p) (other q) (h.by p q a) } where
    weaker : (o p : Outcome C pay V) → Agrees same o p → Agrees more o p
    weaker (Ok a) (Ok b) h = (h.0, f a.value b.value h.1)
    weaker (Ok a) (Err fault) h = tt
    weaker (Err fault) o h = tt

  pub still_give : {V : Type 0} (good : V → Type 0) (v : V) → good v → Still good (give C pay v)
  still_give good v g = record { by = λ p. (alike_refl w p.env, g) }

  pub even_give : {V : Type 0} (same : V → V → Type 0) (u v : V) → same u v → Even same (give C pay u) (give C pay v)
  even_give same u v s = record { by = λ p q a. (a, s) }

  -- what is counted changes nothing
  pub still_paid : {V : Type 0} (good : V → Type 0) (v : V) (n : ℕ) → good v → Still good (λ p. give C pay v (paid C pay n p))
  still_paid good v n g = record { by = λ p. (alike_refl w p.env, g) }

  pub even_paid : {V : Type 0} (same : V → V → Type 0) (u v : V) (m n : ℕ) → same u v → Even same (λ p. give C pay u (paid C pay m p)) (λ p. give C pay v (paid C pay n p))
  even_paid same u v m n s = record { by = λ p q a. (a, s) }

  pub still_visited : {V : Type 0} (good : V → Type 0) (run : Run C pay V) → Still good run → Still good (visited C pay run)
  still_visited good run s = still_then good good run _ s (λ v g. still_paid good v 1 g)

  pub even_visited : {V : Type 0} (same : V → V → Type 0) (run other : Run C pay V) → Even same run other → Even same (visited C pay run) (visited C pay other)
  even_visited same run other s = even_then same same run other _ _ s (λ u v g. even_paid same u v 1 1 g)

  pub still_evaluated : (good : Value → Type 0) (run : Run C pay Value) → Still good run → Still good (evaluated C pay run)
  still_evaluated good run s = still_then good good run _ s (λ v g. still_paid good v (1 + scalars v) g)

  pub even_evaluated : (same : Value → Value → Type 0) (run other : Run C pay Value) → Even same run other → Even same (evaluated C pay run) (evaluated C pay other)
  even_evaluated same run other s = even_then same same run other _ _ s (λ u v g. even_paid same u v (1 + scalars u) (1 + scalars v) g)

  -- ---- where nothing is handed on

  pub still_wrong : {V : Type 0} (good : V → Type 0) (fault : Fault) → Still good (λ p. Err fault)
  still_wrong good fault = record { by = λ p. tt }

  pub even_wrong : {V : Type 0} (same : V → V → Type 0) (fault other : Fault) → Even same (λ p. Err fault) (λ p. Err other)
  even_wrong same fault other = record { by = λ p q a. tt }

  pub still_held : {V W : Type 0} (good : W → Type 0) (o : Option V) (next : V → Run C pay W) → ((v : V) → o ≡ Some v → Still good (next v)) → Still good (held C pay o next)
  still_held good None next h = record { by = λ p. tt }
  still_held good (Some v) next h = record { by = λ p. (h v refl).by p }

  pub even_held : {V W : Type 0} (same : W → W → Type 0) (o p : Option V) (next after : V → Run C pay W) → ((u v : V) → o ≡ Some u → p ≡ Some v → Even same (next u) (after v)) → Even same (held C pay o next) (held C pay p after)
  even_held same None p next after h = record { by = λ p q a. tt }
  even_held same (Some u) None next after h = record { by = λ p q a. agrees_err same _ Wrong }
  even_held same (Some u) (Some v) next after h = record { by = λ p q a. (h u v refl refl).by p q a }

  -- what is found among the variables is handed on
  pub still_found : {V W : Type 0} (good : W → Type 0) (find : Env → Option V) (next : V → Run C pay W) → ((v : V) → Still good (next v)) → Still good (λ p. held C pay (find p.env) next p)
  still_found good find next h = record { by = λ p. (still_held good (find p.env) next (λ v e. h v)).by p }

  pub even_found : {V W : Type 0} (same : W → W → Type 0) (find look : Env → Option V) (next after : V → Run C pay W) → ((a b : Env) (u v : V) → Alike w a b → find a ≡ Some u → look b ≡ Some v → Even same (next u) (after v)) → Even same (λ p. held C pay (find p.env) next p) (λ p. held C pay (look p.env) after p)
  even_found same find look next after h = record { by = λ p q a. (even_held same (find p.env) (look q.env) next after (λ u v e f. h p.env q.env u v a e f)).by p q a }

  -- a test of what is known
  pub still_if : {V : Type 0} (good : V → Type 0) (b : Bool) (run other : Run C pay V) → Still good run → Still good other → Still good (λ p. if b then run p else other p)
  still_if good true run other h k = h
  still_if good false run other h k = k

  -- where both pass a test
  pub even_if : {V : Type 0} (same : V → V → Type 0) (b d : Bool) (run other : Run C pay V) → Even same run other → Even same (λ p. if b then run p else Err Wrong) (λ p. if d then other p else Err Wrong)
  even_if same false d run other h = record { by = λ p q a. tt }
  even_if same true false run other h = record { by = λ p q a. agrees_err same _ Wrong }
  even_if same true true run other h = h

  -- ---- scalars

  still_word_in : {W : Type 0} (good : W → Type 0) (k : ScalarKind) (x : Value-F Value) (next : ℤ → Run C pay W) → ((z : ℤ) → Still good (next z)) → Still good (word_in C pay k x next)
  still_word_in good k (layer.One s) next h = one (same_kind (kind_of s) k) where
    one : (b : Bool) → Still good (λ p. if b then next (word_of s) p else Err Wrong)
    one true = record { by = λ p. (h (word_of s)).by p }
    one false = record { by = λ p. tt }
  still_word_in good k (layer.List vs) next h = record { by = λ p. tt }
  still_word_in good k (layer.Fields vs) next h = record { by = λ p. tt }

  pub still_word : {W : Type 0} (good : W → Type 0) (k : ScalarKind) (next : ℤ → Run C pay W) (v : Value) → ((z : ℤ) → Still good (next z)) → Still good (word C pay k next v)
  still_word good k next v h = still_word_in good k (out-Value v) next h

  even_word_in : {W : Type 0} (same : W → W → Type 0) (k : ScalarKind) (x : Value-F Value) (next after : ℤ → Run C pay W) → ((z : ℤ) → Even same (next z) (after z)) → Even same (word_in C pay k x next) (word_in C pay k x after)
  even_word_in same k (layer.One s) next after h = one (same_kind (kind_of s) k) where
    one : (b : Bool) → Even same (λ p. if b then next (word_of s) p else Err Wrong) (λ p. if b then after (word_of s) p else Err Wrong)
    one true = record { by = λ p q a. (h (word_of s)).by p q a }
    one false = record { by = λ p q a. tt }
  even_word_in same k (layer.List vs) next after h = record { by = λ p q a. tt }
  even_word_in same k (layer.Fields vs) next after h = record { by = λ p q a. tt }

  pub even_word : {W : Type 0} (same : W → W → Type 0) (k : ScalarKind) (next after : ℤ → Run C pay W) (u v : Value) → u ≡ v → ((z : ℤ) → Even same (next z) (after z)) → Even same (word C pay k next u) (word C pay k after v)
  even_word same k next after u v e h = subst (λ v. Even same (word C pay k next u) (word C pay k after v)) e (even_word_in same k (out-Value u) next after h)
