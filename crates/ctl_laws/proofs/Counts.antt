-- The laws of the count and the turns.
use Rattle.std.proofs.Common.{◌≡◌, ℕ, ◌+◌, Result, Ok, Err, inl, inr, refl, sym, ap, ◌∙◌, arith, slice_get}
use Rattle.ctl_types.specs.Run.{Fault, Trapped, Wrong, Ended, call_run}
use Rattle.ctl_types.specs.Cost.{uncounted, counted}
use Rattle.ctl_laws.specs.Turns.{forgotten, CountChangesNothing, NoMoreTurns, TurnsNeverRise, EndsAlike, MoreTurnsEndAlike}
use Rattle.ctl_laws.proofs.Twins.{AlikeEnded, call_alike}

abbrev Any : ℕ → Unit {0} → Type 0
Any c d = Unit {0}

abbrev Equal : ℕ → ℕ → Type 0
Equal c d = c ≡ d

keeps_any : (n : ℕ) (c : ℕ) (d : Unit {0}) → Any c d → Any (counted n c) (uncounted n d)
keeps_any n c d k = tt

keeps_equal : (n c d : ℕ) → Equal c d → Equal (counted n c) (counted n d)
keeps_equal n c d k = ap (counted n) k

no_more : (n : ℕ) → n + 0 ≡ n
no_more n = omega arith

forgets : (t : ℕ) (o : Result (Ended ℕ counted) Fault) (o' : Result (Ended (Unit {0}) uncounted) Fault) → AlikeEnded ℕ counted (Unit {0}) uncounted Any keeps_any 0 t o o' → forgotten o ≡ o'
forgets t (Ok e) o' h = sym (h.3 ∙ ap (λ n. Ok (record { outputs = e.outputs; turns = n; spent = tt })) (no_more e.turns))
forgets t (Err (Trapped k node)) o' h = sym (h (inl refl))
forgets t (Err Wrong) o' h = sym h

pub count_changes_nothing : CountChangesNothing
count_changes_nothing d entry inputs turns spent =
    forgets turns (call_run ℕ counted d entry inputs turns spent) (call_run (Unit {0}) uncounted d entry inputs (turns + 0) tt) (call_alike ℕ counted (Unit {0}) uncounted Any keeps_any 0 d entry (slice_get d.functions entry) inputs turns spent tt tt)
    ∙ ap (λ n. call_run (Unit {0}) uncounted d entry inputs n tt) (no_more turns)

falls : (t : ℕ) (o o' : Result (Ended ℕ counted) Fault) → AlikeEnded ℕ counted ℕ counted Equal keeps_equal 0 t o o' → NoMoreTurns t o
falls t (Ok e) o' h = h.0
falls t (Err fault) o' h = tt

pub turns_never_rise : TurnsNeverRise
turns_never_rise d entry inputs turns spent = falls turns (call_run ℕ counted d entry inputs turns spent) (call_run ℕ counted d entry inputs (turns + 0) spent) (call_alike ℕ counted ℕ counted Equal keeps_equal 0 d entry (slice_get d.functions entry) inputs turns spent spent refl)

ends : (more t : ℕ) (o o' : Result (Ended ℕ counted) Fault) → AlikeEnded ℕ counted ℕ counted Equal keeps_equal more t o o' → EndsAlike more o o'
ends more t (Ok e) o' h = h.3 ∙ ap (λ s. Ok (record { outputs = e.outputs; turns = e.turns + more; spent = s })) (sym h.2)
ends more t (Err (Trapped k node)) o' h = λ y. h (inr y)
ends more t (Err Wrong) o' h = h

pub more_turns_end_alike : MoreTurnsEndAlike
more_turns_end_alike d entry inputs turns more spent = ends more turns (call_run ℕ counted d entry inputs turns spent) (call_run ℕ counted d entry inputs (turns + more) spent) (call_alike ℕ counted ℕ counted Equal keeps_equal more d entry (slice_get d.functions entry) inputs turns spent spent refl)
