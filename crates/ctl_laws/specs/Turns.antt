-- The count and the turns of a run.
use Rattle.std.specs.Prelude.{◌≡◌, ℕ, ◌+◌, ◌≤◌, List, Result, Ok, Err}
use Rattle.ctl_base.specs.declared.kind.TrapKind.TheVariants as trap
use Rattle.ctl_types.specs.declared.value.Value.{Value}
use Rattle.ctl_types.specs.Definitions.{Defined}
use Rattle.ctl_types.specs.Run.{Fault, Trapped, Wrong, Ended, call_run}
use Rattle.ctl_types.specs.Cost.{uncounted, counted, plain_run}

-- what a run gives without its count
abbrev pub forgotten : Result (Ended ℕ counted) Fault → Result (Ended (Unit {0}) uncounted) Fault
forgotten (Ok e) = Ok (record { outputs = e.outputs; turns = e.turns; spent = tt })
forgotten (Err fault) = Err fault

-- the count changes nothing
abbrev pub CountChangesNothing : Type 0
CountChangesNothing = (d : Defined) (entry : ℕ) (inputs : List Value) (turns spent : ℕ) → forgotten (call_run ℕ counted d entry inputs turns spent) ≡ plain_run d entry inputs turns

-- no more turns are left than there were
abbrev pub NoMoreTurns : ℕ → Result (Ended ℕ counted) Fault → Type 0
NoMoreTurns turns (Ok e) = e.turns ≤ turns
NoMoreTurns turns (Err fault) = Unit {0}

abbrev pub TurnsNeverRise : Type 0
TurnsNeverRise = (d : Defined) (entry : ℕ) (inputs : List Value) (turns spent : ℕ) → NoMoreTurns turns (call_run ℕ counted d entry inputs turns spent)

-- a run with more turns, by what it is with fewer: it ends alike, with as many more left, unless turns were wanting
abbrev pub EndsAlike : ℕ → Result (Ended ℕ counted) Fault → Result (Ended ℕ counted) Fault → Type 0
EndsAlike more (Ok e) o = o ≡ Ok (record { outputs = e.outputs; turns = e.turns + more; spent = e.spent })
EndsAlike more (Err (Trapped kind node)) o = (kind ≡ trap.Turns → ⊥) → o ≡ Err (Trapped kind node)
EndsAlike more (Err Wrong) o = o ≡ Err Wrong

abbrev pub MoreTurnsEndAlike : Type 0
MoreTurnsEndAlike = (d : Defined) (entry : ℕ) (inputs : List Value) (turns more spent : ℕ) → EndsAlike more (call_run ℕ counted d entry inputs turns spent) (call_run ℕ counted d entry inputs (turns + more) spent)
