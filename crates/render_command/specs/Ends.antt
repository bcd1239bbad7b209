-- How the command ends: what the files hold after, what was asked of them, and the counts, by the five ways to end.
use Rattle.std.specs.Prelude.{◌≡◌, ℕ, List, [], ◌∷◌, ◌++◌, Bool, true, false, Option, Some, Ok, Err}
use Rattle.std.specs.FinMap as files
use Rattle.outside.specs.Calls.{FileCall, Store, file_call}
use Rattle.outside.specs.Causes.{Rose}
use Rattle.outside.specs.Files.{Held, MayLeave}
use Rattle.command_status.specs.Outcomes.{Outcome, Did, Lost, FailedOn, NoMemory, Stopped, outcome_of}
use Rattle.command_status.specs.declared.status.Status.{Status}
use Rattle.render_command.specs.Verdict.{Judges, Plan}

-- the words, and the path along which modules are sought
pub record Asked : Type 0 where
  pub path : List ℕ
  pub words : List (List ℕ)

-- the steps before the store came to this plan, and the store is the last call
pub record Stores (old : Held) (asked : Asked) (before after : List FileCall) (failed : Bool) : Type 0 where
  pub plan : Plan
  pub between : List FileCall
  pub judged : Judges old asked.path asked.words before between (Ok plan)
  pub last : after ≡ between ++ file_call Store plan.destination failed ∷ []

-- a step before the store stopped at this status, and nothing changed
pub record Stops (old new : Held) (asked : Asked) (before after : List FileCall) (status : Status) : Type 0 where
  pub judged : Judges old asked.path asked.words before after (Err status)
  pub same : new ≡ old

-- what is held before and after, and the calls on the files before and after
abbrev pub EndsBy : Held → Held → Asked → List FileCall → List FileCall → Status → Outcome → Type 0
EndsBy old new asked before after status Did = (stored : Stores old asked before after false) × (new ≡ files.insert old stored.plan.destination stored.plan.bytes)
EndsBy old new asked before after status Lost = (stored : Stores old asked before after true) × MayLeave old stored.plan.destination stored.plan.bytes new
EndsBy old new asked before after status (FailedOn name) = Stops old new asked before after status
EndsBy old new asked before after status NoMemory = Stops old new asked before after status
EndsBy old new asked before after status Stopped = Stops old new asked before after status

abbrev pub Ends : Held → Asked → List FileCall → List FileCall → Option Held → Status → Type 0
Ends old asked before after told status = (new : Held) × (told ≡ Some new) × EndsBy old new asked before after status (outcome_of status)

-- the counts of failed reads and of lost stores, before and after: only a fault raises its own
abbrev pub CountedBy : ℕ → ℕ → ℕ → ℕ → Outcome → Type 0
CountedBy faults faults' lost lost' Did = (faults' ≡ faults) × (lost' ≡ lost)
CountedBy faults faults' lost lost' Lost = (faults' ≡ faults) × Rose lost lost'
CountedBy faults faults' lost lost' (FailedOn name) = Rose faults faults' × (lost' ≡ lost)
CountedBy faults faults' lost lost' NoMemory = (faults' ≡ faults) × (lost' ≡ lost)
CountedBy faults faults' lost lost' Stopped = (faults' ≡ faults) × (lost' ≡ lost)

abbrev pub Counted : ℕ → ℕ → ℕ → ℕ → Status → Type 0
Counted faults faults' lost lost' status = CountedBy faults faults' lost lost' (outcome_of status)

-- all that was asked is done, or memory ran out
abbrev pub FinishesBy : Outcome → Type 0
FinishesBy Did = Unit {0}
FinishesBy Lost = ⊥
FinishesBy (FailedOn name) = ⊥
FinishesBy NoMemory = Unit {0}
FinishesBy Stopped = ⊥

abbrev pub Finishes : Status → Type 0
Finishes status = FinishesBy (outcome_of status)
