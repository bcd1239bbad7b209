-- What the steps before the store answer, and what they leave of the files.
use Rattle.std.specs.Prelude.{◌≡◌, ℕ, List, Option, Some, Result, Ok, Err}
use Rattle.outside.specs.Calls.{FileCall}
use Rattle.outside.specs.Causes.{Rose}
use Rattle.outside.specs.Files.{Held}
use Rattle.outside.specs.ReadsAlone.{ReadsAlone}
use Rattle.command_status.specs.Outcomes.{Outcome, Did, Lost, FailedOn, NoMemory, Stopped, outcome_of}
use Rattle.command_status.specs.declared.status.Status.{Status}
use Rattle.command_status.specs.declared.status.Status.TheVariants.{Memory}
use Rattle.render_command.specs.Actions.{Action}

-- the answer of a step, its value seen as the definitions see it
abbrev pub Seen : {X A : Type 0} → (X → A) → (Result A Status → Type 0) → Result X Status → Type 0
Seen view answers (Ok x) = answers (Ok (view x))
Seen view answers (Err status) = answers (Err status)

-- the count of failed reads after a step that stopped, which none before the store does as the store does
abbrev pub StopCounted : ℕ → ℕ → Outcome → Type 0
StopCounted faults faults' Did = ⊥
StopCounted faults faults' Lost = ⊥
StopCounted faults faults' (FailedOn name) = Rose faults faults'
StopCounted faults faults' NoMemory = faults' ≡ faults
StopCounted faults faults' Stopped = faults' ≡ faults

abbrev pub CountedRead : {X : Type 0} → ℕ → ℕ → Result X Status → Type 0
CountedRead faults faults' (Ok x) = faults' ≡ faults
CountedRead faults faults' (Err status) = StopCounted faults faults' (outcome_of status)

-- the step met no fault of the box
abbrev pub NoFaultBy : Outcome → Type 0
NoFaultBy Did = Unit {0}
NoFaultBy Lost = Unit {0}
NoFaultBy (FailedOn name) = ⊥
NoFaultBy NoMemory = Unit {0}
NoFaultBy Stopped = Unit {0}

abbrev pub NoFault : {X : Type 0} → Result X Status → Type 0
NoFault (Ok x) = Unit {0}
NoFault (Err status) = NoFaultBy (outcome_of status)

-- A step that reads: what it leaves of a box, and, where the box tells what it holds, what it asks and answers.
pub record ReadStep {B X A : Type 0} (held : B → Option Held) (asked : B → List FileCall) (faults lost : B → ℕ) (serves : B → List ℕ → ℕ → Type 0)
    (old new : B) (view : X → A) (action : Held → List FileCall → List FileCall → Result A Status → Type 0) (result : Result X Status) : Type 0 where
  pub reads : ReadsAlone held lost serves old new
  pub counted : CountedRead (faults old) (faults new) result
  pub served : (to : List ℕ) (n : ℕ) → serves old to n → NoFault result
  pub does : (h : Held) → held old ≡ Some h → Seen view (action h (asked old) (asked new)) result

-- a step that asks nothing stops by its rule, or for want of memory
abbrev pub TellsBy : Type 0 → Status → Outcome → Type 0
TellsBy told status Did = ⊥
TellsBy told status Lost = ⊥
TellsBy told status (FailedOn name) = ⊥
TellsBy told status NoMemory = status ≡ Memory
TellsBy told status Stopped = told

abbrev pub Tells : {X A : Type 0} → (X → A) → (Result A Status → Type 0) → Result X Status → Type 0
Tells view told (Ok x) = told (Ok (view x))
Tells view told (Err status) = TellsBy (told (Err status)) status (outcome_of status)
