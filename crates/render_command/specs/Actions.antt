-- Steps of the command: what each asks of the files, and what it answers.
use Rattle.std.specs.Prelude.{◌≡◌, ℕ, List, [], ◌∷◌, ◌++◌, true, false, Result, Ok, Err}
use Rattle.outside.specs.Calls.{FileCall, FileCallKind, file_call}
use Rattle.command_status.specs.Outcomes.{Outcome, Did, Lost, FailedOn, NoMemory, Stopped, outcome_of}
use Rattle.command_status.specs.declared.status.Status.{Status}
use Rattle.command_status.specs.declared.status.Status.TheVariants.{ReadFault, Memory}

-- An action: the calls on the files before it and after it, and its answer, which is a value, or the status at which the command
-- stops.
abbrev pub Action : Type 0 → Type 1
Action A = List FileCall → List FileCall → Result A Status → Type 0

-- a step: the action for what it is given
abbrev pub Step : Type 0 → Type 0 → Type 1
Step A B = A → Action B

-- Nothing is asked, and the answer is one of these. Memory may run out.
pub data Answers {A : Type 0} (told : Result A Status → Type 0) : List FileCall → List FileCall → Result A Status → Type 0 where
  is_told : {calls : List FileCall} {answer : Result A Status} → told answer → Answers told calls calls answer
  given_up : {calls : List FileCall} → Answers told calls calls (Err Memory)

-- a function as a step that asks nothing
abbrev pub lifted : {A B : Type 0} → (A → Result B Status) → Step A B
lifted f a = Answers (λ answer. f a ≡ answer)

-- One call is made, and the answer is this one. The box may fail in the call, and memory may run out before it or after it.
pub data Asks {A : Type 0} (kind : FileCallKind) (name : List ℕ) (told : Result A Status) : List FileCall → List FileCall → Result A Status → Type 0 where
  is_answered : {before after : List FileCall} {answer : Result A Status} → told ≡ answer → after ≡ before ++ file_call kind name false ∷ [] → Asks kind name told before after answer
  box_fails : {before after : List FileCall} → after ≡ before ++ file_call kind name true ∷ [] → Asks kind name told before after (Err (ReadFault name))
  not_asked : {calls : List FileCall} → Asks kind name told calls calls (Err Memory)
  no_room : {before after : List FileCall} → after ≡ before ++ file_call kind name false ∷ [] → Asks kind name told before after (Err Memory)

-- one after the other: the second step goes on from the value of the first action, if it has one
pub data Then {A B : Type 0} (first : List FileCall → List FileCall → Result A Status → Type 0) (second : A → List FileCall → List FileCall → Result B Status → Type 0)
    : List FileCall → List FileCall → Result B Status → Type 0 where
  stops : {before after : List FileCall} {status : Status} → first before after (Err status) → Then first second before after (Err status)
  goes_on : {before between after : List FileCall} {a : A} {answer : Result B Status} → first before between (Ok a) → second a between after answer → Then first second before after answer

infixl 10 ◌>>=◌
abbrev pub ◌>>=◌ : {A B : Type 0} → Action A → Step A B → Action B
first >>= second = Then first second

-- ---- one answer

-- a step stopped by its rule: the box did not fail, and memory did not run out
abbrev pub IsStopped : Outcome → Type 0
IsStopped Did = ⊥
IsStopped Lost = ⊥
IsStopped (FailedOn name) = ⊥
IsStopped NoMemory = ⊥
IsStopped Stopped = Unit {0}

-- a value, or a status by rule
abbrev pub IsTold : {A : Type 0} → Result A Status → Type 0
IsTold (Ok a) = Unit {0}
IsTold (Err status) = IsStopped (outcome_of status)

-- an action has at most one such answer, and asks for it by the same calls
abbrev pub AtMostOne : {A : Type 0} → Action A → Type 0
AtMostOne {A = A} action = (before after elsewhere : List FileCall) (answer other : Result A Status) → action before after answer → action before elsewhere other → IsTold answer → IsTold other
    → (answer ≡ other) × (after ≡ elsewhere)

-- an action has such an answer
abbrev pub AtLeastOne : {A : Type 0} → Action A → Type 0
AtLeastOne {A = A} action = (before : List FileCall) → (after : List FileCall) × (answer : Result A Status) × IsTold answer × action before after answer
