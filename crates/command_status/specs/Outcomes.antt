-- In which of five ways the command ends with a status.
use Rattle.std.specs.Prelude.{ℕ, List}
use Rattle.command_status.specs.declared.status.Status.{Status}
use Rattle.command_status.specs.declared.status.Status.TheVariants.{Done, Exists, NotFound, Source, Image, Trap, ReadFault, WriteFault, Memory, Later}

-- all was done; the store failed; a call that reads failed on a name; memory ran out; or a step stopped by its rule
pub data Outcome : Type 0 where
  Did : Outcome
  Lost : Outcome
  FailedOn : List ℕ → Outcome
  NoMemory : Outcome
  Stopped : Outcome

-- a further status is a further line
abbrev pub outcome_of : Status → Outcome
outcome_of Done = Did
outcome_of WriteFault = Lost
outcome_of (ReadFault name) = FailedOn name
outcome_of Memory = NoMemory
outcome_of Exists = Stopped
outcome_of (NotFound name) = Stopped
outcome_of (Source file n fault) = Stopped
outcome_of (Image fault) = Stopped
outcome_of (Trap n column stage kind node) = Stopped
outcome_of Later = Stopped
