-- The calls on a file box.
use Rattle.std.specs.Prelude.{ℕ, List, Bool}

-- The three calls.
pub data FileCallKind : Type 0 where
  Fetch : FileCallKind
  Has : FileCallKind
  Store : FileCallKind

-- One call: which of the three, of which name, and whether it answered that the box failed.
pub record FileCall : Type 0 where
  pub kind : FileCallKind
  pub name : List ℕ
  pub failed : Bool

abbrev pub file_call : FileCallKind → List ℕ → Bool → FileCall
file_call kind name failed = record { kind = kind; name = name; failed = failed }
