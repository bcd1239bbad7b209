-- What a step that only reads leaves of a file box.
use Rattle.std.specs.Prelude.{◌≡◌, ℕ, List, Option}
use Rattle.outside.specs.Files.{Held}

-- The step reads the files alone: what is held, the count of lost stores and that the box serves stay.
pub record ReadsAlone {B : Type 0} (held : B → Option Held) (lost : B → ℕ) (serves : B → List ℕ → ℕ → Type 0) (old new : B) : Type 0 where
  pub held_stays : held new ≡ held old
  pub lost_stays : lost new ≡ lost old
  pub serves_stays : (to : List ℕ) (n : ℕ) → serves old to n → serves new to n
