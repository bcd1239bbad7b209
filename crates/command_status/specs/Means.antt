-- What the saying of a text in pieces leaves of a console.
use Rattle.std.specs.Prelude.{ℕ, ◌-◌, ◌≤◌, List, length, Option, Result, IsOk}
use Rattle.outside.specs.Causes.{HasCause}
use Rattle.outside.specs.Pieces.{SaysPiece}
use Rattle.outside.specs.declared.files.Failed.{Failed}

-- The pieces are said as one call would say them together: with a failure the text breaks off.
pub record IsSaid {C : Type 0} (said : C → Option (List ℕ)) (failures : C → ℕ) (hears : C → ℕ → Type 0) (old new : C) (text : List ℕ) (result : Result (Unit {0}) Failed) : Type 0 where
  pub cause : HasCause (failures old) (failures new) result
  pub says : SaysPiece (said old) (said new) text result
  pub heard : (n : ℕ) → hears old n → length text ≤ n → IsOk result × hears new (n - length text)
