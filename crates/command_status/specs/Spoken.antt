-- What a console has said between two moments.
use Rattle.std.specs.Prelude.{◌≡◌, ℕ, ◌-◌, ◌≤◌, List, ◌++◌, length, take, Option, Some, IfSome}
use Rattle.outside.specs.Causes.{Rose}

-- The count of failures never falls. Where the console tells what was said, it is a beginning of this text more, and the
-- whole text where the count did not rise.
pub record Speaks (said said' : Option (List ℕ)) (failed failed' : ℕ) (text : List ℕ) : Type 0 where
  pub later : failed ≤ failed'
  pub begun : IfSome said (λ before. (n : ℕ) × (said' ≡ Some (before ++ take n text)))
  pub whole : (Rose failed failed' → ⊥) → IfSome said (λ before. said' ≡ Some (before ++ text))

-- A console that hears so many bytes has said this text more, and hears the rest of them.
abbrev pub IsHeard : Option (List ℕ) → Option (List ℕ) → (ℕ → Type 0) → (ℕ → Type 0) → List ℕ → Type 0
IsHeard said said' hears hears' text = (n : ℕ) → hears n → length text ≤ n → IfSome said (λ before. said' ≡ Some (before ++ text)) × hears' (n - length text)
