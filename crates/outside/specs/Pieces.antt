-- What a console has said.
use Rattle.std.specs.Prelude.{◌≡◌, ℕ, List, ◌++◌, take, Option, Some, None, Result, Ok, Err}

-- What a call of say leaves of what was said, where the console tells it: the piece is appended, and by a failed call a prefix of it, which may be empty.
abbrev pub SaysPiece : {E : Type 0} → Option (List ℕ) → Option (List ℕ) → List ℕ → Result (Unit {0}) E → Type 0
SaysPiece None new piece result = new ≡ None
SaysPiece (Some old) new piece (Ok done) = new ≡ Some (old ++ piece)
SaysPiece (Some old) new piece (Err e) = (n : ℕ) × (new ≡ Some (old ++ take n piece))
