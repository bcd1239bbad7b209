-- Counts as they are told: they stop at the greatest number of 64 bits.
use Rattle.std.specs.Prelude.{◌≡◌, ℕ, ◌+◌, ◌-◌, ◌^◌, min, List, [], ◌∷◌, Result, Ok, Err}

-- a count as it is told
abbrev pub told : ℕ → ℕ
told n = min n (2 ^ 64 - 1)

-- the sum of counts
abbrev pub total : List ℕ → ℕ
total [] = 0
total (n ∷ counts) = n + total counts

-- with Ok a count is told
abbrev pub Tells : ℕ → {E : Type 0} → Result ℕ E → Type 0
Tells n (Ok got) = got ≡ told n
Tells n (Err e) = Unit {0}
