-- When a call may answer that the outside failed.
use Rattle.std.specs.Prelude.{◌≡◌, ℕ, ◌+◌, ◌-◌, ◌^◌, ◌≤◌, min, Bool, cond, Result, Ok, Err}

-- A count rose in a call: it is greater after it, or stands at 2^64 - 1, its last value. It never fell.
abbrev pub Rose : ℕ → ℕ → Type 0
Rose before now = (before ≤ now) × (min (before + 1) (2 ^ 64 - 1) ≤ now)

-- A failure comes only where the count rose, and every other answer leaves it.
abbrev pub HasCause : {T E : Type 0} → ℕ → ℕ → Result T E → Type 0
HasCause before now (Ok x) = now ≡ before
HasCause before now (Err e) = Rose before now

-- A count with one more failure. It stops at 2^64 - 1.
abbrev pub raised : ℕ → ℕ
raised n = min (n + 1) (2 ^ 64 - 1)

-- A count after a file_call, which failed or did not.
abbrev pub counted : Bool → ℕ → ℕ
counted failed n = cond failed (raised n) n
