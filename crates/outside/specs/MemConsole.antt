-- What a console in memory is seen as.
use Rattle.std.specs.Prelude.{ℕ, ◌+◌, ◌≤◌, List, length, ◌++◌, Bool, cond, nat_le}
use Rattle.outside.specs.Causes.{raised}

-- What was said, how many bytes may be said in all, and how many calls failed
pub record ConsoleState : Type 0 where
  pub said : List ℕ
  pub room : ℕ
  pub failures : ℕ

-- Whether a piece of so many bytes fits behind what was said.
abbrev pub fits : ConsoleState → ℕ → Bool
fits c n = nat_le (length c.said + n) c.room

-- After a piece: it is said where it fits, and else nothing of it.
abbrev pub spoken : ConsoleState → List ℕ → ConsoleState
spoken c piece = cond (fits c (length piece)) (record c { said = c.said ++ piece }) (record c { failures = raised c.failures })

-- No call fails from here on, where at most so many bytes are said in all.
abbrev pub Hears : ConsoleState → ℕ → Type 0
Hears c n = length c.said + n ≤ c.room
