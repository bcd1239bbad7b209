-- How a count of steps grows.
use Rattle.std.specs.Prelude.{ℕ, ◌+◌, ◌-◌, ◌^◌, min, max}

-- k steps more, up to 2^64 - 1. A count that is beyond it already stays.
abbrev pub grown : ℕ → ℕ → ℕ
grown n k = max n (min (n + k) (2 ^ 64 - 1))

-- one step more
abbrev pub one_more : ℕ → ℕ
one_more n = grown n 1
