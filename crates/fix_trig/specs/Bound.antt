-- How great the parts of a direction become.
use Rattle.std.specs.Prelude.{ℕ, zero, suc, ◌+◌, ◌*◌, ◌/◌, ◌^◌, ◌<◌, ◌≤◌, unsigned_abs}
use Rattle.fix_trig.specs.Turn.{UnitVector, cosine, sine, turned}

-- no part of a direction is greater after any of the first n turns
unfoldable pub bound : ℕ → ℕ
bound zero = 2 ^ 62
bound (suc k) = (2 * (bound k * (cosine k + sine k)) + 2 ^ 62) / 2 ^ 63

-- both parts are within a bound
pub record IsBounded (most : ℕ) (d : UnitVector) : Type 0 where
  pub x : unsigned_abs d.x ≤ most
  pub y : unsigned_abs d.y ≤ most

-- what makes the turn of index k fit
pub record TurnFits (k : ℕ) : Type 0 where
  -- a turn that is left out breaks no bound
  pub grows : bound k ≤ bound (k + 1)
  -- nor does one that is taken
  pub keeps : (d : UnitVector) → IsBounded (bound k) d → IsBounded (bound (k + 1)) (turned k d)
  -- 128 bits hold its products, with what is added for rounding
  pub turning : 2 * (bound k * (cosine k + sine k)) + 2 ^ 62 < 2 ^ 127
  -- and the products of the parts that it gives with numbers below 2^63
  pub comparing : bound (k + 1) * 2 ^ 63 < 2 ^ 127

-- the first n turns fit
abbrev pub TurnsFit : ℕ → Type 0
TurnsFit n = (k : ℕ) → k < n → TurnFits k
