-- Directions, and the constants by which they are turned. F is the number of fraction bits.
use Rattle.std.specs.Prelude.{ℕ, zero, suc, ℤ, pos, ◌+ℤ◌, ◌-ℤ◌, ◌*ℤ◌, ◌+◌, ◌-◌, ◌*◌, ◌^◌, ◌==◌, unsigned_abs, if◌then◌else◌}
use Rattle.std.specs.Int.{bit_at}
use Rattle.fix_num.specs.Fixed.{root, rnd}

-- a direction: about the cosine and the sine of its angle, each times 2^62
pub record UnitVector : Type 0 where
  pub x : ℤ
  pub y : ℤ

-- the cosine of a quarter turn over 2^(k + 1), times 2^62: that of half an angle is the root of (1 + its cosine) / 2
unfoldable pub cosine : ℕ → ℕ
cosine zero = root (2 ^ 123)
cosine (suc k) = root ((2 ^ 62 + cosine k) * 2 ^ 61)

-- the sine of a quarter turn over 2^(k + 1), times 2^62: that of half an angle is its sine over twice the cosine of the half
unfoldable pub sine : ℕ → ℕ
sine zero = root (2 ^ 123)
sine (suc k) = unsigned_abs (rnd (pos (sine k * 2 ^ 61)) (pos (cosine (suc k))))

-- the direction of the angle 0
abbrev pub zero_direction : UnitVector
zero_direction = record { x = pos (2 ^ 62); y = pos 0 }

-- a direction turned by a quarter turn over 2^(k + 1)
unfoldable pub turned : ℕ → UnitVector → UnitVector
turned k d = record {
  x = rnd (d.x *ℤ pos (cosine k) -ℤ d.y *ℤ pos (sine k)) (pos (2 ^ 62));
  y = rnd (d.x *ℤ pos (sine k) +ℤ d.y *ℤ pos (cosine k)) (pos (2 ^ 62));
}

-- the direction at f / 2^F of a quarter turn, as far as the n highest of the F bits of f say: each that is set turns it
unfoldable pub direction_at : ℕ → ℕ → ℕ → UnitVector
direction_at F f zero = zero_direction
direction_at F f (suc k) = if bit_at f (F - suc k) == 1 then turned k (direction_at F f k) else direction_at F f k
