-- The angle functions on raws. F is the number of fraction bits.
use Rattle.std.specs.Prelude.{◌≡◌, ℕ, zero, suc, ℤ, pos, neg_ℤ, ◌-ℤ◌, ◌*ℤ◌, ◌+◌, ◌-◌, ◌^◌, ◌==◌, Bool, max, min, int_lt, int_le, nat_lt, unsigned_abs, if◌then◌else◌}
use Rattle.std.specs.Int.{int_rem_euclid}
use Rattle.fix_num.specs.Constants.{two_over_pi, half_pi}
use Rattle.fix_num.specs.Fixed.{rnd, one, floor_div, clamped, fix_times, fix_div, fix_sub, fix_mul, fix_sqrt}
use Rattle.fix_trig.specs.Turn.{UnitVector, zero_direction, turned, direction_at}

-- an angle in radians as a number of quarter turns
abbrev pub quarter_turns : ℤ → ℤ
quarter_turns x = fix_times x two_over_pi

-- in which quarter of the circle an angle in quarter turns lies, counted from 0
abbrev pub quarter : ℕ → ℤ → ℕ
quarter F q = unsigned_abs (int_rem_euclid (floor_div q (one F)) (pos 4))

-- how far it lies in this quarter, times 2^F
abbrev pub within_quarter : ℕ → ℤ → ℕ
within_quarter F q = unsigned_abs (int_rem_euclid q (one F))

-- the direction of an angle in quarter turns, turned back to the first quarter
abbrev pub turned_back : ℕ → ℤ → UnitVector
turned_back F q = direction_at F (within_quarter F q) F

-- the sine in quarter n of the direction that is d once it is turned back to the first quarter
abbrev pub sine_in : ℕ → UnitVector → ℤ
sine_in n d = if n == 0 then d.y else if n == 1 then d.x else if n == 2 then neg_ℤ d.y else neg_ℤ d.x

-- its cosine
abbrev pub cosine_in : ℕ → UnitVector → ℤ
cosine_in n d = if n == 0 then d.x else if n == 1 then neg_ℤ d.y else if n == 2 then neg_ℤ d.x else d.y

-- the sine of an angle in radians
abbrev pub fix_sin : ℕ → ℤ → ℤ
fix_sin F x = let q = quarter_turns x in rnd (sine_in (quarter F q) (turned_back F q)) (pos (2 ^ (62 - F)))

-- the cosine of an angle in radians
abbrev pub fix_cos : ℕ → ℤ → ℤ
fix_cos F x = let q = quarter_turns x in rnd (cosine_in (quarter F q) (turned_back F q)) (pos (2 ^ (62 - F)))

-- the tangent of an angle in radians
abbrev pub fix_tan : ℕ → ℤ → ℤ
fix_tan F x = fix_div F (fix_sin F x) (fix_cos F x)

-- a direction on the way from (1, 0) to the point (u, v), and its angle in quarter turns, times 2^F
pub record OnTheWay : Type 0 where
  pub at : UnitVector
  pub angle : ℕ

-- whether (u, v) lies in the direction d or beyond
abbrev pub is_at_or_beyond : ℕ → ℕ → UnitVector → Bool
is_at_or_beyond u v d = int_le (pos 0) (pos v *ℤ d.x -ℤ pos u *ℤ d.y)

-- where the first n turns lead that are taken each time that (u, v) still lies beyond
unfoldable pub found : ℕ → ℕ → ℕ → ℕ → OnTheWay
found F u v zero = record { at = zero_direction; angle = 0 }
found F u v (suc k) =
    let w = found F u v k in
    let d = turned k w.at in
    if is_at_or_beyond u v d then record { at = d; angle = w.angle + 2 ^ (F - suc k) } else w

-- the search ends in the direction of the angle that it finds
abbrev pub EndsAtItsAngle : Type 0
EndsAtItsAngle = (F u v : ℕ) → (found F u v F).at ≡ direction_at F (found F u v F).angle F

-- the angle of the point (x, y), from that of the point (u, v) with the greater and the smaller of the sizes of x and y
unfoldable pub unfolded : ℕ → ℤ → ℤ → ℤ → ℤ
unfolded F g y x =
    let near = if nat_lt (unsigned_abs x) (unsigned_abs y) then one F -ℤ g else g in
    let right = if int_lt x (pos 0) then pos (2 ^ (F + 1)) -ℤ near else near in
    if int_lt y (pos 0) then neg_ℤ right else right

-- the angle in radians of the point (x, y), and 0 for the point (0, 0)
unfoldable pub fix_atan2 : ℕ → ℤ → ℤ → ℤ
fix_atan2 F y x =
    let u = max (unsigned_abs x) (unsigned_abs y) in
    let v = min (unsigned_abs x) (unsigned_abs y) in
    if u == 0 then pos 0 else fix_times (unfolded F (pos (found F u v F).angle) y x) half_pi

-- the nearest number from -1.0 to 1.0
abbrev pub clamped_to_one : ℕ → ℤ → ℤ
clamped_to_one F x = clamped x (neg_ℤ (one F)) (one F)

-- the root of 1 - x^2
abbrev pub root_of_rest : ℕ → ℤ → ℤ
root_of_rest F x = fix_sqrt F (fix_sub (one F) (fix_mul F x x))

-- the angle in radians whose sine is x, clamped
abbrev pub fix_asin : ℕ → ℤ → ℤ
fix_asin F x = let z = clamped_to_one F x in fix_atan2 F z (root_of_rest F z)

-- the angle in radians whose cosine is x, clamped
abbrev pub fix_acos : ℕ → ℤ → ℤ
fix_acos F x = let z = clamped_to_one F x in fix_atan2 F (root_of_rest F z) z

-- the angle in radians whose tangent is x
abbrev pub fix_atan : ℕ → ℤ → ℤ
fix_atan F x = fix_atan2 F x (one F)
