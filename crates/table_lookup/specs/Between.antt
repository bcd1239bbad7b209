-- Segments between the entries of a table, and the lines and curves there. F is the number of fraction bits.
use Rattle.std.specs.Prelude.{ℕ, ℤ, pos, ◌+◌, ◌-◌, ◌*◌, ◌^◌, ◌+ℤ◌, ◌-ℤ◌, ◌*ℤ◌, min, unsigned_abs, int_lt, ◌==◌, if◌then◌else◌}
use Rattle.fix_num.specs.Fixed.{sat, rnd, one, floor_div, clamped, fix_add, fix_sub, fix_mul}

-- where a number lies between two entries: their indices, and how far from the first to the second
pub record Segment : Type 0 where
  pub low : ℕ
  pub high : ℕ
  pub part : ℤ

-- a + f * (b - a), the product rounded
unfoldable pub mix : ℕ → ℤ → ℤ → ℤ → ℤ
mix F a b f = sat (a +ℤ rnd ((b -ℤ a) *ℤ f) (one F))

-- n entries are spread evenly from lo to hi: how many steps from entry to entry, as a raw, lie before p, which is first clamped to lo to hi
unfoldable pub steps_before : ℕ → ℕ → ℤ → ℤ → ℤ → ℤ
steps_before F n lo hi p = rnd ((clamped p lo hi -ℤ lo) *ℤ pos (n - 1) *ℤ one F) (hi -ℤ lo)

-- the index of the last entry before which u steps lie: the whole steps in u, but at most the index of the last entry but one
abbrev pub whole_steps : ℕ → ℕ → ℤ → ℕ
whole_steps F n u = min (unsigned_abs (floor_div u (one F))) (n - 2)

-- the two entries around u steps, and the rest of u beyond the first of them
abbrev pub around : ℕ → ℕ → ℤ → Segment
around F n u = record { low = whole_steps F n u; high = whole_steps F n u + 1; part = u -ℤ pos (whole_steps F n u) *ℤ one F }

-- the first entry
abbrev pub first_entry : Segment
first_entry = record { low = 0; high = 0; part = pos 0 }

-- the segment of p among n entries that are spread evenly from lo to hi: the first entry where it is the only one or where the range is empty
unfoldable pub axis : ℕ → ℕ → ℤ → ℤ → ℤ → Segment
axis F n lo hi p = if n == 1 then first_entry else (if int_lt lo hi then around F n (steps_before F n lo hi p) else first_entry)

-- the cubic from a with slope m0 to b with slope m1: a + f * (m0 + f * (c2 + f * c3)), where d is b - a, c2 is 3d - 2*m0 - m1 and c3 is m0 + m1 - 2d
abbrev pub cubic : ℕ → ℤ → ℤ → ℤ → ℤ → ℤ → ℤ
cubic F a m0 c2 c3 f = fix_add a (fix_mul F f (fix_add m0 (fix_mul F f (fix_add c2 (fix_mul F f c3)))))

-- its coefficients c2 and c3
abbrev pub square_of : ℕ → ℤ → ℤ → ℤ → ℤ
square_of F d m0 m1 = fix_sub (fix_sub (fix_mul F (pos (3 * 2 ^ F)) d) (fix_mul F (pos (2 * 2 ^ F)) m0)) m1

abbrev pub cube_of : ℕ → ℤ → ℤ → ℤ → ℤ
cube_of F d m0 m1 = fix_sub (fix_add m0 m1) (fix_mul F (pos (2 * 2 ^ F)) d)

unfoldable pub hermite : ℕ → ℤ → ℤ → ℤ → ℤ → ℤ → ℤ
hermite F a b m0 m1 f = cubic F a m0 (square_of F (fix_sub b a) m0 m1) (cube_of F (fix_sub b a) m0 m1) f

-- half of a - b, and half of a + b, each rounded once
abbrev pub half_difference : ℤ → ℤ → ℤ
half_difference a b = sat (rnd (a -ℤ b) (pos 2))

abbrev pub half_sum : ℤ → ℤ → ℤ
half_sum a b = sat (rnd (a +ℤ b) (pos 2))
