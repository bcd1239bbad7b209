-- Fixed-point numbers as whole numbers without a bound. F is the number of fraction bits.
use Rattle.std.specs.Prelude.{◌≡◌, ℕ, zero, suc, ℤ, pos, negsuc, neg_ℤ, ◌+ℤ◌, ◌-ℤ◌, ◌*ℤ◌, ◌+◌, ◌-◌, ◌*◌, ◌^◌, ◌<◌, ◌≤◌, ◌≤ℤ◌, ◌<ℤ◌, int_lt, nat_le, unsigned_abs, if◌then◌else◌}
use Rattle.std.specs.Int.{int_min, int_max, int_div_euclid}

-- the greatest raw
abbrev pub max_raw : ℕ
max_raw = 2 ^ 63 - 1

-- a raw: a whole number from -max_raw to max_raw
abbrev pub IsRaw : ℤ → Type 0
IsRaw z = (neg_ℤ (pos max_raw) ≤ℤ z) × (z ≤ℤ pos max_raw)

-- floor (n / d), for 0 < d
abbrev pub floor_div : ℤ → ℤ → ℤ
floor_div n d = int_div_euclid n d

-- floor ((2n + d) / (2d)), the nearest whole number to n / d, for 0 < d
unfoldable pub rnd : ℤ → ℤ → ℤ
rnd n d = int_div_euclid (pos 2 *ℤ n +ℤ d) (pos 2 *ℤ d)

-- clamped to the raws
unfoldable pub sat : ℤ → ℤ
sat z = int_max (neg_ℤ (pos max_raw)) (int_min z (pos max_raw))

-- the raw of 1.0 at F fraction bits
abbrev pub one : ℕ → ℤ
one F = pos (2 ^ F)

-- the sum
abbrev pub fix_add : ℤ → ℤ → ℤ
fix_add a b = sat (a +ℤ b)

-- the difference
abbrev pub fix_sub : ℤ → ℤ → ℤ
fix_sub a b = sat (a -ℤ b)

-- the product, rounded
abbrev pub fix_mul : ℕ → ℤ → ℤ → ℤ
fix_mul F a b = sat (rnd (a *ℤ b) (one F))

-- the greatest multiple of 1.0 that is not greater, as far as it is a raw
abbrev pub fix_floor : ℕ → ℤ → ℤ
fix_floor F a = sat (one F *ℤ floor_div a (one F))

-- the sign changed
abbrev pub fix_neg : ℤ → ℤ
fix_neg a = neg_ℤ a

-- the size
abbrev pub fix_abs : ℤ → ℤ
fix_abs a = pos (unsigned_abs a)

-- the quotient, rounded: both signs are changed before where b is negative; by 0 it is the end of the range on the side of a, or 0
abbrev pub fix_div : ℕ → ℤ → ℤ → ℤ
fix_div F a b =
    if int_lt (pos 0) b then sat (rnd (a *ℤ one F) b)
    else if int_lt b (pos 0) then sat (rnd (neg_ℤ a *ℤ one F) (neg_ℤ b))
    else if int_lt (pos 0) a then pos max_raw
    else if int_lt a (pos 0) then neg_ℤ (pos max_raw)
    else pos 0

-- the product with n * 10^-18
abbrev pub fix_times : ℤ → ℕ → ℤ
fix_times a n = sat (rnd (a *ℤ pos n) (pos (10 ^ 18)))

-- the square root of n, rounded down, from that of the number before
unfoldable pub root : ℕ → ℕ
root zero = 0
root (suc n) = if nat_le ((root n + 1) * (root n + 1)) (suc n) then root n + 1 else root n

-- the square root, rounded down, and 0 for a negative number
abbrev pub fix_sqrt : ℕ → ℤ → ℤ
fix_sqrt F (pos n) = pos (root (n * 2 ^ F))
fix_sqrt F (negsuc n) = pos 0

-- z, or the end of the range from low to high that it is beyond
unfoldable pub clamped : ℤ → ℤ → ℤ → ℤ
clamped z low high = int_max low (int_min z high)

-- the raw of a code at b bits
abbrev pub code_in : ℕ → ℕ → ℕ → ℤ
code_in F c b = rnd (pos c *ℤ one F) (pos (2 ^ b - 1))

-- the code at b bits that a raw is written as
abbrev pub code_out : ℕ → ℤ → ℕ → ℤ
code_out F r b = rnd (clamped r (pos 0) (one F) *ℤ pos (2 ^ b - 1)) (one F)

-- ---- laws

-- q is the greatest whole number that is at most n / d
pub record IsFloor (n d q : ℤ) : Type 0 where
  pub low : (q *ℤ d) ≤ℤ n
  pub high : n <ℤ (q *ℤ d +ℤ d)

-- floor_div gives it, and it is the only one
abbrev pub FloorIsGreatest : Type 0
FloorIsGreatest = (n d : ℤ) → pos 0 <ℤ d → IsFloor n d (floor_div n d) × ((q : ℤ) → IsFloor n d q → floor_div n d ≡ q)

-- q is the whole number nearest to n / d, and of two that are equally near the greater
pub record IsRounded (n d q : ℤ) : Type 0 where
  pub low : (pos 2 *ℤ (q *ℤ d)) ≤ℤ (pos 2 *ℤ n +ℤ d)
  pub high : (pos 2 *ℤ n +ℤ d) <ℤ (pos 2 *ℤ (q *ℤ d) +ℤ pos 2 *ℤ d)

-- rnd gives it, and it is the only one
abbrev pub RoundingIsNearest : Type 0
RoundingIsNearest = (n d : ℤ) → pos 0 <ℤ d → IsRounded n d (rnd n d) × ((q : ℤ) → IsRounded n d q → rnd n d ≡ q)

-- between two whole numbers, the quotient is rounded to one between them
abbrev pub RoundingKeepsBounds : Type 0
RoundingKeepsBounds = (n d low high : ℤ) → pos 0 <ℤ d → (low *ℤ d) ≤ℤ n → n ≤ℤ (high *ℤ d) → (low ≤ℤ rnd n d) × (rnd n d ≤ℤ high)

-- a clamped number is a raw, a raw is left as it is, and what is beyond an end becomes that end
pub record IsClamped (z : ℤ) : Type 0 where
  pub raw : IsRaw (sat z)
  pub same : IsRaw z → sat z ≡ z
  pub above : pos max_raw ≤ℤ z → sat z ≡ pos max_raw
  pub below : z ≤ℤ neg_ℤ (pos max_raw) → sat z ≡ neg_ℤ (pos max_raw)

abbrev pub SaturationClamps : Type 0
SaturationClamps = (z : ℤ) → IsClamped z

-- the root is the one number r with r^2 <= n < (r + 1)^2
abbrev pub RootIsFloor : Type 0
RootIsFloor = (n : ℕ) → (root n * root n ≤ n) × (n < (root n + 1) * (root n + 1)) × ((r : ℕ) → r * r ≤ n → n < (r + 1) * (r + 1) → root n ≡ r)

-- a code that is read and written at the same depth, of at most as many bits as the fraction, returns
abbrev pub CodesReturn : Type 0
CodesReturn = (F b c : ℕ) → 0 < b → b ≤ F → c < 2 ^ b → code_out F (code_in F c b) b ≡ pos c
