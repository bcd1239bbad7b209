-- Powers, logarithms and roots, over raws. F is the number of fraction bits.
use Rattle.std.specs.Prelude.{◌≡◌, ℕ, zero, suc, ℤ, pos, negsuc, neg_ℤ, ◌+ℤ◌, ◌-ℤ◌, ◌*ℤ◌, ◌+◌, ◌-◌, ◌*◌, ◌/◌, ◌^◌, ◌<◌, ◌≤◌, ◌==◌, List, [], ◌∷◌, length, nat_le, int_lt, int_rem, unsigned_abs, if◌then◌else◌}
use Rattle.std.specs.Int.{bit_at, int_rem_euclid}
use Rattle.fix_num.specs.Constants.{log2_e, log2_ten, ln_2, log10_2}
use Rattle.fix_num.specs.Fixed.{max_raw, floor_div, rnd, sat, one, root, fix_mul, fix_times}

-- n constants with 62 fraction bits: each is the square root, rounded down, of the one before it
unfoldable pub roots_from : ℕ → ℕ → List ℕ
roots_from zero before = []
roots_from (suc n) before = root (before * 2 ^ 62) ∷ roots_from n (root (before * 2 ^ 62))

-- 2^(1/2), 2^(1/4) and so on to 2^(1/2^F), since the one before them is 2
abbrev pub constants : ℕ → List ℕ
constants F = roots_from F (2 ^ 63)

-- e, with each constant multiplied in whose bit is set in f: the last constant has the lowest bit. Each product is rounded down
abbrev pub power_from : List ℕ → ℕ → ℕ → ℕ
power_from [] e f = e
power_from (c ∷ cs) e f = power_from cs (if bit_at f (length cs) == 1 then e * c / 2 ^ 62 else e) f

-- E(f), the power 2^(f / 2^F) with 62 fraction bits, for f below 2^F
unfoldable pub power : ℕ → ℕ → ℕ
power F f = power_from (constants F) (2 ^ 62) f

-- e / 2^shift rounded, and the greatest raw for a negative shift
abbrev pub shifted : ℕ → ℤ → ℤ
shifted e (pos shift) = rnd (pos e) (pos (2 ^ shift))
shifted e (negsuc _) = pos max_raw

-- 2 to the power of x: E of the fraction of x, shifted by the whole part of x
unfoldable pub exp2 : ℕ → ℤ → ℤ
exp2 F x = shifted (power F (unsigned_abs (int_rem_euclid x (one F)))) ((pos 62 -ℤ pos F) -ℤ floor_div x (one F))

-- the greatest f up to n with E(f) at most m, or else 0
unfoldable pub greatest_within : ℕ → ℕ → ℕ → ℕ
greatest_within F m zero = 0
greatest_within F m (suc n) = if nat_le (power F (suc n)) m then suc n else greatest_within F m n

-- the greatest f below 2^F with E(f) at most m
unfoldable pub exponent : ℕ → ℕ → ℕ
exponent F m = greatest_within F m (2 ^ F - 1)

-- the logarithm of n to the base 2, rounded down, from that of the number before
unfoldable pub floor_log2 : ℕ → ℕ
floor_log2 zero = 0
floor_log2 (suc n) = if nat_le (2 ^ (floor_log2 n + 1)) (suc n) then floor_log2 n + 1 else floor_log2 n

-- the logarithm to the base 2 of a raw n above 0: its whole part, and as its fraction the exponent of n brought to 62 fraction bits
abbrev pub log2_above : ℕ → ℕ → ℤ
log2_above F n = (pos (floor_log2 n) -ℤ pos F) *ℤ one F +ℤ pos (exponent F (n * 2 ^ (62 - floor_log2 n)))

-- the logarithm to the base 2, and the least number for 0 and below
unfoldable pub log2 : ℕ → ℤ → ℤ
log2 F x = if int_lt (pos 0) x then log2_above F (unsigned_abs x) else neg_ℤ (pos max_raw)

-- e to the power of x
unfoldable pub exp : ℕ → ℤ → ℤ
exp F x = exp2 F (fix_times x log2_e)

-- the logarithm to the base e
unfoldable pub log : ℕ → ℤ → ℤ
log F x = fix_times (log2 F x) ln_2

-- 10 to the power of x
unfoldable pub pow10 : ℕ → ℤ → ℤ
pow10 F x = exp2 F (fix_times x log2_ten)

-- the logarithm to the base 10
unfoldable pub log10 : ℕ → ℤ → ℤ
log10 F x = fix_times (log2 F x) log10_2

-- x to the power of y, for x above 0
abbrev pub pow_above : ℕ → ℤ → ℤ → ℤ
pow_above F x y = exp2 F (fix_mul F y (log2 F x))

-- 0 to the power of y
abbrev pub pow_zero : ℕ → ℤ → ℤ
pow_zero F y = if int_lt (pos 0) y then pos 0 else if int_lt y (pos 0) then pos max_raw else one F

-- x to the power of y, for x below 0: that of -x for an even whole number y, its negative for an odd one, and 0 for a y that is not whole
abbrev pub pow_below : ℕ → ℤ → ℤ → ℤ
pow_below F x y =
    if unsigned_abs (int_rem_euclid y (pos (2 ^ (F + 1)))) == 0 then pow_above F (neg_ℤ x) y
    else if unsigned_abs (int_rem_euclid y (one F)) == 0 then neg_ℤ (pow_above F (neg_ℤ x) y)
    else pos 0

-- x to the power of y
unfoldable pub pow : ℕ → ℤ → ℤ → ℤ
pow F x y = if int_lt (pos 0) x then pow_above F x y else if int_lt x (pos 0) then pow_below F x y else pow_zero F y

-- the length of (x, y), rounded down
unfoldable pub hypot : ℤ → ℤ → ℤ
hypot x y = sat (pos (root (unsigned_abs x * unsigned_abs x + unsigned_abs y * unsigned_abs y)))

-- the remainder, with the sign of x, of x / y toward zero, and 0 for y = 0
unfoldable pub fmod : ℤ → ℤ → ℤ
fmod x y = if unsigned_abs y == 0 then pos 0 else int_rem x y

-- E grows strictly
abbrev pub PowerGrows : Type 0
PowerGrows = (F f : ℕ) → F ≤ 40 → f + 1 < 2 ^ F → power F f < power F (f + 1)

-- the exponent is the greatest f below 2^F with E(f) at most m
abbrev pub ExponentIsGreatest : Type 0
ExponentIsGreatest = (F m : ℕ) → 2 ^ 62 ≤ m → (exponent F m < 2 ^ F) × (power F (exponent F m) ≤ m) × ((g : ℕ) → g < 2 ^ F → power F g ≤ m → g ≤ exponent F m)

-- the logarithm rounded down is the one number b with 2^b <= n < 2^(b + 1)
abbrev pub FloorLog2IsFloor : Type 0
FloorLog2IsFloor = (n : ℕ) → 0 < n → (2 ^ floor_log2 n ≤ n) × (n < 2 ^ (floor_log2 n + 1)) × ((b : ℕ) → 2 ^ b ≤ n → n < 2 ^ (b + 1) → floor_log2 n ≡ b)
