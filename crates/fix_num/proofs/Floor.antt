-- Floor division by a positive number.
use Rattle.std.proofs.Common.{◌≡◌, ℕ, ℤ, pos, negsuc, ◌+ℤ◌, ◌-ℤ◌, ◌*ℤ◌, ◌<ℤ◌, ◌≤ℤ◌, ◌+◌, ◌*◌, ◌/◌, ◌%◌, ◌^◌, ◌<◌, ◌≤◌, unsigned_abs, zero, suc, neg_ℤ, add-one, refl, ap, sym, subst, ◌∙◌, arith}
use Rattle.std.proofs.Math.IntN.{+ℤ_one, suc_ℤ-*ℤ}
use Rattle.std.proofs.lemmas.Int.{ints, quot-rem}
use Rattle.std.proofs.Math.Nat.{div-eq_of_lt-le, div-mul-le_self, lt-div-mul-add, lt_of_mul-lt-mul_right, div-le_self, pow-succ'}
use Rattle.std.proofs.Math.Pow.{pow_mono}
use Rattle.std.proofs.lemmas.Nat.{one_shl}
use Rattle.std.specs.Int.{int_div_euclid, int_rem_euclid, int_shr}
use Rattle.std.specs.Prelude.{int_div, int_rem}
use Rattle.fix_num.specs.Fixed.{rnd}

-- the quotient lies just below
pub floor_low : (n : ℤ) (d : ℕ) → 0 < d → (int_div_euclid n (pos d) *ℤ pos d) ≤ℤ n
floor_low (pos a) d h = let f : a / d * d ≤ a = div-mul-le_self a d in omega (arith, ints, f)
floor_low (negsuc a) d h = let f : a < a / d * d + d = lt-div-mul-add h in omega (arith, ints, f)

pub floor_high : (n : ℤ) (d : ℕ) → 0 < d → n <ℤ (int_div_euclid n (pos d) *ℤ pos d +ℤ pos d)
floor_high (pos a) d h = let f : a < a / d * d + d = lt-div-mul-add h in omega (arith, ints, f)
floor_high (negsuc a) d h = let f : a / d * d ≤ a = div-mul-le_self a d in omega (arith, ints, f)

-- and it is the only such number
pub floor_unique : (n q : ℤ) (d : ℕ) → 0 < d → (q *ℤ pos d) ≤ℤ n → n <ℤ (q *ℤ pos d +ℤ pos d) → int_div_euclid n (pos d) ≡ q
floor_unique (pos a) (pos b) d h low high =
    ap pos (div-eq_of_lt-le d (omega (arith, ints)) (omega (arith, ints)))
floor_unique (pos a) (negsuc b) d h low high = absurd (omega (arith, ints))
floor_unique (negsuc a) (pos b) d h low high = absurd (omega (arith, ints))
floor_unique (negsuc a) (negsuc b) d h low high =
    ap negsuc (div-eq_of_lt-le d (omega (arith, ints)) (omega (arith, ints)))

-- quotient and rest
pub floor_rest : (n : ℤ) (d : ℕ) → 0 < d → (int_div_euclid n (pos d) *ℤ pos d +ℤ int_rem_euclid n (pos d)) ≡ n
floor_rest (pos a) d h = let f : d * (a / d) + a % d ≡ a = omega arith in omega (arith, ints, f)
floor_rest (negsuc a) d h = let f : d * (a / d) + a % d ≡ a = omega arith in let g : a % d < d = omega arith in omega (arith, ints, f, g)

pub rest_bounds : (n : ℤ) (d : ℕ) → 0 < d → (pos 0 ≤ℤ int_rem_euclid n (pos d)) × (int_rem_euclid n (pos d) <ℤ pos d)
rest_bounds (pos a) d h = let g : a % d < d = omega arith in (omega (arith, ints), omega (arith, ints, g))
rest_bounds (negsuc a) d h = let g : a % d < d = omega arith in (omega (arith, ints, g), omega (arith, ints, g))

pub one_more : (q d : ℤ) → ((q +ℤ pos 1) *ℤ d) ≡ (q *ℤ d +ℤ d)
one_more q d = ap (λ (x : ℤ). x *ℤ d) (+ℤ_one q) ∙ suc_ℤ-*ℤ q d

-- the number that is nearest
pub rnd_from : (n d q : ℤ) → pos 0 <ℤ d → (pos 2 *ℤ (q *ℤ d)) ≤ℤ (pos 2 *ℤ n +ℤ d) → (pos 2 *ℤ n +ℤ d) <ℤ (pos 2 *ℤ (q *ℤ d) +ℤ pos 2 *ℤ d) → rnd n d ≡ q
unfolding rnd
rnd_from n (pos d) q h low high = floor_unique (pos 2 *ℤ n +ℤ pos d) q (2 * d) (omega (arith, ints)) (omega (arith, ints)) (omega (arith, ints))
rnd_from n (negsuc d) q h low high = absurd (omega (arith, ints))

-- the same, from any quotient and its rest
pub rnd_split : (n d q r : ℤ) → pos 0 <ℤ d → n ≡ q *ℤ d +ℤ r → pos 0 ≤ℤ (pos 2 *ℤ r +ℤ d) → (pos 2 *ℤ r +ℤ d) <ℤ (pos 2 *ℤ d) → rnd n d ≡ q
rnd_split n d q r h e low high = rnd_from n d q h (omega (arith, ints)) (omega (arith, ints))

one_less : (q d : ℤ) → (q *ℤ d) ≡ ((q -ℤ pos 1) *ℤ d +ℤ d)
one_less q d = let e : q ≡ (q -ℤ pos 1) +ℤ pos 1 = omega (arith, ints) in ap (λ (x : ℤ). x *ℤ d) e ∙ one_more (q -ℤ pos 1) d

pub rnd_more : (n d q r : ℤ) → pos 0 <ℤ d → n ≡ q *ℤ d +ℤ r → r <ℤ d → (pos 2 *ℤ d) ≤ℤ (pos 2 *ℤ r +ℤ d) → rnd n d ≡ q +ℤ pos 1
rnd_more n d q r h e high up =
    let m : ((q +ℤ pos 1) *ℤ d) ≡ (q *ℤ d +ℤ d) = one_more q d in
    rnd_split n d (q +ℤ pos 1) (r -ℤ d) h (omega (arith, ints)) (omega (arith, ints)) (omega (arith, ints))

pub rnd_less : (n d q r : ℤ) → pos 0 <ℤ d → n ≡ q *ℤ d +ℤ r → (pos 0 -ℤ d) <ℤ r → (pos 2 *ℤ r +ℤ d) <ℤ pos 0 → rnd n d ≡ q -ℤ pos 1
rnd_less n d q r h e low down =
    let m : (q *ℤ d) ≡ ((q -ℤ pos 1) *ℤ d +ℤ d) = one_less q d in
    rnd_split n d (q -ℤ pos 1) (r +ℤ d) h (omega (arith, ints)) (omega (arith, ints)) (omega (arith, ints))

-- ---- division toward zero

abs_neg : (n : ℕ) → unsigned_abs (neg_ℤ (pos n)) ≡ n
abs_neg zero = refl
abs_neg (suc n) = refl

pub quotient_small : (a b : ℤ) → unsigned_abs (int_div a b) ≤ unsigned_abs a
quotient_small (pos a) (pos b) = div-le_self a b
quotient_small (pos a) (negsuc b) = rw (abs_neg (a / suc b)) (div-le_self a (suc b))
quotient_small (negsuc a) (pos b) = rw (abs_neg (suc a / b)) (div-le_self (suc a) b)
quotient_small (negsuc a) (negsuc b) = div-le_self (suc a) (suc b)

-- what the quotient toward zero and its rest are
pub record Toward (n d r : ℤ) : Type 0 where
  pub parts : n ≡ int_div n d *ℤ d +ℤ r
  pub small : unsigned_abs (int_div n d *ℤ d) ≤ unsigned_abs n
  pub high : r <ℤ d
  pub low : (pos 0 -ℤ d) <ℤ r

toward_at : (n d : ℤ) → pos 0 <ℤ d → Toward n d (int_rem n d)
toward_at (pos a) (pos d) h =
    let e : int_div (pos a) (pos d) *ℤ pos d +ℤ int_rem (pos a) (pos d) ≡ pos a = quot-rem (pos a) (pos d) in
    let b : a % d < d = omega (arith, ints) in
    let m : a % d ≤ a = omega arith in
    record { parts = sym e; small = omega (arith, ints); high = omega (arith, ints); low = omega (arith, ints) }
toward_at (negsuc a) (pos d) h =
    let e : int_div (negsuc a) (pos d) *ℤ pos d +ℤ int_rem (negsuc a) (pos d) ≡ negsuc a = quot-rem (negsuc a) (pos d) in
    let b : suc a % d < d = omega (arith, ints) in
    let m : suc a % d ≤ suc a = omega arith in
    record { parts = sym e; small = omega (arith, ints); high = omega (arith, ints); low = omega (arith, ints) }
toward_at n (negsuc d) h = absurd (omega (arith, ints))

pub toward : (n d : ℤ) → pos 0 <ℤ d → Toward n d (n -ℤ int_div n d *ℤ d)
toward n d h =
    let t : Toward n d (int_rem n d) = toward_at n d h in
    let e : n ≡ int_div n d *ℤ d +ℤ int_rem n d = t.parts in
    let r : int_rem n d ≡ n -ℤ int_div n d *ℤ d = omega (arith, ints) in
    subst (Toward n d) r t

-- what `rnd` says, by products
pub rnd_low : (n d : ℤ) → pos 0 <ℤ d → (pos 2 *ℤ (rnd n d *ℤ d)) ≤ℤ (pos 2 *ℤ n +ℤ d)
unfolding rnd
rnd_low n (pos d) h = let f : (int_div_euclid (pos 2 *ℤ n +ℤ pos d) (pos (2 * d)) *ℤ pos (2 * d)) ≤ℤ (pos 2 *ℤ n +ℤ pos d) = floor_low (pos 2 *ℤ n +ℤ pos d) (2 * d) (omega (arith, ints)) in omega (arith, ints, f)
rnd_low n (negsuc d) h = absurd (omega (arith, ints))

pub rnd_high : (n d : ℤ) → pos 0 <ℤ d → (pos 2 *ℤ n +ℤ d) <ℤ (pos 2 *ℤ (rnd n d *ℤ d) +ℤ pos 2 *ℤ d)
unfolding rnd
rnd_high n (pos d) h = let f : (pos 2 *ℤ n +ℤ pos d) <ℤ (int_div_euclid (pos 2 *ℤ n +ℤ pos d) (pos (2 * d)) *ℤ pos (2 * d) +ℤ pos (2 * d)) = floor_high (pos 2 *ℤ n +ℤ pos d) (2 * d) (omega (arith, ints)) in omega (arith, ints, f)
rnd_high n (negsuc d) h = absurd (omega (arith, ints))

range_at : (q n d m : ℤ) → pos 0 <ℤ d → pos 0 ≤ℤ n → n ≤ℤ (m *ℤ d) → (pos 2 *ℤ (q *ℤ d)) ≤ℤ (pos 2 *ℤ n +ℤ d) → (pos 2 *ℤ n +ℤ d) <ℤ (pos 2 *ℤ (q *ℤ d) +ℤ pos 2 *ℤ d) → (pos 0 ≤ℤ q) × (q ≤ℤ m)
range_at (pos q) (pos n) (pos d) (pos m) h low high a b =
    let k : q * d < (m + 1) * d = omega (arith, ints) in
    let l : q < m + 1 = lt_of_mul-lt-mul_right d k in
    (omega (arith, ints), omega (arith, ints))
range_at (negsuc q) (pos n) (pos d) m h low high a b = absurd (omega (arith, ints))
range_at q (negsuc n) d m h low high a b = absurd (omega (arith, ints))
range_at q n (negsuc d) m h low high a b = absurd (omega (arith, ints))
range_at q (pos n) (pos d) (negsuc m) h low high a b = absurd (omega (arith, ints))

-- rounding keeps a range
pub rnd_range : (n d m : ℤ) → pos 0 <ℤ d → pos 0 ≤ℤ n → n ≤ℤ (m *ℤ d) → (pos 0 ≤ℤ rnd n d) × (rnd n d ≤ℤ m)
rnd_range n d m h low high = range_at (rnd n d) n d m h low high (rnd_low n d h) (rnd_high n d h)

-- a shift to the right is floor division
pub shift_floor : (z : ℤ) (k : ℕ) → int_shr z k ≡ int_div_euclid z (pos (2 ^ k))
shift_floor (pos a) k = refl
shift_floor (negsuc a) k = refl

pub shift_small : (z : ℤ) (k : ℕ) → unsigned_abs (int_shr z k) ≤ unsigned_abs z
shift_small (pos a) k = div-le_self a (2 ^ k)
shift_small (negsuc a) k = let h : a / 2 ^ k ≤ a = div-le_self a (2 ^ k) in omega arith

pub rnd_by_shift : (n : ℤ) (b : ℕ) → int_shr (pos 2 *ℤ n +ℤ pos (2 ^ b)) (b + 1) ≡ rnd n (pos (2 ^ b))
unfolding rnd
rnd_by_shift n b =
    let e : 2 ^ (b + 1) ≡ 2 * 2 ^ b = ap (λ (k : ℕ). 2 ^ k) (add-one b) ∙ pow-succ' 2 b in
    shift_floor (pos 2 *ℤ n +ℤ pos (2 ^ b)) (b + 1) ∙ ap (λ (k : ℕ). int_div_euclid (pos 2 *ℤ n +ℤ pos (2 ^ b)) (pos k)) e

-- the depths of codes
pub two_to_depth : (b : ℕ) → 8 ≤ b → b ≤ 16 → (256 ≤ 2 ^ b) × (2 ^ b ≤ 65536) × (1 * 2 ^ b % 2 ^ 64 ≡ 2 ^ b)
two_to_depth b low high = (pow_mono {i = 8} {j = b} low, pow_mono {i = b} {j = 16} high, one_shl b 64 (omega arith))
