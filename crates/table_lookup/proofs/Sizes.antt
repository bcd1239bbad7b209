-- What is rounded stays in its range: the law is that of `rounding_keeps_bounds`.
use Rattle.std.proofs.Common.{◌≡◌, ℕ, ℤ, pos, negsuc, ◌*ℤ◌, ◌<ℤ◌, ◌≤ℤ◌, ◌*◌, ◌≤◌, unsigned_abs, refl, ap, ◌∙◌, arith}
use Rattle.std.proofs.lemmas.Int.{ints, unsigned_abs-mul}
use Rattle.std.proofs.Math.Nat.{mul-le-mul_right, mul-le-mul}
use Rattle.fix_num.specs.Fixed.{rnd, RoundingKeepsBounds}

-- a share of m steps
pub share_range : RoundingKeepsBounds → (w d : ℤ) (m : ℕ) → pos 0 <ℤ d → pos 0 ≤ℤ w → w ≤ℤ d → (pos 0 ≤ℤ rnd (w *ℤ pos m) d) × (rnd (w *ℤ pos m) d ≤ℤ pos m)
share_range law (pos w) (pos d) m h low high =
    let f : w * m ≤ d * m = mul-le-mul_right m (omega (arith, ints)) in
    law (pos (w * m)) (pos d) (pos 0) (pos m) h (omega (arith, ints)) (omega (arith, ints, f))
share_range law (negsuc w) d m h low high = absurd (omega (arith, ints))
share_range law (pos w) (negsuc d) m h low high = absurd (omega (arith, ints))

-- a number that is not negative is its size
pub size_of : (z : ℤ) → pos 0 ≤ℤ z → pos (unsigned_abs z) ≡ z
size_of (pos n) h = refl
size_of (negsuc n) h = absurd (omega (arith, ints))

-- two factors in one
pub joined : (w : ℤ) (k m : ℕ) → pos 0 ≤ℤ w → (w *ℤ pos k) *ℤ pos m ≡ w *ℤ pos (k * m)
joined (pos w) k m h = let e : w * k * m ≡ w * (k * m) = omega arith in ap pos e
joined (negsuc w) k m h = absurd (omega (arith, ints))

-- a share of k times m steps
pub steps_range : RoundingKeepsBounds → (w d r : ℤ) (k m : ℕ) → pos 0 <ℤ d → pos 0 ≤ℤ w → w ≤ℤ d → r ≡ rnd ((w *ℤ pos k) *ℤ pos m) d → (pos 0 ≤ℤ r) × (r ≤ℤ pos (k * m))
steps_range law w d r k m h low high e = rw (e ∙ ap (λ (z : ℤ). rnd z d) (joined w k m low)) (share_range law w d (k * m) h low high)

-- a product of sizes
pub product_size : (a b : ℤ) (m n : ℕ) → unsigned_abs a ≤ m → unsigned_abs b ≤ n → unsigned_abs (a *ℤ b) ≤ m * n
product_size a b m n h k = rw (unsigned_abs-mul a b) (mul-le-mul h k)
