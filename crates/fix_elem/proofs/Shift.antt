-- Shifting a power by its whole part.
use Rattle.std.proofs.Common.{◌≡◌, ℕ, ℤ, pos, negsuc, neg_ℤ, ◌≤ℤ◌, ◌-◌, ◌*◌, ◌^◌, ◌<◌, ◌≤◌, unsigned_abs, refl, ap, sym, ◌∙◌, arith}
use Rattle.std.proofs.Math.Nat.{div-eq_of_lt-le, mul-le-mul_left}
use Rattle.std.proofs.Math.Pow.{pow_mono, pow_pos}
use Rattle.std.proofs.lemmas.Int.{ints, clamps}
use Rattle.fix_num.specs.Fixed.{rnd, sat, RoundingKeepsBounds}
use Rattle.fix_elem.specs.Elementary.{shifted}

-- a raw is its own clamp
pub sat_raw : (z : ℤ) → neg_ℤ (pos (2 ^ 63 - 1)) ≤ℤ z → z ≤ℤ pos (2 ^ 63 - 1) → sat z ≡ z
unfolding sat
sat_raw z low high = omega (arith, ints, clamps)

-- a shift makes no number greater
pub shifted_range : RoundingKeepsBounds → (e s : ℕ) → (pos 0 ≤ℤ rnd (pos e) (pos (2 ^ s))) × (rnd (pos e) (pos (2 ^ s)) ≤ℤ pos e)
shifted_range law e s =
    let p : 0 < 2 ^ s = pow_pos s in
    let g : e * 1 ≤ e * 2 ^ s = mul-le-mul_left e (omega (arith, p)) in
    law (pos e) (pos (2 ^ s)) (pos 0) (pos e) (omega (arith, ints, p)) (omega (arith, ints)) (omega (arith, ints, g))

-- far enough, it leaves nothing
shifted_away : (e s : ℕ) → 2 * e < 2 ^ s → rnd (pos e) (pos (2 ^ s)) ≡ pos 0
unfolding rnd
shifted_away e s h = ap pos (div-eq_of_lt-le {k = 0} (2 * 2 ^ s) (omega arith) (omega arith))

shifted_at : (e : ℕ) (z : ℤ) → pos 0 ≤ℤ z → shifted e z ≡ rnd (pos e) (pos (2 ^ unsigned_abs z))
shifted_at e (pos s) h = refl
shifted_at e (negsuc s) h = absurd (omega (arith, ints))

-- a shift that is not negative gives a raw
pub shifted_near : RoundingKeepsBounds → (e : ℕ) (z : ℤ) → e < 2 ^ 63 → pos 0 ≤ℤ z → sat (rnd (pos e) (pos (2 ^ unsigned_abs z))) ≡ shifted e z
shifted_near law e z h up =
    let r : (pos 0 ≤ℤ rnd (pos e) (pos (2 ^ unsigned_abs z))) × (rnd (pos e) (pos (2 ^ unsigned_abs z)) ≤ℤ pos e) = shifted_range law e (unsigned_abs z) in
    sat_raw (rnd (pos e) (pos (2 ^ unsigned_abs z))) (omega (arith, ints, r.0)) (omega (arith, ints, r.1)) ∙ sym (shifted_at e z up)

-- one above 64 gives 0
pub nothing_left : (e : ℕ) (z : ℤ) → e < 2 ^ 63 → pos 64 ≤ℤ z → shifted e z ≡ pos 0
nothing_left e (pos s) h up = let m : 2 ^ 64 ≤ 2 ^ s = pow_mono {i = 64} {j = s} (omega (arith, ints)) in shifted_away e s (omega (arith, m))
nothing_left e (negsuc s) h up = absurd (omega (arith, ints))
