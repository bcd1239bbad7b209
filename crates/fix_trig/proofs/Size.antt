-- How great the parts of a turned direction are.
use Rattle.std.proofs.Common.{◌≡◌, ℕ, zero, suc, ℤ, pos, negsuc, neg_ℤ, ◌+ℤ◌, ◌-ℤ◌, ◌*ℤ◌, ◌<ℤ◌, ◌≤ℤ◌, ◌+◌, ◌*◌, ◌/◌, ◌^◌, ◌<◌, ◌≤◌, unsigned_abs, FitsSigned, to_z, of_z, refl, ap, ◌∙◌, arith}
use Rattle.std.proofs.Math.Nat.{le-div_iff_mul-le}
use Rattle.std.proofs.lemmas.Int.{ints, to_z-of_z, to_z_pos, fits_signed_from_abs, unsigned_abs-mul}
use Rattle.std.specs.Int.{w128}
use Rattle.fix_num.specs.Fixed.{rnd, RoundingIsNearest, IsRounded}

rnd_abs_at : (r n : ℤ) (most d : ℕ) → 0 < d → unsigned_abs n ≤ most → (pos 2 *ℤ (r *ℤ pos d)) ≤ℤ (pos 2 *ℤ n +ℤ pos d) → (pos 2 *ℤ n +ℤ pos d) <ℤ (pos 2 *ℤ (r *ℤ pos d) +ℤ pos 2 *ℤ pos d) → unsigned_abs r ≤ (2 * most + d) / (2 * d)
rnd_abs_at (pos k) (pos n) most d some h low high =
    let e : k * (2 * d) ≤ 2 * most + d = omega (arith, ints) in
    (le-div_iff_mul-le {k = 2 * d} {x = k} {y = 2 * most + d} (omega arith)).1 e
rnd_abs_at (pos k) (negsuc n) most d some h low high =
    let e : k * (2 * d) ≤ 2 * most + d = omega (arith, ints) in
    (le-div_iff_mul-le {k = 2 * d} {x = k} {y = 2 * most + d} (omega arith)).1 e
rnd_abs_at (negsuc k) (pos n) most d some h low high =
    let e : suc k * (2 * d) ≤ 2 * most + d = omega (arith, ints) in
    (le-div_iff_mul-le {k = 2 * d} {x = suc k} {y = 2 * most + d} (omega arith)).1 e
rnd_abs_at (negsuc k) (negsuc n) most d some h low high =
    let e : suc k * (2 * d) ≤ 2 * most + d = omega (arith, ints) in
    (le-div_iff_mul-le {k = 2 * d} {x = suc k} {y = 2 * most + d} (omega arith)).1 e

-- rounding by d
pub rnd_abs : RoundingIsNearest → (n : ℤ) (most d : ℕ) → 0 < d → unsigned_abs n ≤ most → unsigned_abs (rnd n (pos d)) ≤ (2 * most + d) / (2 * d)
rnd_abs law n most d some h =
    let r : IsRounded n (pos d) (rnd n (pos d)) = (law n (pos d) (omega (arith, ints))).0 in
    rnd_abs_at (rnd n (pos d)) n most d some h r.low r.high

-- the size of a difference of products
pub difference_size : (p q : ℤ) (c s : ℕ) → unsigned_abs (p *ℤ pos c -ℤ q *ℤ pos s) ≤ unsigned_abs p * c + unsigned_abs q * s
difference_size (pos p) (pos q) c s = omega (arith, ints)
difference_size (pos p) (negsuc q) c s = omega (arith, ints)
difference_size (negsuc p) (pos q) c s = omega (arith, ints)
difference_size (negsuc p) (negsuc q) c s = omega (arith, ints)

-- a product as the code computes it
one_product : (p : ℤ) (c : ℕ) → FitsSigned w128 p → c < 2 ^ 64 → unsigned_abs p * c < 2 ^ 127 → to_z w128 (of_z w128 (to_z w128 (of_z w128 p) *ℤ to_z w128 c)) ≡ p *ℤ pos c
one_product p c fp fc h =
    let t : to_z w128 c ≡ pos c = to_z_pos w128 c (omega arith) in
    let e : unsigned_abs (p *ℤ pos c) ≡ unsigned_abs p * c = unsigned_abs-mul p (pos c) in
    let f : FitsSigned w128 (p *ℤ pos c) = fits_signed_from_abs w128 (p *ℤ pos c) (omega (arith, e, h)) in
    ap (λ (x : ℤ). to_z w128 (of_z w128 (x *ℤ to_z w128 c))) (to_z-of_z w128 p fp) ∙ ap (λ (x : ℤ). to_z w128 (of_z w128 (p *ℤ x))) t ∙ to_z-of_z w128 (p *ℤ pos c) f

-- the difference as the code computes it
pub inside : (p q : ℤ) (c s : ℕ) → FitsSigned w128 p → FitsSigned w128 q → c < 2 ^ 64 → s < 2 ^ 64 → 2 * (unsigned_abs p * c + unsigned_abs q * s) + 2 ^ 62 < 2 ^ 127
    → (to_z w128 (of_z w128 (to_z w128 (of_z w128 p) *ℤ to_z w128 c)) -ℤ to_z w128 (of_z w128 (to_z w128 (of_z w128 q) *ℤ to_z w128 s))) ≡ p *ℤ pos c -ℤ q *ℤ pos s
inside p q c s fp fq fc fs room =
    ap (λ (x : ℤ). x -ℤ to_z w128 (of_z w128 (to_z w128 (of_z w128 q) *ℤ to_z w128 s))) (one_product p c fp fc (omega arith))
    ∙ ap (λ (x : ℤ). p *ℤ pos c -ℤ x) (one_product q s fq fs (omega arith))

pub inside_fits : (p q : ℤ) (c s : ℕ) → 2 * (unsigned_abs p * c + unsigned_abs q * s) + 2 ^ 62 < 2 ^ 127 → FitsSigned w128 (p *ℤ pos c -ℤ q *ℤ pos s)
inside_fits p q c s room = let f : unsigned_abs (p *ℤ pos c -ℤ q *ℤ pos s) ≤ unsigned_abs p * c + unsigned_abs q * s = difference_size p q c s in fits_signed_from_abs w128 (p *ℤ pos c -ℤ q *ℤ pos s) (omega (arith, f, room))

-- the sine's part as a difference
pub as_difference : (p q : ℤ) (c s : ℕ) → q *ℤ pos c -ℤ neg_ℤ p *ℤ pos s ≡ p *ℤ pos s +ℤ q *ℤ pos c
as_difference (pos zero) (pos q) c s = omega (arith, ints)
as_difference (pos zero) (negsuc q) c s = omega (arith, ints)
as_difference (pos (suc p)) (pos q) c s = omega (arith, ints)
as_difference (pos (suc p)) (negsuc q) c s = omega (arith, ints)
as_difference (negsuc p) (pos q) c s = omega (arith, ints)
as_difference (negsuc p) (negsuc q) c s = omega (arith, ints)

pub negated_size : (z : ℤ) → unsigned_abs (neg_ℤ z) ≡ unsigned_abs z
negated_size (pos zero) = refl
negated_size (pos (suc n)) = refl
negated_size (negsuc n) = refl
