-- The bounds hold.
use Rattle.std.proofs.Common.{◌≡◌, ℕ, suc, ℤ, pos, neg_ℤ, ◌+ℤ◌, ◌-ℤ◌, ◌*ℤ◌, unsigned_abs, ◌+◌, ◌*◌, ◌/◌, ◌^◌, ◌<◌, ◌≤◌, ap, sym, ◌∙◌, subst, arith}
use Rattle.std.proofs.Math.Nat.{lt-div-mul-add, mul-le-mul_right}
use Rattle.fix_trig.specs.Turn.{UnitVector, cosine, sine, zero_direction, turned}
use Rattle.fix_trig.specs.Bound.{bound, IsBounded, TurnFits, TurnsFit}
use Rattle.fix_num.specs.Fixed.{rnd, RoundingIsNearest}
use Rattle.fix_trig.proofs.Size.{rnd_abs, difference_size, as_difference, negated_size}
use Rattle.fix_trig.proofs.Turns.{Laws, small, bound_first, bound_next}

-- the room that a small bound leaves
room_of : (n : ℕ) → (2 * n + 2 ^ 62) / 2 ^ 63 < 2 ^ 64 → 2 * n + 2 ^ 62 < 2 ^ 127
room_of n h =
    let p : 0 < 2 ^ 63 = omega arith in
    let f : 2 * n + 2 ^ 62 < (2 * n + 2 ^ 62) / 2 ^ 63 * 2 ^ 63 + 2 ^ 63 = lt-div-mul-add p in
    omega arith

room : Laws → (k : ℕ) → k < 40 → 2 * (bound k * (cosine k + sine k)) + 2 ^ 62 < 2 ^ 127
room laws k h = room_of (bound k * (cosine k + sine k)) (subst (λ (x : ℕ). x < 2 ^ 64) (bound_next k) (small laws k h).within)

-- what a turn gives stays below 2^64, and so does what it is given
pub given_small : (k : ℕ) → TurnFits k → bound k < 2 ^ 64
given_small k t = omega (arith, t.grows, t.comparing)

pub bound_small : (k : ℕ) → TurnFits k → bound (k + 1) < 2 ^ 64
bound_small k t = omega (arith, t.comparing)

-- the difference of two products, where the factors are within the bound
products : (b c s m n : ℕ) → m ≤ b → n ≤ b → m * c + n * s ≤ b * (c + s)
products b c s m n h k = let f : m * c ≤ b * c = mul-le-mul_right c h in let g : n * s ≤ b * s = mul-le-mul_right s k in omega arith

pub turn_room : (k m n : ℕ) → TurnFits k → m ≤ bound k → n ≤ bound k → 2 * (m * cosine k + n * sine k) + 2 ^ 62 < 2 ^ 127
turn_room k m n t hm hn =
    let p : m * cosine k + n * sine k ≤ bound k * (cosine k + sine k) = products (bound k) (cosine k) (sine k) m n hm hn in
    let r : 2 * (bound k * (cosine k + sine k)) + 2 ^ 62 < 2 ^ 127 = t.turning in
    omega arith

turn_bound : (k m n r : ℕ) → m ≤ bound k → n ≤ bound k → r ≤ (2 * (m * cosine k + n * sine k) + 2 ^ 62) / 2 ^ 63 → r ≤ bound (k + 1)
turn_bound k m n r hm hn h =
    let p : m * cosine k + n * sine k ≤ bound k * (cosine k + sine k) = products (bound k) (cosine k) (sine k) m n hm hn in
    let e : k + 1 ≡ suc k = omega arith in
    let l : r ≤ (2 * (bound k * (cosine k + sine k)) + 2 ^ 62) / 2 ^ 63 = omega arith in
    subst (λ (x : ℕ). r ≤ x) (sym (ap bound e ∙ bound_next k)) l

bound_grows : Laws → (k : ℕ) → k < 40 → bound k ≤ bound (k + 1)
bound_grows laws k h = let e : k + 1 ≡ suc k = omega arith in subst (λ (x : ℕ). bound k ≤ bound x) (sym e) (small laws k h).grows

pub wider : (a b : ℕ) (d : UnitVector) → a ≤ b → IsBounded a d → IsBounded b d
wider a b d h w = record { x = omega (arith, w.x); y = omega (arith, w.y) }

pub start_within : IsBounded (bound 0) zero_direction
start_within = rw bound_first (record { x = omega arith; y = omega arith })

sum_size : (p q : ℤ) (c s : ℕ) → unsigned_abs (p *ℤ pos s +ℤ q *ℤ pos c) ≤ unsigned_abs q * c + unsigned_abs p * s
sum_size p q c s =
    let d : unsigned_abs (q *ℤ pos c -ℤ neg_ℤ p *ℤ pos s) ≤ unsigned_abs q * c + unsigned_abs (neg_ℤ p) * s = difference_size q (neg_ℤ p) c s in
    subst (λ (z : ℤ). unsigned_abs z ≤ unsigned_abs q * c + unsigned_abs p * s) (as_difference p q c s) (subst (λ (n : ℕ). unsigned_abs (q *ℤ pos c -ℤ neg_ℤ p *ℤ pos s) ≤ unsigned_abs q * c + n * s) (negated_size p) d)

turn_keeps : RoundingIsNearest → (k : ℕ) (d : UnitVector) → IsBounded (bound k) d → IsBounded (bound (k + 1)) (turned k d)
unfolding turned
turn_keeps law k d w =
    record {
      x = turn_bound k (unsigned_abs d.x) (unsigned_abs d.y) (unsigned_abs (rnd (d.x *ℤ pos (cosine k) -ℤ d.y *ℤ pos (sine k)) (pos (2 ^ 62)))) w.x w.y
          (rnd_abs law (d.x *ℤ pos (cosine k) -ℤ d.y *ℤ pos (sine k)) (unsigned_abs d.x * cosine k + unsigned_abs d.y * sine k) (2 ^ 62) (omega arith) (difference_size d.x d.y (cosine k) (sine k)));
      y = turn_bound k (unsigned_abs d.y) (unsigned_abs d.x) (unsigned_abs (rnd (d.x *ℤ pos (sine k) +ℤ d.y *ℤ pos (cosine k)) (pos (2 ^ 62)))) w.y w.x
          (rnd_abs law (d.x *ℤ pos (sine k) +ℤ d.y *ℤ pos (cosine k)) (unsigned_abs d.y * cosine k + unsigned_abs d.x * sine k) (2 ^ 62) (omega arith) (sum_size d.x d.y (cosine k) (sine k)));
    }

pub turns_fit : Laws → TurnsFit 40
turns_fit laws k h =
    let e : k + 1 ≡ suc k = omega arith in
    let w : bound (k + 1) < 2 ^ 64 = subst (λ (x : ℕ). bound x < 2 ^ 64) (sym e) (small laws k h).within in
    record { grows = bound_grows laws k h; keeps = turn_keeps laws.rounding k; turning = room laws k h; comparing = omega arith }
