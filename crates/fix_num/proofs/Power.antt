-- Powers of ten, and numbers multiplied or divided by them.
use Rattle.std.proofs.Common.{◌≡◌, ℕ, ℤ, zero, suc, pos, negsuc, neg_ℤ, ◌*ℤ◌, ◌≤ℤ◌, ◌+◌, ◌-◌, ◌*◌, ◌^◌, ◌<◌, ◌≤◌, unsigned_abs, min, inl, inr, refl, sym, ◌∙◌, lit≤, arith}
use Rattle.std.proofs.Math.Nat.{pow-succ', mul-le-mul_left}
use Rattle.std.proofs.Math.Pow.{pow-add}
use Rattle.std.proofs.lemmas.Int.{ints, clamps}
use Rattle.std.proofs.lemmas.Bool.{cases_lt}
use Rattle.std.specs.Int.{w128, saturate_signed}
use Rattle.fix_num.specs.Fixed.{rnd, sat, max_raw, IsRaw}
use Rattle.fix_num.specs.Decimal.{nearest}
use Rattle.fix_num.proofs.Floor.{rnd_from}

pub ten_some : (k : ℕ) → 1 ≤ 10 ^ k
ten_some zero = lit≤ tt
ten_some (suc k) = let h : 1 ≤ 10 ^ k = ten_some k in let e : 10 ^ suc k ≡ 10 * 10 ^ k = pow-succ' 10 k in omega arith

ten_from : (i k : ℕ) → 10 ^ i ≤ 10 ^ (i + k)
ten_from i k =
    let h : 1 ≤ 10 ^ k = ten_some k in
    let e : 10 ^ (i + k) ≡ 10 ^ i * 10 ^ k = pow-add 10 i k in
    let m : 10 ^ i * 1 ≤ 10 ^ i * 10 ^ k = mul-le-mul_left (10 ^ i) h in
    omega arith

pub ten_mono : (i j : ℕ) → i ≤ j → 10 ^ i ≤ 10 ^ j
ten_mono i j h = let e : i + (j - i) ≡ j = omega arith in rw (← e) (ten_from i (j - i))

pub ten_to : (k : ℕ) → k ≤ 38 → (1 ≤ 10 ^ k) × (10 ^ k ≤ 10 ^ 38)
ten_to k h = (ten_some k, ten_mono k 38 h)

-- ---- clamping to the raws

pub sat_high : (z : ℤ) → pos max_raw ≤ℤ z → sat z ≡ pos max_raw
unfolding sat
sat_high z h = omega (arith, ints, clamps)

pub sat_low : (z : ℤ) → z ≤ℤ neg_ℤ (pos max_raw) → sat z ≡ neg_ℤ (pos max_raw)
unfolding sat
sat_low z h = omega (arith, ints, clamps)

pub sat_in : (z : ℤ) → IsRaw z → sat z ≡ z
unfolding sat
sat_in z h = omega (arith, ints, clamps)

pub sat_raw : (z : ℤ) → IsRaw (sat z)
unfolding sat
sat_raw z = (omega (arith, ints, clamps), omega (arith, ints, clamps))

sat_128 : (z : ℤ) → sat (saturate_signed w128 z) ≡ sat z
unfolding sat
sat_128 (pos n) = omega (arith, ints, clamps)
sat_128 (negsuc n) = omega (arith, ints, clamps)

-- ---- raised

far : (n a : ℕ) → 10 ^ 38 ≤ a → max_raw ≤ suc n * a
far n a h = omega arith

raise_at : (n : ℤ) (a b : ℕ) → 10 ^ 38 ≤ a → 10 ^ 38 ≤ b → sat (n *ℤ pos a) ≡ sat (n *ℤ pos b)
raise_at (pos zero) a b h k = let e : 0 * a ≡ 0 * b = omega arith in rw e refl
raise_at (pos (suc n)) a b h k = sat_high (pos (suc n * a)) (omega (arith, ints, far n a h)) ∙ sym (sat_high (pos (suc n * b)) (omega (arith, ints, far n b k)))
raise_at (negsuc n) a b h k = sat_low (neg_ℤ (pos (suc n * a))) (omega (arith, ints, far n a h)) ∙ sym (sat_low (neg_ℤ (pos (suc n * b))) (omega (arith, ints, far n b k)))

pub raise_sat : (n : ℤ) (p : ℕ) → sat (saturate_signed w128 (n *ℤ pos (10 ^ min p 38))) ≡ sat (n *ℤ pos (10 ^ p))
raise_sat n p = sat_128 (n *ℤ pos (10 ^ min p 38)) ∙
    elim (cases_lt p 38) as (λ _. sat (n *ℤ pos (10 ^ min p 38)) ≡ sat (n *ℤ pos (10 ^ p))) [
      | inl lt ↦ (let e : min p 38 ≡ p = omega arith in rw e refl)
      | inr le ↦ (let e : min p 38 ≡ 38 = omega arith in rw e (raise_at n (10 ^ 38) (10 ^ p) (lit≤ tt) (ten_mono 38 p le)))
    ]

-- ---- lowered

pub lower_none : (n : ℤ) (p : ℕ) → unsigned_abs n ≤ 2 ^ 124 → 38 < p → rnd n (pos (10 ^ p)) ≡ pos 0
lower_none n p small far =
    let t : 10 ^ 39 ≤ 10 ^ p = ten_mono 39 p far in
    rnd_from n (pos (10 ^ p)) (pos 0) (omega (arith, ints)) (omega (arith, ints)) (omega (arith, ints))

-- ---- both

pub nearest_up : (n power : ℤ) → pos 0 ≤ℤ power → nearest n power ≡ n *ℤ pos (10 ^ unsigned_abs power)
nearest_up n (pos p) h = rnd_from (n *ℤ pos (10 ^ p)) (pos 1) (n *ℤ pos (10 ^ p)) (omega (arith, ints)) (omega (arith, ints)) (omega (arith, ints))
nearest_up n (negsuc p) h = absurd (omega (arith, ints))
