-- The logarithm to the base 2, rounded down.
use Rattle.std.proofs.Common.{◌≡◌, ℕ, zero, suc, ◌+◌, ◌-◌, ◌*◌, ◌^◌, ◌<◌, ◌≤◌, Bool, true, false, nat_le, if◌then◌else◌, inl, inr, refl, ap, sym, ◌∙◌, subst, w64, lit<, lit≤, arith}
use Rattle.std.specs.Int.{leading_zeros}
use Rattle.std.proofs.lemmas.Nat.{pow-add, leading_top}
use Rattle.std.proofs.Math.Nat.{pow-succ', mul-le-mul_right}
use Rattle.std.proofs.Math.Pow.{pow_mono}
use Rattle.std.proofs.lemmas.Bool.{cases_lt}
use Rattle.std.proofs.lemmas.Bool.Decides.{nat_tests}
use Rattle.fix_elem.specs.Elementary.{floor_log2, FloorLog2IsFloor}

record IsFloorLog (n b : ℕ) : Type 0 where
  pub low : 2 ^ b ≤ n
  pub high : n < 2 ^ (b + 1)

next_log : (n b : ℕ) → IsFloorLog n b → (t : Bool) → nat_le (2 ^ (b + 1)) (suc n) ≡ t → IsFloorLog (suc n) (if t then b + 1 else b)
next_log n b h true e =
    let p : 2 ^ suc (b + 1) ≡ 2 * 2 ^ (b + 1) = pow-succ' 2 (b + 1) in
    let s : b + 1 + 1 ≡ suc (b + 1) = omega arith in
    record { low = grind (arith, nat_tests); high = rw s (omega (arith, p, h.high)) }
next_log n b h false e = record { low = omega (arith, h.low); high = grind (arith, nat_tests) }

log_of : (n : ℕ) → IsFloorLog (suc n) (floor_log2 (suc n))
unfolding floor_log2
log_of zero = record { low = lit≤ tt; high = lit< tt }
log_of (suc n) = next_log (suc n) (floor_log2 (suc n)) (log_of n) (nat_le (2 ^ (floor_log2 (suc n) + 1)) (suc (suc n))) refl

least_log : (n a b : ℕ) → 2 ^ a ≤ n → n < 2 ^ (b + 1) → a ≤ b
least_log n a b low high =
    elim (cases_lt b a) as (λ _. a ≤ b) [
      | inl lt ↦ absurd (let m : 2 ^ (b + 1) ≤ 2 ^ a = pow_mono {i = b + 1} {j = a} (omega arith) in omega (arith, m, low, high))
      | inr le ↦ le
    ]

-- a number that meets both is the logarithm
pub floor_log2_unique : (n b : ℕ) → 0 < n → 2 ^ b ≤ n → n < 2 ^ (b + 1) → floor_log2 n ≡ b
floor_log2_unique zero b h low high = absurd (omega arith)
floor_log2_unique (suc n) b h low high =
    let r : IsFloorLog (suc n) (floor_log2 (suc n)) = log_of n in
    let x : floor_log2 (suc n) ≤ b = least_log (suc n) (floor_log2 (suc n)) b r.low high in
    let y : b ≤ floor_log2 (suc n) = least_log (suc n) b (floor_log2 (suc n)) low r.high in
    omega (arith, x, y)

pub floor_log2_law : FloorLog2IsFloor
floor_log2_law zero h = absurd (omega arith)
floor_log2_law (suc n) h = ((log_of n).low, (log_of n).high, λ b low high. floor_log2_unique (suc n) b h low high)

-- the leading zeros of a raw above 0, and the raw shifted by all but one of them
pub record HasZeros (n z : ℕ) : Type 0 where
  pub sum : z + floor_log2 n ≡ 63
  pub some : 1 ≤ z
  pub low : 2 ^ 62 ≤ n * 2 ^ (z - 1)
  pub high : n * 2 ^ (z - 1) < 2 ^ 64

zeros_at : (n z j : ℕ) → 0 < n → n < 2 ^ 63 → z + suc j ≡ 64 → 2 ^ j ≤ n → n < 2 ^ suc j → HasZeros n z
zeros_at n z j h small sum low high =
    let s : suc j ≡ j + 1 = omega arith in
    let high' : n < 2 ^ (j + 1) = subst (λ (x : ℕ). n < 2 ^ x) s high in
    let b : floor_log2 n ≡ j = floor_log2_unique n j h low high' in
    let top : j ≤ 62 = least_log n j 62 low (omega (arith, small)) in
    let k : j + (z - 1) ≡ 62 = omega (arith, sum, top) in
    let p : 2 ^ j * 2 ^ (z - 1) ≡ 2 ^ 62 = sym (pow-add 2 j (z - 1)) ∙ ap (λ (x : ℕ). 2 ^ x) k in
    let q : 2 ^ suc j ≡ 2 * 2 ^ j = pow-succ' 2 j in
    let l : 2 ^ j * 2 ^ (z - 1) ≤ n * 2 ^ (z - 1) = mul-le-mul_right {m = 2 ^ j} {n = n} (2 ^ (z - 1)) low in
    let m : n * 2 ^ (z - 1) ≤ 2 * 2 ^ j * 2 ^ (z - 1) = mul-le-mul_right {m = n} {n = 2 * 2 ^ j} (2 ^ (z - 1)) (omega (arith, q, high)) in
    record { sum = omega (arith, b, sum); some = omega (arith, sum, top); low = omega (arith, p, l); high = omega (arith, p, m) }

pub zeros_of : (n : ℕ) → 0 < n → n < 2 ^ 63 → HasZeros n (leading_zeros w64 n)
zeros_of n h small =
    let t = leading_top 64 n h (omega (arith, small)) in
    zeros_at n (leading_zeros w64 n) t.0 h small t.1 t.2 t.3
