-- Square roots, rounded down.
use Rattle.std.proofs.Common.{◌≡◌, ℕ, zero, suc, ℤ, pos, negsuc, ◌≤ℤ◌, ◌^◌, unsigned_abs, ◌+◌, ◌*◌, ◌<◌, ◌≤◌, Bool, true, false, nat_le, if◌then◌else◌, inl, inr, refl, arith}
use Rattle.std.proofs.Math.Nat.{mul-le-mul_left, mul-le-mul_right}
use Rattle.std.proofs.lemmas.Bool.{cases_lt}
use Rattle.std.proofs.lemmas.Bool.Decides.{nat_tests}
use Rattle.std.proofs.lemmas.Int.{ints}
use Rattle.fix_num.specs.Fixed.{root, RootIsFloor, fix_sqrt}

record IsFloor (n r : ℕ) : Type 0 where
  pub low : r * r ≤ n
  pub high : n < (r + 1) * (r + 1)

next_floor : (n r : ℕ) → IsFloor n r → (t : Bool) → nat_le ((r + 1) * (r + 1)) (suc n) ≡ t → IsFloor (suc n) (if t then r + 1 else r)
next_floor n r h true e = record { low = grind (arith, nat_tests); high = omega (arith, h.high) }
next_floor n r h false e = record { low = omega (arith, h.low); high = grind (arith, nat_tests) }

floor_root : (n : ℕ) → IsFloor n (root n)
unfolding root
floor_root zero = record { low = omega arith; high = omega arith }
floor_root (suc n) = next_floor n (root n) (floor_root n) (nat_le ((root n + 1) * (root n + 1)) (suc n)) refl

square_mono : (a b : ℕ) → a ≤ b → a * a ≤ b * b
square_mono a b h = let l : a * a ≤ b * a = mul-le-mul_right a h in let r : b * a ≤ b * b = mul-le-mul_left b h in omega arith

floor_least : (n a b : ℕ) → a * a ≤ n → n < (b + 1) * (b + 1) → a ≤ b
floor_least n a b low high =
    elim (cases_lt b a) as (λ _. a ≤ b) [
      | inl lt ↦ absurd (let h : (b + 1) * (b + 1) ≤ a * a = square_mono (b + 1) a (omega arith) in omega arith)
      | inr le ↦ le
    ]

pub root_low : (n : ℕ) → root n * root n ≤ n
root_low n = (floor_root n).low

pub root_high : (n : ℕ) → n < (root n + 1) * (root n + 1)
root_high n = (floor_root n).high

-- a number that meets both is the root
pub root_unique : (n r : ℕ) → r * r ≤ n → n < (r + 1) * (r + 1) → root n ≡ r
root_unique n r low high =
    let a : root n ≤ r = floor_least n (root n) r (root_low n) high in
    let b : r ≤ root n = floor_least n r (root n) low (root_high n) in
    omega arith

pub floor_law : RootIsFloor
floor_law n = (root_low n, root_high n, λ r low high. root_unique n r low high)

-- the root of a number below b^2 is below b
pub root_below : (n b : ℕ) → n < b * b → root n < b
root_below n b h = elim (cases_lt (root n) b) as (λ _. root n < b) [ inl lt ↦ lt | inr le ↦ absurd (let s : b * b ≤ root n * root n = square_mono b (root n) le in let l : root n * root n ≤ n = root_low n in omega arith) ]

pub sqrt_at : (F : ℕ) (z : ℤ) → pos 0 ≤ℤ z → fix_sqrt F z ≡ pos (root (unsigned_abs z * 2 ^ F))
sqrt_at F (pos n) h = refl
sqrt_at F (negsuc n) h = absurd (omega (arith, ints))
