-- The constants: none is below 1, the square of each is at most the one before it, and the table holds them.
-- What says so takes the law of the root, which is that of `root_is_floor`.
use Rattle.std.proofs.Common.{◌≡◌, ℕ, zero, suc, ◌+◌, ◌*◌, ◌^◌, ◌<◌, ◌≤◌, List, [], ◌∷◌, length, get_or, Bool, true, false, ◌&&◌, nat_le, nat_lt, inl, inr, refl, ap, ◌∙◌, arith}
use Rattle.std.proofs.Math.Nat.{le_of_mul-le-mul_right, mul-le-mul_left, mul-le-mul_right}
use Rattle.std.proofs.lemmas.Bool.{cases_lt}
use Rattle.std.proofs.lemmas.Bool.Decides.{nat_tests}
use Rattle.fix_num.specs.Fixed.{root, RootIsFloor}
use Rattle.fix_elem.specs.declared.constants.TheConstants.{TABLE}
use Rattle.fix_elem.specs.Elementary.{roots_from, constants}

-- each constant is at most the root of the one before it, and none is below one
abbrev pub AreHalves : ℕ → List ℕ → Type 0
AreHalves before [] = Unit {0}
AreHalves before (c ∷ cs) = (2 ^ 62 ≤ c) × (c * c ≤ before * 2 ^ 62) × AreHalves c cs

abbrev pub last_of : ℕ → List ℕ → ℕ
last_of before [] = before
last_of before (c ∷ cs) = last_of c cs

-- a constant is at most the one before it
pub falling : (before c : ℕ) → 2 ^ 62 ≤ c → c * c ≤ before * 2 ^ 62 → c ≤ before
falling before c low h =
    let a : c * 2 ^ 62 ≤ c * c = mul-le-mul_left c low in
    le_of_mul-le-mul_right {m = c} {n = before} {k = 2 ^ 62} (omega arith) (omega arith)

above_one : (n r : ℕ) → 2 ^ 62 * 2 ^ 62 ≤ n → n < (r + 1) * (r + 1) → 2 ^ 62 ≤ r
above_one n r h high =
    elim (cases_lt r (2 ^ 62)) as (λ _. 2 ^ 62 ≤ r) [
      | inl lt ↦
          let a : (r + 1) * (r + 1) ≤ 2 ^ 62 * (r + 1) = mul-le-mul_right {m = r + 1} {n = 2 ^ 62} (r + 1) (omega arith) in
          let b : 2 ^ 62 * (r + 1) ≤ 2 ^ 62 * 2 ^ 62 = mul-le-mul_left {m = r + 1} {n = 2 ^ 62} (2 ^ 62) (omega arith) in
          absurd (omega (arith, a, b, h, high))
      | inr le ↦ le
    ]

root_above_one : RootIsFloor → (before : ℕ) → 2 ^ 62 ≤ before → 2 ^ 62 ≤ root (before * 2 ^ 62)
root_above_one law before h = above_one (before * 2 ^ 62) (root (before * 2 ^ 62)) (omega arith) (law (before * 2 ^ 62)).1

pub roots_are_halves : RootIsFloor → (n before : ℕ) → 2 ^ 62 ≤ before → AreHalves before (roots_from n before)
unfolding roots_from
roots_are_halves law zero before h = tt
roots_are_halves law (suc n) before h =
    let low : 2 ^ 62 ≤ root (before * 2 ^ 62) = root_above_one law before h in
    (low, (law (before * 2 ^ 62)).0, roots_are_halves law n (root (before * 2 ^ 62)) low)

pub roots_count : (n before : ℕ) → length (roots_from n before) ≡ n
unfolding roots_from
roots_count zero before = refl
roots_count (suc n) before = ap suc (roots_count n (root (before * 2 ^ 62)))

last_below : RootIsFloor → (n before : ℕ) → 2 ^ 62 ≤ before → last_of before (roots_from n before) ≤ before
unfolding roots_from
last_below law zero before h = omega arith
last_below law (suc n) before h =
    let low : 2 ^ 62 ≤ root (before * 2 ^ 62) = root_above_one law before h in
    let a : root (before * 2 ^ 62) ≤ before = falling before (root (before * 2 ^ 62)) low (law (before * 2 ^ 62)).0 in
    let b : last_of (root (before * 2 ^ 62)) (roots_from n (root (before * 2 ^ 62))) ≤ root (before * 2 ^ 62) = last_below law n (root (before * 2 ^ 62)) low in
    omega (arith, a, b)

-- more constants end no higher
last_falls : RootIsFloor → (n m before : ℕ) → n ≤ m → 2 ^ 62 ≤ before → last_of before (roots_from m before) ≤ last_of before (roots_from n before)
unfolding roots_from
last_falls law zero m before h low = last_below law m before low
last_falls law (suc n) zero before h low = absurd (omega arith)
last_falls law (suc n) (suc m) before h low = last_falls law n m (root (before * 2 ^ 62)) (omega arith) (root_above_one law before low)

-- each is the root of the one before it, as a test
abbrev are_roots : ℕ → List ℕ → Bool
are_roots before [] = true
are_roots before (c ∷ cs) = (nat_le (c * c) (before * 2 ^ 62) && nat_lt (before * 2 ^ 62) ((c + 1) * (c + 1))) && are_roots c cs

both : (p q : Bool) → p && q ≡ true → (p ≡ true) × (q ≡ true)
both true true h = (refl, refl)
both true false h = absurd (cc)
both false q h = absurd (cc)

roots_by_test : RootIsFloor → (before : ℕ) (cs : List ℕ) → are_roots before cs ≡ true → roots_from (length cs) before ≡ cs
unfolding roots_from
roots_by_test law before [] h = refl
roots_by_test law before (c ∷ cs) h =
    let a : (nat_le (c * c) (before * 2 ^ 62) && nat_lt (before * 2 ^ 62) ((c + 1) * (c + 1)) ≡ true) × (are_roots c cs ≡ true) = both _ _ h in
    let b : (nat_le (c * c) (before * 2 ^ 62) ≡ true) × (nat_lt (before * 2 ^ 62) ((c + 1) * (c + 1)) ≡ true) = both _ _ a.0 in
    let e : root (before * 2 ^ 62) ≡ c = (law (before * 2 ^ 62)).2 c (grind (arith, nat_tests, b.0)) (grind (arith, nat_tests, b.1)) in
    ap (λ (r : ℕ). r ∷ roots_from (length cs) r) e ∙ ap (λ (ds : List ℕ). c ∷ ds) (roots_by_test law c cs a.1)

-- the table holds the constants of 40 bits
table_is : RootIsFloor → constants 40 ≡ TABLE
table_is law = roots_by_test law (2 ^ 63) TABLE refl

same_place : (n m before k : ℕ) → k < n → k < m → get_or (roots_from n before) k 0 ≡ get_or (roots_from m before) k 0
unfolding roots_from
same_place zero m before k h l = absurd (omega arith)
same_place (suc n) zero before k h l = absurd (omega arith)
same_place (suc n) (suc m) before zero h l = refl
same_place (suc n) (suc m) before (suc k) h l = same_place n m (root (before * 2 ^ 62)) k (omega arith) (omega arith)

-- so its first F entries are the constants of F bits
pub entry : RootIsFloor → (F k : ℕ) → F ≤ 40 → k < F → get_or (constants F) k 0 ≡ get_or TABLE k 0
entry law F k h l = same_place F 40 (2 ^ 63) k l (omega arith) ∙ ap (λ (cs : List ℕ). get_or cs k 0) (table_is law)

-- the last constant is above 1
pub last_above_one : RootIsFloor → (F : ℕ) → F ≤ 40 → 2 ^ 62 < last_of (2 ^ 63) (constants F)
last_above_one law F h =
    let l : last_of (2 ^ 63) (constants 40) ≤ last_of (2 ^ 63) (constants F) = last_falls law F 40 (2 ^ 63) h (omega arith) in
    let t : last_of (2 ^ 63) (constants 40) ≡ last_of (2 ^ 63) TABLE = ap (λ (cs : List ℕ). last_of (2 ^ 63) cs) (table_is law) in
    omega (arith, l, t)
