-- The greatest f with E(f) at most m, bit by bit.
use Rattle.std.proofs.Common.{◌≡◌, ℕ, zero, suc, ◌+◌, ◌*◌, ◌%◌, ◌-◌, ◌^◌, ◌<◌, ◌≤◌, ◌==◌, List, [], ◌∷◌, length, drop, get_or, Bool, true, false, nat_le, if◌then◌else◌, inl, inr, refl, ap, sym, ◌∙◌, subst, arith}
use Rattle.std.proofs.Math.Nat.{pow-succ', mod-eq_of_lt}
use Rattle.std.proofs.Math.Pow.{pow_pos}
use Rattle.std.proofs.lemmas.Bool.{cases_lt}
use Rattle.std.proofs.lemmas.Nat.{same_from_place, mod_low}
use Rattle.std.proofs.lemmas.Nat.Bits.{bit_at_above, bit_at_cat_high}
use Rattle.std.proofs.lemmas.Bool.Decides.{nat_tests}
use Rattle.std.specs.Int.{bit_at}
use Rattle.fix_num.specs.Fixed.{RootIsFloor}
use Rattle.fix_elem.specs.Elementary.{constants, power_from, power, greatest_within, exponent, ExponentIsGreatest}
use Rattle.fix_elem.proofs.Roots.{AreHalves, roots_are_halves, roots_count}
use Rattle.fix_elem.proofs.Growth.{from_zero, step, step_grows, split_top, low_below, either}
use Rattle.fix_elem.proofs.Walk.{open_at, left_after}

-- only the low bits count
same_low : (cs : List ℕ) (e f g : ℕ) → f % 2 ^ length cs ≡ g % 2 ^ length cs → power_from cs e f ≡ power_from cs e g
same_low [] e f g h = refl
same_low (c ∷ cs) e f g h =
    let w : (bit_at f (length cs) ≡ bit_at g (length cs)) × (f % 2 ^ length cs ≡ g % 2 ^ length cs) =
    same_from_place (bit_at f (length cs)) (f % 2 ^ length cs) (bit_at g (length cs)) (g % 2 ^ length cs) (2 ^ length cs) (low_below f (length cs)) (low_below g (length cs)) (sym (split_top f (length cs)) ∙ h ∙ split_top g (length cs)) in
    ap (λ (b : ℕ). power_from cs (if b == 1 then step e c else e) f) w.0 ∙ same_low cs (if bit_at g (length cs) == 1 then step e c else e) f g w.1

-- with the top bit, and without it
with_top : (c : ℕ) (cs : List ℕ) (e g : ℕ) → g < 2 ^ length cs → power_from (c ∷ cs) e (2 ^ length cs + g) ≡ power_from cs (step e c) g
with_top c cs e g h =
    let one : 1 * 2 ^ length cs + g ≡ 2 ^ length cs + g = omega arith in
    let top : bit_at (2 ^ length cs + g) (length cs) ≡ 1 = ap (λ (x : ℕ). bit_at x (length cs)) (sym one) ∙ bit_at_cat_high 1 (length cs) g (length cs) h (omega arith) ∙ (let z : length cs - length cs ≡ 0 = omega arith in ap (bit_at 1) z) in
    let low : (2 ^ length cs + g) % 2 ^ length cs ≡ g % 2 ^ length cs = ap (λ (x : ℕ). x % 2 ^ length cs) (sym one) ∙ mod_low 1 (length cs) g h ∙ sym (mod-eq_of_lt h) in
    ap (λ (b : ℕ). power_from cs (if b == 1 then step e c else e) (2 ^ length cs + g)) top ∙ same_low cs (step e c) (2 ^ length cs + g) g low

without_top : (c : ℕ) (cs : List ℕ) (e g : ℕ) → g < 2 ^ length cs → power_from (c ∷ cs) e g ≡ power_from cs e g
without_top c cs e g h =
    ap (λ (b : ℕ). power_from cs (if b == 1 then step e c else e) g) (bit_at_above g (length cs) (length cs) h (omega arith))

-- nothing makes less of e
from_grows : (before e : ℕ) (cs : List ℕ) (f : ℕ) → AreHalves before cs → e ≤ power_from cs e f
from_grows before e [] f h = omega arith
from_grows before e (c ∷ cs) f h =
    let a : e ≤ (if bit_at f (length cs) == 1 then step e c else e) = either (bit_at f (length cs) == 1) (step e c) e e (step_grows e c h.0) (omega arith) in
    let k : (if bit_at f (length cs) == 1 then step e c else e) ≤ power_from cs (if bit_at f (length cs) == 1 then step e c else e) f = from_grows c (if bit_at f (length cs) == 1 then step e c else e) cs f h.2 in
    omega arith

-- what the code finds
abbrev pub find : List ℕ → ℕ → ℕ → ℕ
find [] e m = 0
find (c ∷ cs) e m = if nat_le (step e c) m then 2 ^ length cs + find cs (step e c) m else find cs e m

both_below : (b : Bool) (x y n : ℕ) → x < n → y < n → (if b then x else y) < n
both_below true x y n h k = h
both_below false x y n h k = k

pub find_below : (cs : List ℕ) (e m : ℕ) → find cs e m < 2 ^ length cs
find_below [] e m = omega arith
find_below (c ∷ cs) e m =
    let a : find cs (step e c) m < 2 ^ length cs = find_below cs (step e c) m in
    let b : find cs e m < 2 ^ length cs = find_below cs e m in
    let p : 2 ^ suc (length cs) ≡ 2 * 2 ^ length cs = pow-succ' 2 (length cs) in
    both_below (nat_le (step e c) m) (2 ^ length cs + find cs (step e c) m) (find cs e m) (2 ^ suc (length cs)) (omega arith) (omega arith)

value_at : (c : ℕ) (cs : List ℕ) (e m : ℕ) (b : Bool) → nat_le (step e c) m ≡ b → (step e c ≤ m → power_from cs (step e c) (find cs (step e c) m) ≤ m) → power_from cs e (find cs e m) ≤ m
    → power_from (c ∷ cs) e (if b then 2 ^ length cs + find cs (step e c) m else find cs e m) ≤ m
value_at c cs e m true t high low =
    let v : power_from (c ∷ cs) e (2 ^ length cs + find cs (step e c) m) ≡ power_from cs (step e c) (find cs (step e c) m) = with_top c cs e (find cs (step e c) m) (find_below cs (step e c) m) in
    let h : power_from cs (step e c) (find cs (step e c) m) ≤ m = high (grind (arith, nat_tests, t)) in
    omega (arith, v, h)
value_at c cs e m false t high low =
    let v : power_from (c ∷ cs) e (find cs e m) ≡ power_from cs e (find cs e m) = without_top c cs e (find cs e m) (find_below cs e m) in
    omega (arith, v, low)

pub find_value : (cs : List ℕ) (e m : ℕ) → e ≤ m → power_from cs e (find cs e m) ≤ m
find_value [] e m h = h
find_value (c ∷ cs) e m h = value_at c cs e m (nat_le (step e c) m) refl (λ k. find_value cs (step e c) m k) (find_value cs e m h)

greatest_at : (before c : ℕ) (cs : List ℕ) (e m g : ℕ) (b : Bool) → AreHalves before (c ∷ cs) → nat_le (step e c) m ≡ b
    → ((x : ℕ) → x < 2 ^ length cs → power_from cs (step e c) x ≤ m → x ≤ find cs (step e c) m)
    → ((x : ℕ) → x < 2 ^ length cs → power_from cs e x ≤ m → x ≤ find cs e m)
    → g < 2 ^ suc (length cs) → power_from (c ∷ cs) e g ≤ m → g ≤ (if b then 2 ^ length cs + find cs (step e c) m else find cs e m)
greatest_at before c cs e m g true halves t high low within h =
    elim (cases_lt g (2 ^ length cs)) as (λ _. g ≤ 2 ^ length cs + find cs (step e c) m) [
      | inl small ↦ omega arith
      | inr large ↦
          let p : 2 ^ suc (length cs) ≡ 2 * 2 ^ length cs = pow-succ' 2 (length cs) in
          let r : 2 ^ length cs + (g - 2 ^ length cs) ≡ g = omega arith in
          let lt : g - 2 ^ length cs < 2 ^ length cs = omega arith in
          let v : power_from (c ∷ cs) e (2 ^ length cs + (g - 2 ^ length cs)) ≡ power_from cs (step e c) (g - 2 ^ length cs) = with_top c cs e (g - 2 ^ length cs) lt in
          let h' : power_from (c ∷ cs) e (2 ^ length cs + (g - 2 ^ length cs)) ≤ m = subst (λ (x : ℕ). power_from (c ∷ cs) e x ≤ m) (sym r) h in
          let k : g - 2 ^ length cs ≤ find cs (step e c) m = high (g - 2 ^ length cs) lt (subst (λ (x : ℕ). x ≤ m) v h') in
          omega arith
    ]
greatest_at before c cs e m g false halves t high low within h =
    elim (cases_lt g (2 ^ length cs)) as (λ _. g ≤ find cs e m) [
      | inl small ↦ low g small (subst (λ (x : ℕ). x ≤ m) (without_top c cs e g small) h)
      | inr large ↦
          let p : 2 ^ suc (length cs) ≡ 2 * 2 ^ length cs = pow-succ' 2 (length cs) in
          let r : 2 ^ length cs + (g - 2 ^ length cs) ≡ g = omega arith in
          let lt : g - 2 ^ length cs < 2 ^ length cs = omega arith in
          let v : power_from (c ∷ cs) e (2 ^ length cs + (g - 2 ^ length cs)) ≡ power_from cs (step e c) (g - 2 ^ length cs) = with_top c cs e (g - 2 ^ length cs) lt in
          let h' : power_from (c ∷ cs) e (2 ^ length cs + (g - 2 ^ length cs)) ≤ m = subst (λ (x : ℕ). power_from (c ∷ cs) e x ≤ m) (sym r) h in
          let k : step e c ≤ power_from cs (step e c) (g - 2 ^ length cs) = from_grows c (step e c) cs (g - 2 ^ length cs) halves.2 in
          let l : power_from cs (step e c) (g - 2 ^ length cs) ≤ m = subst (λ (x : ℕ). x ≤ m) v h' in
          let n : m < step e c = grind (arith, nat_tests, t) in
          absurd (omega (arith, k, l, n))
    ]

pub find_greatest : (before : ℕ) (cs : List ℕ) (e m g : ℕ) → AreHalves before cs → g < 2 ^ length cs → power_from cs e g ≤ m → g ≤ find cs e m
find_greatest before [] e m g halves within h = omega arith
find_greatest before (c ∷ cs) e m g halves within h =
    greatest_at before c cs e m g (nat_le (step e c) m) halves refl (λ x w k. find_greatest c cs (step e c) m x halves.2 w k) (λ x w k. find_greatest c cs e m x halves.2 w k) within h

-- with no bit set, nothing is multiplied in
power_zero : (F : ℕ) → power F 0 ≡ 2 ^ 62
unfolding power
power_zero F = from_zero (constants F) (2 ^ 62) 0 (mod-eq_of_lt (pow_pos (length (constants F))))

record IsGreatest (F m n f : ℕ) : Type 0 where
  pub within : f ≤ n
  pub value : power F f ≤ m
  pub greatest : (g : ℕ) → g ≤ n → power F g ≤ m → g ≤ f

next_greatest : (F m n f : ℕ) → IsGreatest F m n f → (t : Bool) → nat_le (power F (suc n)) m ≡ t → IsGreatest F m (suc n) (if t then suc n else f)
next_greatest F m n f h true e = record { within = omega arith; value = grind (arith, nat_tests); greatest = λ g w k. w }
next_greatest F m n f h false e =
    record {
      within = omega (arith, h.within);
      value = h.value;
      greatest = λ g w k. elim (cases_lt n g) as (λ _. g ≤ f) [
        | inl above ↦
            let s : g ≡ suc n = omega arith in
            let k' : power F (suc n) ≤ m = subst (λ (x : ℕ). power F x ≤ m) s k in
            absurd (grind (arith, nat_tests, k', e))
        | inr below ↦ h.greatest g below k
      ];
    }

greatest_at_most : (F m n : ℕ) → 2 ^ 62 ≤ m → IsGreatest F m n (greatest_within F m n)
unfolding greatest_within
greatest_at_most F m zero h = record { within = omega arith; value = let z : power F 0 ≡ 2 ^ 62 = power_zero F in omega (arith, z, h); greatest = λ g w k. w }
greatest_at_most F m (suc n) h = next_greatest F m n (greatest_within F m n) (greatest_at_most F m n h) (nat_le (power F (suc n)) m) refl

pub exponent_law : ExponentIsGreatest
unfolding exponent
exponent_law F m h =
    let r : IsGreatest F m (2 ^ F - 1) (greatest_within F m (2 ^ F - 1)) = greatest_at_most F m (2 ^ F - 1) h in
    let p : 0 < 2 ^ F = pow_pos F in
    let w : greatest_within F m (2 ^ F - 1) ≤ 2 ^ F - 1 = r.within in
    (omega (arith, p, w), r.value, λ g l k. r.greatest g (omega (arith, l)) k)

-- what is found is the exponent
pub found : RootIsFloor → (F m : ℕ) → 2 ^ 62 ≤ m → exponent F m ≡ find (constants F) (2 ^ 62) m
unfolding power
found root_law F m h =
    let f : ℕ = find (constants F) (2 ^ 62) m in
    let n : length (constants F) ≡ F = roots_count F (2 ^ 63) in
    let halves : AreHalves (2 ^ 63) (constants F) = roots_are_halves root_law F (2 ^ 63) (omega arith) in
    let law = exponent_law F m h in
    let b : f < 2 ^ F = subst (λ (x : ℕ). f < 2 ^ x) n (find_below (constants F) (2 ^ 62) m) in
    let low : f ≤ exponent F m = law.2 f b (find_value (constants F) (2 ^ 62) m h) in
    let high : exponent F m ≤ f = find_greatest (2 ^ 63) (constants F) (2 ^ 62) m (exponent F m) halves (subst (λ (x : ℕ). exponent F m < 2 ^ x) (sym n) law.0) law.1 in
    omega (arith, low, high)

pick_true : (b : Bool) (x y : ℕ) → b ≡ true → (if b then x else y) ≡ x
pick_true true x y h = refl
pick_true false x y h = absurd (cc)

pick_false : (b : Bool) (x y : ℕ) → b ≡ false → (if b then x else y) ≡ y
pick_false true x y h = absurd (cc)
pick_false false x y h = refl

-- one turn of the loop
pub find_taken : (cs : List ℕ) (k e m : ℕ) → k < length cs → step e (get_or cs k 0) ≤ m → find (drop k cs) e m ≡ 2 ^ (length cs - 1 - k) + find (drop (k + 1) cs) (step e (get_or cs k 0)) m
find_taken cs k e m h le =
    let t : nat_le (step e (get_or cs k 0)) m ≡ true = grind (arith, nat_tests) in
    ap (λ ds. find ds e m) (open_at cs k h)
    ∙ pick_true (nat_le (step e (get_or cs k 0)) m) (2 ^ length (drop (k + 1) cs) + find (drop (k + 1) cs) (step e (get_or cs k 0)) m) (find (drop (k + 1) cs) e m) t
    ∙ ap (λ (x : ℕ). 2 ^ x + find (drop (k + 1) cs) (step e (get_or cs k 0)) m) (left_after cs k)

pub find_left : (cs : List ℕ) (k e m : ℕ) → k < length cs → m < step e (get_or cs k 0) → find (drop k cs) e m ≡ find (drop (k + 1) cs) e m
find_left cs k e m h lt =
    let t : nat_le (step e (get_or cs k 0)) m ≡ false = grind (arith, nat_tests) in
    ap (λ ds. find ds e m) (open_at cs k h)
    ∙ pick_false (nat_le (step e (get_or cs k 0)) m) (2 ^ length (drop (k + 1) cs) + find (drop (k + 1) cs) (step e (get_or cs k 0)) m) (find (drop (k + 1) cs) e m) t
