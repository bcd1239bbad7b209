-- The power grows strictly.
use Rattle.std.proofs.Common.{◌≡◌, ℕ, zero, suc, ◌+◌, ◌*◌, ◌/◌, ◌%◌, ◌^◌, ◌<◌, ◌≤◌, ◌==◌, List, [], ◌∷◌, length, Bool, true, false, if◌then◌else◌, ◌⊎◌, inl, inr, refl, ap, sym, ◌∙◌, subst, arith}
use Rattle.std.proofs.Math.Nat.{div-mul-le_self, lt-div-mul-add, le_of_mul-le-mul_right, mul-le-mul_left, mul-le-mul_right, le-div_iff_mul-le, mod-lt, mod-eq_of_lt, pow-succ'}
use Rattle.std.specs.Int.{bit_at}
use Rattle.std.proofs.Math.Pow.{mod-pow-add, pow_pos}
use Rattle.std.proofs.lemmas.Nat.Bits.{bit_at-lt}
use Rattle.fix_num.specs.Fixed.{RootIsFloor}
use Rattle.fix_elem.specs.Elementary.{constants, power_from, power, PowerGrows}
use Rattle.fix_elem.proofs.Roots.{AreHalves, last_of, roots_are_halves, roots_count, last_above_one}

-- one constant multiplied in
abbrev pub step : ℕ → ℕ → ℕ
step e c = e * c / 2 ^ 62

-- all constants multiplied in
abbrev all_of : List ℕ → ℕ → ℕ
all_of [] e = e
all_of (c ∷ cs) e = all_of cs (step e c)

pub step_low : (e c : ℕ) → step e c * 2 ^ 62 ≤ e * c
step_low e c = div-mul-le_self (e * c) (2 ^ 62)

step_high : (e c : ℕ) → e * c < step e c * 2 ^ 62 + 2 ^ 62
step_high e c = let p : 0 < 2 ^ 62 = omega arith in lt-div-mul-add p

-- the product of all later constants, times the last of them, is at most the constant before
run_below : (before e : ℕ) (cs : List ℕ) → AreHalves before cs → all_of cs e * last_of before cs ≤ e * before
run_below before e [] h = omega arith
run_below before e (c ∷ cs) h =
    let ih : all_of cs (step e c) * last_of c cs ≤ step e c * c = run_below c (step e c) cs h.2 in
    let low : step e c * 2 ^ 62 ≤ e * c = step_low e c in
    let a : step e c * 2 ^ 62 * c ≤ e * c * c = mul-le-mul_right c low in
    let b : e * (c * c) ≤ e * (before * 2 ^ 62) = mul-le-mul_left e h.1 in
    let d : step e c * c ≤ e * before = le_of_mul-le-mul_right {m = step e c * c} {n = e * before} {k = 2 ^ 62} (omega arith) (omega arith) in
    omega arith

-- no step makes less of e
pub step_grows : (e c : ℕ) → 2 ^ 62 ≤ c → e ≤ step e c
step_grows e c h = (le-div_iff_mul-le {k = 2 ^ 62} {x = e} {y = e * c} (omega arith)).1 (mul-le-mul_left e h)

all_grows : (before e : ℕ) (cs : List ℕ) → AreHalves before cs → e ≤ all_of cs e
all_grows before e [] h = omega arith
all_grows before e (c ∷ cs) h =
    let a : e ≤ step e c = step_grows e c h.0 in
    let b : step e c ≤ all_of cs (step e c) = all_grows c (step e c) cs h.2 in
    omega arith

-- the crux: one constant outdoes all the later ones together
crux : (e c : ℕ) (cs : List ℕ) → 2 ^ 62 ≤ e → AreHalves c cs → 2 ^ 62 < last_of c cs → all_of cs e < step e c
crux e c cs he h top =
    let low : all_of cs e * last_of c cs ≤ e * c = run_below c e cs h in
    let high : e * c < step e c * 2 ^ 62 + 2 ^ 62 = step_high e c in
    let grown : e ≤ all_of cs e = all_grows c e cs h in
    let more : all_of cs e * (2 ^ 62 + 1) ≤ all_of cs e * last_of c cs = mul-le-mul_left (all_of cs e) (omega arith) in
    omega arith

-- a number by its top bit and the rest
pub split_top : (f n : ℕ) → f % 2 ^ suc n ≡ bit_at f n * 2 ^ n + f % 2 ^ n
split_top f n = let e : suc n ≡ 1 + n = omega arith in rw e (mod-pow-add f 1 n)

all_zero : (b p r : ℕ) → b < 2 → 0 < p → b * p + r ≡ 0 → (b ≡ 0) × (r ≡ 0)
all_zero zero p r hb hp h = (refl, omega arith)
all_zero (suc zero) p r hb hp h = absurd (omega arith)
all_zero (suc (suc b)) p r hb hp h = absurd (omega arith)

all_one : (b p r : ℕ) → b < 2 → r < p → b * p + r + 1 ≡ 2 * p → (b ≡ 1) × (r + 1 ≡ p)
all_one zero p r hb hp h = absurd (omega arith)
all_one (suc zero) p r hb hp h = (refl, omega arith)
all_one (suc (suc b)) p r hb hp h = absurd (omega arith)

-- one more leaves the top bit, or carries into it
carry : (a b p r s : ℕ) → a < 2 → b < 2 → r < p → s < p → a * p + r + 1 ≡ b * p + s → ((a ≡ b) × (r + 1 ≡ s)) ⊎ ((a ≡ 0) × (b ≡ 1) × (r + 1 ≡ p) × (s ≡ 0))
carry zero zero p r s ha hb hr hs h = inl (refl, omega arith)
carry zero (suc zero) p r s ha hb hr hs h = inr (refl, refl, omega arith, omega arith)
carry (suc zero) zero p r s ha hb hr hs h = absurd (omega arith)
carry (suc zero) (suc zero) p r s ha hb hr hs h = inl (refl, omega arith)
carry (suc (suc a)) b p r s ha hb hr hs h = absurd (omega arith)
carry a (suc (suc b)) p r s ha hb hr hs h = absurd (omega arith)

pub low_below : (f n : ℕ) → f % 2 ^ n < 2 ^ n
low_below f n = mod-lt f (pow_pos n)

-- where the low bits are 0, nothing is multiplied in
pub from_zero : (cs : List ℕ) (e f : ℕ) → f % 2 ^ length cs ≡ 0 → power_from cs e f ≡ e
from_zero [] e f h = refl
from_zero (c ∷ cs) e f h =
    let s : f % 2 ^ suc (length cs) ≡ bit_at f (length cs) * 2 ^ length cs + f % 2 ^ length cs = split_top f (length cs) in
    let w : (bit_at f (length cs) ≡ 0) × (f % 2 ^ length cs ≡ 0) = all_zero (bit_at f (length cs)) (2 ^ length cs) (f % 2 ^ length cs) (bit_at-lt f (length cs)) (pow_pos (length cs)) (sym s ∙ h) in
    ap (λ v. power_from cs v f) (ap (λ (b : ℕ). if b == 1 then step e c else e) w.0) ∙ from_zero cs e f w.1

-- where they are all 1, everything is
from_ones : (cs : List ℕ) (e f : ℕ) → f % 2 ^ length cs + 1 ≡ 2 ^ length cs → power_from cs e f ≡ all_of cs e
from_ones [] e f h = refl
from_ones (c ∷ cs) e f h =
    let s : f % 2 ^ suc (length cs) ≡ bit_at f (length cs) * 2 ^ length cs + f % 2 ^ length cs = split_top f (length cs) in
    let p : 2 ^ suc (length cs) ≡ 2 * 2 ^ length cs = pow-succ' 2 (length cs) in
    let w : (bit_at f (length cs) ≡ 1) × (f % 2 ^ length cs + 1 ≡ 2 ^ length cs) = all_one (bit_at f (length cs)) (2 ^ length cs) (f % 2 ^ length cs) (bit_at-lt f (length cs)) (low_below f (length cs)) (ap (λ (x : ℕ). x + 1) (sym s) ∙ h ∙ p) in
    ap (λ v. power_from cs v f) (ap (λ (b : ℕ). if b == 1 then step e c else e) w.0) ∙ from_ones cs (step e c) f w.1

pub either : (b : Bool) (x y n : ℕ) → n ≤ x → n ≤ y → n ≤ (if b then x else y)
either true x y n hx hy = hx
either false x y n hx hy = hy

-- E(f) < E(f + 1), on the bits of the table
pub growth : (before e : ℕ) (cs : List ℕ) (f g : ℕ) → 2 ^ 62 ≤ e → AreHalves before cs → 2 ^ 62 < last_of before cs → f % 2 ^ length cs + 1 ≡ g % 2 ^ length cs → power_from cs e f < power_from cs e g
growth before e [] f g he h top next = absurd (let a : g % 1 < 1 = omega arith in omega arith)
growth before e (c ∷ cs) f g he h top next =
    let sf : f % 2 ^ suc (length cs) ≡ bit_at f (length cs) * 2 ^ length cs + f % 2 ^ length cs = split_top f (length cs) in
    let sg : g % 2 ^ suc (length cs) ≡ bit_at g (length cs) * 2 ^ length cs + g % 2 ^ length cs = split_top g (length cs) in
    let grown : e ≤ step e c = step_grows e c h.0 in
    elim (carry (bit_at f (length cs)) (bit_at g (length cs)) (2 ^ length cs) (f % 2 ^ length cs) (g % 2 ^ length cs) (bit_at-lt f (length cs)) (bit_at-lt g (length cs)) (low_below f (length cs)) (low_below g (length cs)) (ap (λ (x : ℕ). x + 1) (sym sf) ∙ next ∙ sg)) [
      | inl w ↦
          subst (λ (b : ℕ). power_from cs (if bit_at f (length cs) == 1 then step e c else e) f < power_from cs (if b == 1 then step e c else e) g) w.0
          (growth c (if bit_at f (length cs) == 1 then step e c else e) cs f g (either (bit_at f (length cs) == 1) (step e c) e (2 ^ 62) (omega arith) he) h.2 top w.1)
      | inr w ↦
          let ef : power_from (c ∷ cs) e f ≡ all_of cs e = ap (λ v. power_from cs v f) (ap (λ (b : ℕ). if b == 1 then step e c else e) w.0) ∙ from_ones cs e f w.2 in
          let eg : power_from (c ∷ cs) e g ≡ step e c = ap (λ v. power_from cs v g) (ap (λ (b : ℕ). if b == 1 then step e c else e) w.1) ∙ from_zero cs (step e c) g w.3 in
          let k : all_of cs e < step e c = crux e c cs he h.2 top in
          omega arith
    ]

pub power_grows : RootIsFloor → PowerGrows
unfolding power
power_grows law F f h room =
    let n : length (constants F) ≡ F = roots_count F (2 ^ 63) in
    let a : f % 2 ^ F ≡ f = mod-eq_of_lt (omega arith) in
    let b : (f + 1) % 2 ^ F ≡ f + 1 = mod-eq_of_lt room in
    let e : f % 2 ^ F + 1 ≡ (f + 1) % 2 ^ F = ap (λ (x : ℕ). x + 1) a ∙ sym b in
    growth (2 ^ 63) (2 ^ 62) (constants F) f (f + 1) (omega arith) (roots_are_halves law F (2 ^ 63) (omega arith)) (last_above_one law F h) (subst (λ (x : ℕ). f % 2 ^ x + 1 ≡ (f + 1) % 2 ^ x) (sym n) e)
