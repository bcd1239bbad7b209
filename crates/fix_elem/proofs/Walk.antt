-- The walk over the table.
use Rattle.std.proofs.Common.{◌≡◌, ℕ, ◌+◌, ◌*◌, ◌/◌, ◌-◌, ◌^◌, ◌<◌, ◌≤◌, ◌==◌, List, [], ◌∷◌, length, drop, get_or, if◌then◌else◌, ap, sym, ◌∙◌, subst, arith, add-one, drop-cons, length-drop}
use Rattle.std.specs.Int.{bit_at}
use Rattle.std.specs.Prelude.{bit_and}
use Rattle.std.proofs.lemmas.Nat.Bits.{shr_and_one, bit_at-lt}
use Rattle.std.proofs.Math.Nat.{le_of_mul-le-mul_right, mul-le-mul_left, mul-le-mul_right}
use Rattle.fix_num.specs.Fixed.{RootIsFloor}
use Rattle.fix_elem.specs.Elementary.{constants, power_from}
use Rattle.fix_elem.proofs.Roots.{AreHalves, last_of, falling, roots_are_halves, last_above_one}
use Rattle.fix_elem.proofs.Growth.{step, step_low}

-- e has room for the constants that are left
pub record Room (e : ℕ) (cs : List ℕ) : Type 0 where
  pub before : ℕ
  pub halves : AreHalves before cs
  pub within : e * before ≤ 2 ^ 125
  pub low : 2 ^ 62 ≤ before
  pub top : 2 ^ 62 < last_of before cs

pub room_size : (e : ℕ) (cs : List ℕ) → Room e cs → e ≤ 2 ^ 63
room_size e cs r =
    let a : e * 2 ^ 62 ≤ e * r.before = mul-le-mul_left e r.low in
    let w : e * r.before ≤ 2 ^ 125 = r.within in
    le_of_mul-le-mul_right {m = e} {n = 2 ^ 63} {k = 2 ^ 62} (omega arith) (omega arith)

pub room_product : (e c : ℕ) (cs : List ℕ) → Room e (c ∷ cs) → e * c ≤ 2 ^ 125
room_product e c cs r =
    let w : e * r.before ≤ 2 ^ 125 = r.within in
    let a : e * c ≤ e * r.before = mul-le-mul_left e (falling r.before c r.halves.0 r.halves.1) in
    omega arith

pub room_skip : (e c : ℕ) (cs : List ℕ) → Room e (c ∷ cs) → Room e cs
room_skip e c cs r = record { before = c; halves = r.halves.2; within = room_product e c cs r; low = r.halves.0; top = r.top }

pub room_step : (e c : ℕ) (cs : List ℕ) → Room e (c ∷ cs) → Room (step e c) cs
room_step e c cs r =
    let low : step e c * 2 ^ 62 ≤ e * c = step_low e c in
    let a : step e c * 2 ^ 62 * c ≤ e * c * c = mul-le-mul_right c low in
    let b : e * (c * c) ≤ e * (r.before * 2 ^ 62) = mul-le-mul_left e r.halves.1 in
    let w : e * r.before ≤ 2 ^ 125 = r.within in
    let d : step e c * c ≤ 2 ^ 125 = le_of_mul-le-mul_right {m = step e c * c} {n = 2 ^ 125} {k = 2 ^ 62} (omega arith) (omega arith) in
    record { before = c; halves = r.halves.2; within = d; low = r.halves.0; top = r.top }

pub open_at : (cs : List ℕ) (k : ℕ) → k < length cs → drop k cs ≡ get_or cs k 0 ∷ drop (k + 1) cs
open_at cs k h = rw (add-one, drop-cons cs k 0)

pub left_after : (cs : List ℕ) (k : ℕ) → length (drop (k + 1) cs) ≡ length cs - 1 - k
left_after cs k = simp length-drop (omega arith)

-- one turn where the bit is set, and where it is not
pub walk_set : (cs : List ℕ) (k e f : ℕ) → k < length cs → bit_at f (length cs - 1 - k) ≡ 1 → power_from (drop (k + 1) cs) (step e (get_or cs k 0)) f ≡ power_from (drop k cs) e f
walk_set cs k e f h set =
    let b : bit_at f (length (drop (k + 1) cs)) ≡ 1 = ap (bit_at f) (left_after cs k) ∙ set in
    sym (ap (λ ds. power_from ds e f) (open_at cs k h) ∙ ap (λ (x : ℕ). power_from (drop (k + 1) cs) (if x == 1 then step e (get_or cs k 0) else e) f) b)

pub walk_clear : (cs : List ℕ) (k e f : ℕ) → k < length cs → bit_at f (length cs - 1 - k) ≡ 0 → power_from (drop (k + 1) cs) e f ≡ power_from (drop k cs) e f
walk_clear cs k e f h clear =
    let b : bit_at f (length (drop (k + 1) cs)) ≡ 0 = ap (bit_at f) (left_after cs k) ∙ clear in
    sym (ap (λ ds. power_from ds e f) (open_at cs k h) ∙ ap (λ (x : ℕ). power_from (drop (k + 1) cs) (if x == 1 then step e (get_or cs k 0) else e) f) b)

-- the room at an index
pub room_at : (cs : List ℕ) (k e : ℕ) → k < length cs → Room e (drop k cs) → Room e (get_or cs k 0 ∷ drop (k + 1) cs)
room_at cs k e h r = subst (λ ds. Room e ds) (open_at cs k h) r

pub is_clear : (f i : ℕ) → (bit_and (f / 2 ^ i) 1 ≡ 1 → ⊥) → bit_at f i ≡ 0
is_clear f i h =
    let a : bit_and (f / 2 ^ i) 1 ≡ bit_at f i = shr_and_one f i in
    let b : bit_at f i < 2 = bit_at-lt f i in
    omega (arith, a, b, h)

-- at the start, and at the end
pub first_room : RootIsFloor → (F : ℕ) → F ≤ 40 → Room (2 ^ 62) (constants F)
first_room law F h = record { before = 2 ^ 63; halves = roots_are_halves law F (2 ^ 63) (omega arith); within = omega arith; low = omega arith; top = last_above_one law F h }

pub last_room : (e : ℕ) → Room e [] → e < 2 ^ 63
last_room e r =
    let t : 2 ^ 62 < r.before = r.top in
    let w : e * r.before ≤ 2 ^ 125 = r.within in
    let a : e * (2 ^ 62 + 1) ≤ e * r.before = mul-le-mul_left e (omega (arith, t)) in
    omega (arith, a, w)
