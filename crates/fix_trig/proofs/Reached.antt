-- The search ends in the direction of the angle that it finds.
use Rattle.std.proofs.Common.{◌≡◌, ℕ, zero, suc, ◌+◌, ◌-◌, ◌*◌, ◌%◌, ◌^◌, ◌<◌, ◌≤◌, ◌==◌, Bool, true, false, if◌then◌else◌, refl, ap, sym, ◌∙◌, subst, arith}
use Rattle.std.specs.Int.{bit_at}
use Rattle.std.proofs.Math.Nat.{pow-succ'}
use Rattle.std.proofs.Math.Pow.{pow_pos}
use Rattle.std.proofs.lemmas.Nat.Bits.{bit_at_cat_high, bit_at_lowest}
use Rattle.fix_trig.specs.Turn.{UnitVector, turned, direction_at}
use Rattle.fix_trig.specs.Angle.{OnTheWay, is_at_or_beyond, found, EndsAtItsAngle}
use Rattle.fix_trig.proofs.Steps.{direction_first, direction_set, direction_clear, found_first, found_taken, found_left}

-- only the highest bits count
same_high : (F f g k : ℕ) → ((j : ℕ) → j < k → bit_at f (F - (j + 1)) ≡ bit_at g (F - (j + 1))) → direction_at F f k ≡ direction_at F g k
unfolding direction_at
same_high F f g zero h = refl
same_high F f g (suc k) h =
    let e : k + 1 ≡ suc k = omega arith in
    let b : bit_at f (F - suc k) ≡ bit_at g (F - suc k) = subst (λ (x : ℕ). bit_at f (F - x) ≡ bit_at g (F - x)) e (h k (omega arith)) in
    let d : direction_at F f k ≡ direction_at F g k = same_high F f g k (λ j l. h j (omega arith)) in
    ap (λ (x : ℕ). if x == 1 then turned k (direction_at F f k) else direction_at F f k) b ∙ ap (λ (x : UnitVector). if bit_at g (F - suc k) == 1 then turned k x else x) d

-- after k turns the angle has its k highest bits, and the direction is theirs
record IsReached (F k : ℕ) (w : OnTheWay) : Type 0 where
  pub high : ℕ
  pub angle : w.angle ≡ high * 2 ^ (F - k)
  pub at : w.at ≡ direction_at F w.angle k

odd : (a p q : ℕ) → q ≡ 2 * p → a * q + p ≡ (2 * a + 1) * p
odd a p q h = subst (λ (x : ℕ). a * x + p ≡ (2 * a + 1) * p) (sym h) (omega arith)

even : (a p q : ℕ) → q ≡ 2 * p → a * q ≡ 2 * a * p
even a p q h = subst (λ (x : ℕ). a * x ≡ 2 * a * p) (sym h) (omega arith)

-- the next bit of such an angle
next_set : (a i : ℕ) → bit_at (a * 2 ^ suc i + 2 ^ i) i ≡ 1
next_set a i =
    let p : 2 ^ suc i ≡ 2 * 2 ^ i = pow-succ' 2 i in
    let e : a * 2 ^ suc i + 2 ^ i ≡ (2 * a + 1) * 2 ^ i + 0 = let f : a * 2 ^ suc i + 2 ^ i ≡ (2 * a + 1) * 2 ^ i = odd a (2 ^ i) (2 ^ suc i) p in omega (arith, f) in
    let s : i - i ≡ 0 = omega arith in
    let o : (2 * a + 1) % 2 ≡ 1 = omega arith in
    ap (λ (x : ℕ). bit_at x i) e ∙ bit_at_cat_high (2 * a + 1) i 0 i (pow_pos i) (omega arith) ∙ ap (bit_at (2 * a + 1)) s ∙ bit_at_lowest (2 * a + 1) ∙ o

next_clear : (a i : ℕ) → bit_at (a * 2 ^ suc i) i ≡ 0
next_clear a i =
    let p : 2 ^ suc i ≡ 2 * 2 ^ i = pow-succ' 2 i in
    let e : a * 2 ^ suc i ≡ 2 * a * 2 ^ i + 0 = let f : a * 2 ^ suc i ≡ 2 * a * 2 ^ i = even a (2 ^ i) (2 ^ suc i) p in omega (arith, f) in
    let s : i - i ≡ 0 = omega arith in
    let o : 2 * a % 2 ≡ 0 = omega arith in
    ap (λ (x : ℕ). bit_at x i) e ∙ bit_at_cat_high (2 * a) i 0 i (pow_pos i) (omega arith) ∙ ap (bit_at (2 * a)) s ∙ bit_at_lowest (2 * a) ∙ o

-- and those before it
high_same : (a i j : ℕ) → i < j → bit_at (a * 2 ^ suc i + 2 ^ i) j ≡ bit_at (a * 2 ^ suc i) j
high_same a i j h =
    let p : 2 ^ suc i ≡ 2 * 2 ^ i = pow-succ' 2 i in
    let q : 0 < 2 ^ i = pow_pos i in
    let e : a * 2 ^ suc i ≡ a * 2 ^ suc i + 0 = omega arith in
    bit_at_cat_high a (suc i) (2 ^ i) j (omega arith) (omega arith) ∙ sym (bit_at_cat_high a (suc i) 0 j (omega arith) (omega arith)) ∙ ap (λ (x : ℕ). bit_at x j) (sym e)

taken : (F k : ℕ) (w : OnTheWay) → k < F → IsReached F k w → IsReached F (k + 1) (record { at = turned k w.at; angle = w.angle + 2 ^ (F - (k + 1)) })
taken F k w h r =
    let i : ℕ = F - (k + 1) in
    let n : F - k ≡ suc i = omega arith in
    let p : 2 ^ suc i ≡ 2 * 2 ^ i = pow-succ' 2 i in
    let a : w.angle ≡ r.high * 2 ^ suc i = r.angle ∙ ap (λ (x : ℕ). r.high * 2 ^ x) n in
    let s : bit_at (w.angle + 2 ^ i) i ≡ 1 = ap (λ (x : ℕ). bit_at (x + 2 ^ i) i) a ∙ next_set r.high i in
    let m : direction_at F (w.angle + 2 ^ i) k ≡ direction_at F w.angle k =
    same_high F (w.angle + 2 ^ i) w.angle k
    (λ j l. ap (λ (x : ℕ). bit_at (x + 2 ^ i) (F - (j + 1))) a ∙ high_same r.high i (F - (j + 1)) (omega arith) ∙ ap (λ (x : ℕ). bit_at x (F - (j + 1))) (sym a))
    in
    record { high = 2 * r.high + 1; angle = ap (λ (x : ℕ). x + 2 ^ i) a ∙ odd r.high (2 ^ i) (2 ^ suc i) p; at = ap (turned k) (r.at ∙ sym m) ∙ sym (direction_set F (w.angle + 2 ^ i) k s) }

left : (F k : ℕ) (w : OnTheWay) → k < F → IsReached F k w → IsReached F (k + 1) w
left F k w h r =
    let i : ℕ = F - (k + 1) in
    let n : F - k ≡ suc i = omega arith in
    let p : 2 ^ suc i ≡ 2 * 2 ^ i = pow-succ' 2 i in
    let a : w.angle ≡ r.high * 2 ^ suc i = r.angle ∙ ap (λ (x : ℕ). r.high * 2 ^ x) n in
    let s : bit_at w.angle i ≡ 0 = ap (λ (x : ℕ). bit_at x i) a ∙ next_clear r.high i in
    record { high = 2 * r.high; angle = a ∙ even r.high (2 ^ i) (2 ^ suc i) p; at = r.at ∙ sym (direction_clear F w.angle k s) }

step : (F u v k : ℕ) → k < F → IsReached F k (found F u v k) → (t : Bool) → is_at_or_beyond u v (turned k (found F u v k).at) ≡ t → IsReached F (k + 1) (found F u v (k + 1))
step F u v k h r true e = subst (IsReached F (k + 1)) (sym (found_taken F u v k e)) (taken F k (found F u v k) h r)
step F u v k h r false e = subst (IsReached F (k + 1)) (sym (found_left F u v k e)) (left F k (found F u v k) h r)

first : (F u v : ℕ) → IsReached F 0 (found F u v 0)
first F u v = subst (IsReached F 0) (sym (found_first F u v)) (record { high = 0; angle = omega arith; at = sym (direction_first F 0) })

reached : (F u v k : ℕ) → k ≤ F → IsReached F k (found F u v k)
reached F u v zero h = first F u v
reached F u v (suc k) h =
    let e : k + 1 ≡ suc k = omega arith in
    subst (λ (x : ℕ). IsReached F x (found F u v x)) e (step F u v k (omega arith) (reached F u v k (omega arith)) (is_at_or_beyond u v (turned k (found F u v k).at)) refl)

pub ends_at_its_angle : EndsAtItsAngle
ends_at_its_angle F u v = (reached F u v F (omega arith)).at
