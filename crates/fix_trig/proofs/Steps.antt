-- One turn of the loops.
use Rattle.std.proofs.Common.{◌≡◌, ℕ, zero, suc, ℤ, pos, negsuc, neg_ℤ, ◌+ℤ◌, ◌-ℤ◌, ◌*ℤ◌, ◌+◌, ◌-◌, ◌/◌, ◌^◌, ◌<◌, ◌==◌, Bool, true, false, if◌then◌else◌, int_lt, int_le, nat_lt, lit<, max, min, unsigned_abs, FitsSigned, to_z, of_z, refl, ap, sym, ◌∙◌, subst, arith}
use Rattle.std.specs.Int.{w128, bit_at}
use Rattle.std.specs.Prelude.{bit_and}
use Rattle.std.proofs.lemmas.Int.{ints, to_z-of_z, to_z_pos, fits_signed_from_abs, fits_signed_mul}
use Rattle.std.proofs.lemmas.Bool.Decides.{nat_tests}
use Rattle.std.proofs.lemmas.Nat.Bits.{shr_and_one, bit_at-lt}
use Rattle.fix_num.specs.Constants.{half_pi}
use Rattle.fix_num.specs.Fixed.{rnd, one, fix_times}
use Rattle.fix_trig.specs.Turn.{UnitVector, zero_direction, cosine, sine, turned, direction_at}
use Rattle.fix_trig.specs.Bound.{IsBounded}
use Rattle.fix_trig.specs.Angle.{is_at_or_beyond, found, unfolded, fix_atan2}
use Rattle.fix_trig.proofs.Size.{as_difference}

-- a number of 65 bits as the code computes it
pub same : (z : ℤ) → unsigned_abs z < 2 ^ 64 → to_z w128 (of_z w128 z) ≡ z
same z h = to_z-of_z w128 z (fits_signed_from_abs w128 z (omega (arith, h)))

-- a product of a natural number and such a number as the code computes it
scaled : (c : ℕ) (z : ℤ) → c < 2 ^ 63 → unsigned_abs z < 2 ^ 64 → to_z w128 (of_z w128 (to_z w128 c *ℤ to_z w128 (of_z w128 z))) ≡ pos c *ℤ z
scaled c z hc hz =
    let t : to_z w128 c ≡ pos c = to_z_pos w128 c (omega arith) in
    let f : FitsSigned w128 (pos c *ℤ z) = fits_signed_mul w128 (pos c) z (2 ^ 63 - 1) (2 ^ 64 - 1) (omega arith) (omega arith) (lit< tt) in
    ap (λ (x : ℤ). to_z w128 (of_z w128 (x *ℤ to_z w128 (of_z w128 z)))) t ∙ ap (λ (x : ℤ). to_z w128 (of_z w128 (pos c *ℤ x))) (same z hz) ∙ to_z-of_z w128 (pos c *ℤ z) f

le_difference : (a b : ℤ) (t : Bool) → int_le a b ≡ t → int_le a b ≡ int_le (pos 0) (b -ℤ a)
le_difference a b true h = let e : int_le (pos 0) (b -ℤ a) ≡ true = grind (arith, ints) in h ∙ sym e
le_difference a b false h = let e : int_le (pos 0) (b -ℤ a) ≡ false = grind (arith, ints) in h ∙ sym e

-- the comparison of two such products as the code computes it
pub beyond_is : (u v : ℕ) (d : UnitVector) → u < 2 ^ 63 → v < 2 ^ 63 → IsBounded (2 ^ 64 - 1) d
    → int_le (to_z w128 (of_z w128 (to_z w128 u *ℤ to_z w128 (of_z w128 d.y)))) (to_z w128 (of_z w128 (to_z w128 v *ℤ to_z w128 (of_z w128 d.x)))) ≡ is_at_or_beyond u v d
beyond_is u v d hu hv w =
    let ey : to_z w128 (of_z w128 (to_z w128 u *ℤ to_z w128 (of_z w128 d.y))) ≡ pos u *ℤ d.y = scaled u d.y hu (omega (arith, w.y)) in
    let ex : to_z w128 (of_z w128 (to_z w128 v *ℤ to_z w128 (of_z w128 d.x))) ≡ pos v *ℤ d.x = scaled v d.x hv (omega (arith, w.x)) in
    ap (λ (z : ℤ). int_le z (to_z w128 (of_z w128 (to_z w128 v *ℤ to_z w128 (of_z w128 d.x))))) ey ∙ ap (λ (z : ℤ). int_le (pos u *ℤ d.y) z) ex ∙ le_difference (pos u *ℤ d.y) (pos v *ℤ d.x) (int_le (pos u *ℤ d.y) (pos v *ℤ d.x)) refl

pub negated : (z : ℤ) → pos 0 -ℤ z ≡ neg_ℤ z
negated (pos zero) = refl
negated (pos (suc n)) = omega (arith, ints)
negated (negsuc n) = omega (arith, ints)

pub turned_is : (k : ℕ) (d : UnitVector) (x y : ℤ) → x ≡ rnd (d.x *ℤ pos (cosine k) -ℤ d.y *ℤ pos (sine k)) (pos (2 ^ 62)) → y ≡ rnd (d.y *ℤ pos (cosine k) -ℤ neg_ℤ d.x *ℤ pos (sine k)) (pos (2 ^ 62))
    → ◌≡◌ {A = UnitVector} (record { x = x; y = y }) (turned k d)
unfolding turned
turned_is k d x y hx hy =
    let e : y ≡ rnd (d.x *ℤ pos (sine k) +ℤ d.y *ℤ pos (cosine k)) (pos (2 ^ 62)) = hy ∙ ap (λ (z : ℤ). rnd z (pos (2 ^ 62))) (as_difference d.x d.y (cosine k) (sine k)) in
    cc

pub direction_first : (F f : ℕ) → direction_at F f 0 ≡ zero_direction
unfolding direction_at
direction_first F f = refl

pub direction_set : (F f k : ℕ) → bit_at f (F - (k + 1)) ≡ 1 → direction_at F f (k + 1) ≡ turned k (direction_at F f k)
unfolding direction_at
direction_set F f k h =
    let e : k + 1 ≡ suc k = omega arith in
    let b : bit_at f (F - suc k) ≡ 1 = subst (λ (x : ℕ). bit_at f (F - x) ≡ 1) e h in
    ap (direction_at F f) e ∙ ap (λ (x : ℕ). if x == 1 then turned k (direction_at F f k) else direction_at F f k) b

pub direction_clear : (F f k : ℕ) → bit_at f (F - (k + 1)) ≡ 0 → direction_at F f (k + 1) ≡ direction_at F f k
unfolding direction_at
direction_clear F f k h =
    let e : k + 1 ≡ suc k = omega arith in
    let b : bit_at f (F - suc k) ≡ 0 = subst (λ (x : ℕ). bit_at f (F - x) ≡ 0) e h in
    ap (direction_at F f) e ∙ ap (λ (x : ℕ). if x == 1 then turned k (direction_at F f k) else direction_at F f k) b

pub is_set : (f i : ℕ) → bit_and (f / 2 ^ i) 1 ≡ 1 → bit_at f i ≡ 1
is_set f i h = sym (shr_and_one f i) ∙ h

pub is_clear : (f i : ℕ) → (bit_and (f / 2 ^ i) 1 ≡ 1 → ⊥) → bit_at f i ≡ 0
is_clear f i h =
    let a : bit_and (f / 2 ^ i) 1 ≡ bit_at f i = shr_and_one f i in
    let b : bit_at f i < 2 = bit_at-lt f i in
    omega (arith, a, b, h)

pub found_first : (F u v : ℕ) → found F u v 0 ≡ record { at = zero_direction; angle = 0 }
unfolding found
found_first F u v = refl

pub found_taken : (F u v k : ℕ) → is_at_or_beyond u v (turned k (found F u v k).at) ≡ true → found F u v (k + 1) ≡ record { at = turned k (found F u v k).at; angle = (found F u v k).angle + 2 ^ (F - (k + 1)) }
unfolding found
found_taken F u v k t =
    let e : k + 1 ≡ suc k = omega arith in
    rw e (ap (λ (b : Bool). if b then record { at = turned k (found F u v k).at; angle = (found F u v k).angle + 2 ^ (F - suc k) } else found F u v k) t)

pub found_left : (F u v k : ℕ) → is_at_or_beyond u v (turned k (found F u v k).at) ≡ false → found F u v (k + 1) ≡ found F u v k
unfolding found
found_left F u v k t =
    let e : k + 1 ≡ suc k = omega arith in
    rw e (ap (λ (b : Bool). if b then record { at = turned k (found F u v k).at; angle = (found F u v k).angle + 2 ^ (F - suc k) } else found F u v k) t)

-- the angle of a point by its sides
pub atan2_zero : (F u : ℕ) (y x : ℤ) → u ≡ max (unsigned_abs x) (unsigned_abs y) → u ≡ 0 → fix_atan2 F y x ≡ pos 0
unfolding fix_atan2
atan2_zero F u y x hu z =
    let e : max (unsigned_abs x) (unsigned_abs y) ≡ 0 = sym hu ∙ z in
    ap (λ (m : ℕ). if m == 0 then pos 0 else fix_times (unfolded F (pos (found F m (min (unsigned_abs x) (unsigned_abs y)) F).angle) y x) half_pi) e

pub atan2_at : (F u v : ℕ) (y x : ℤ) → u ≡ max (unsigned_abs x) (unsigned_abs y) → v ≡ min (unsigned_abs x) (unsigned_abs y) → (u ≡ 0 → ⊥) → fix_atan2 F y x ≡ fix_times (unfolded F (pos (found F u v F).angle) y x) half_pi
unfolding fix_atan2
atan2_at F u v y x hu hv some =
    let t : (u == 0) ≡ false = grind (arith, nat_tests) in
    ap (λ (m : ℕ). if m == 0 then pos 0 else fix_times (unfolded F (pos (found F m (min (unsigned_abs x) (unsigned_abs y)) F).angle) y x) half_pi) (sym hu)
    ∙ ap (λ (m : ℕ). if u == 0 then pos 0 else fix_times (unfolded F (pos (found F u m F).angle) y x) half_pi) (sym hv)
    ∙ ap (λ (b : Bool). if b then pos 0 else fix_times (unfolded F (pos (found F u v F).angle) y x) half_pi) t

pub unfolded_at : (F : ℕ) (g y x near right : ℤ) → near ≡ (if nat_lt (unsigned_abs x) (unsigned_abs y) then one F -ℤ g else g) → right ≡ (if int_lt x (pos 0) then pos (2 ^ (F + 1)) -ℤ near else near)
    → unfolded F g y x ≡ (if int_lt y (pos 0) then neg_ℤ right else right)
unfolding unfolded
unfolded_at F g y x near right hn hr =
    let e : right ≡ (if int_lt x (pos 0) then pos (2 ^ (F + 1)) -ℤ (if nat_lt (unsigned_abs x) (unsigned_abs y) then one F -ℤ g else g) else (if nat_lt (unsigned_abs x) (unsigned_abs y) then one F -ℤ g else g)) =
    subst (λ (n : ℤ). right ≡ (if int_lt x (pos 0) then pos (2 ^ (F + 1)) -ℤ n else n)) hn hr in
    sym (ap (λ (n : ℤ). if int_lt y (pos 0) then neg_ℤ n else n) e)
