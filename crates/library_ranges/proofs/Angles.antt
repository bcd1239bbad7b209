-- The functions of angles, and angles, are raws.
use Rattle.std.proofs.Common.{◌≡◌, ℕ, zero, suc, ℤ, pos, negsuc, neg_ℤ, ◌*ℤ◌, ◌≤ℤ◌, ◌+◌, ◌-◌, ◌*◌, ◌^◌, ◌<◌, ◌≤◌, ◌==◌, Bool, true, false, if◌then◌else◌, max, unsigned_abs, sym, subst, arith}
use Rattle.std.specs.Int.{bit_at}
use Rattle.std.proofs.Math.Nat.{mul-le-mul_left}
use Rattle.std.proofs.Math.Pow.{pow_mono}
use Rattle.std.proofs.lemmas.Int.{ints}
use Rattle.fix_num.specs.Fixed.{IsRaw, max_raw, one, rnd, RoundingKeepsBounds, SaturationClamps}
use Rattle.fix_num.specs.Ranges.{ArithmeticStaysInRange}
use Rattle.fix_trig.specs.Turn.{UnitVector, turned, direction_at}
use Rattle.fix_trig.specs.Bound.{bound, IsBounded, TurnFits, TurnsFit}
use Rattle.fix_trig.specs.Angle.{quarter_turns, quarter, within_quarter, turned_back, sine_in, cosine_in, fix_sin, fix_cos, fix_atan2, clamped_to_one, root_of_rest}
use Rattle.library_ranges.specs.Ranges.{AnglesStayInRange}
use Rattle.library_ranges.proofs.Words.{zero_raw, negated_size, either_raw}

-- ---- directions

either_within : (t : Bool) (n : ℕ) (d e : UnitVector) → IsBounded n d → IsBounded n e → IsBounded n (if t then d else e)
either_within true n d e h k = h
either_within false n d e h k = k

wider : (a b : ℕ) (d : UnitVector) → a ≤ b → IsBounded a d → IsBounded b d
wider a b d h w = record { x = omega (arith, w.x); y = omega (arith, w.y) }

-- after n turns the parts are within the bound of n
direction_within : TurnsFit 40 → (F f n : ℕ) → n ≤ 40 → IsBounded (bound n) (direction_at F f n)
unfolding direction_at bound
direction_within fits F f zero h = record { x = omega arith; y = omega arith }
direction_within fits F f (suc k) h =
    let d : UnitVector = direction_at F f k in
    let w : IsBounded (bound k) d = direction_within fits F f k (omega arith) in
    let t : TurnFits k = fits k (omega arith) in
    let e : k + 1 ≡ suc k = omega arith in
    subst (λ (n : ℕ). IsBounded (bound n) (if bit_at f (F - suc k) == 1 then turned k d else d)) e
    (either_within (bit_at f (F - suc k) == 1) (bound (k + 1)) (turned k d) d (t.keeps d w) (wider (bound k) (bound (k + 1)) d t.grows w))

first_bound : bound 0 < 2 ^ 64
unfolding bound
first_bound = omega arith

bound_small : TurnsFit 40 → (n : ℕ) → n ≤ 40 → bound n < 2 ^ 64
bound_small fits zero h = first_bound
bound_small fits (suc k) h =
    let e : k + 1 ≡ suc k = omega arith in
    let t : TurnFits k = fits k (omega arith) in
    subst (λ (n : ℕ). bound n < 2 ^ 64) e (omega (arith, t.comparing))

-- ---- sines and cosines

negated_small : (z : ℤ) (n : ℕ) → unsigned_abs z ≤ n → unsigned_abs (neg_ℤ z) ≤ n
negated_small z n h = subst (λ (m : ℕ). m ≤ n) (sym (negated_size z)) h

either_small : (t : Bool) (x y : ℤ) (n : ℕ) → unsigned_abs x ≤ n → unsigned_abs y ≤ n → unsigned_abs (if t then x else y) ≤ n
either_small true x y n h k = h
either_small false x y n h k = k

sine_small : (k n : ℕ) (d : UnitVector) → IsBounded n d → unsigned_abs (sine_in k d) ≤ n
sine_small k n d w =
    either_small (k == 0) _ _ n w.y
    (either_small (k == 1) _ _ n w.x
    (either_small (k == 2) _ _ n (negated_small d.y n w.y) (negated_small d.x n w.x)))

cosine_small : (k n : ℕ) (d : UnitVector) → IsBounded n d → unsigned_abs (cosine_in k d) ≤ n
cosine_small k n d w =
    either_small (k == 0) _ _ n w.x
    (either_small (k == 1) _ _ n (negated_small d.y n w.y)
    (either_small (k == 2) _ _ n (negated_small d.x n w.x) w.y))

-- a number of at most m times d, rounded by d
rounded_small : RoundingKeepsBounds → (z : ℤ) (d m : ℕ) → 0 < d → unsigned_abs z ≤ m * d → (neg_ℤ (pos m) ≤ℤ rnd z (pos d)) × (rnd z (pos d) ≤ℤ pos m)
rounded_small law z d zero some h = law z (pos d) (neg_ℤ (pos 0)) (pos 0) (omega (arith, ints)) (low z h) (high z h) where
  low : (z : ℤ) → unsigned_abs z ≤ 0 * d → (neg_ℤ (pos 0) *ℤ pos d) ≤ℤ z
  low (pos n) h = omega (arith, ints)
  low (negsuc n) h = omega (arith, ints)

  high : (z : ℤ) → unsigned_abs z ≤ 0 * d → z ≤ℤ (pos 0 *ℤ pos d)
  high (pos n) h = omega (arith, ints)
  high (negsuc n) h = omega (arith, ints)
rounded_small law z d (suc m) some h = law z (pos d) (negsuc m) (pos (suc m)) (omega (arith, ints)) (low z h) (high z h) where
  low : (z : ℤ) → unsigned_abs z ≤ suc m * d → (negsuc m *ℤ pos d) ≤ℤ z
  low (pos n) h = omega (arith, ints)
  low (negsuc n) h = omega (arith, ints)

  high : (z : ℤ) → unsigned_abs z ≤ suc m * d → z ≤ℤ (pos (suc m) *ℤ pos d)
  high (pos n) h = omega (arith, ints)
  high (negsuc n) h = omega (arith, ints)

rounded_raw : RoundingKeepsBounds → (F n : ℕ) (z : ℤ) → F ≤ 40 → n < 2 ^ 64 → unsigned_abs z ≤ n → IsRaw (rnd z (pos (2 ^ (62 - F))))
rounded_raw law F n z f small h =
    let p : 2 ^ 22 ≤ 2 ^ (62 - F) = pow_mono {i = 22} {j = 62 - F} (omega arith) in
    let m : max_raw * 2 ^ 22 ≤ max_raw * 2 ^ (62 - F) = mul-le-mul_left max_raw p in
    rounded_small law z (2 ^ (62 - F)) max_raw (omega (arith, p)) (omega (arith, m, small, h))

pub record Laws : Type 0 where
  pub arithmetic : ArithmeticStaysInRange
  pub clamps : SaturationClamps
  pub bounds : RoundingKeepsBounds
  pub turns : TurnsFit 40

module _ (laws : Laws) (F : ℕ) (f : F ≤ 40) where
  sin_raw : (x : ℤ) → IsRaw (fix_sin F x)
  sin_raw x =
      let q : ℤ = quarter_turns x in
      rounded_raw laws.bounds F (bound F) (sine_in (quarter F q) (turned_back F q)) f (bound_small laws.turns F f)
      (sine_small (quarter F q) (bound F) (turned_back F q) (direction_within laws.turns F (within_quarter F q) F f))

  cos_raw : (x : ℤ) → IsRaw (fix_cos F x)
  cos_raw x =
      let q : ℤ = quarter_turns x in
      rounded_raw laws.bounds F (bound F) (cosine_in (quarter F q) (turned_back F q)) f (bound_small laws.turns F f)
      (cosine_small (quarter F q) (bound F) (turned_back F q) (direction_within laws.turns F (within_quarter F q) F f))

  atan2_raw : (y x : ℤ) → IsRaw (fix_atan2 F y x)
  unfolding fix_atan2
  atan2_raw y x = either_raw (max (unsigned_abs x) (unsigned_abs y) == 0) _ _ zero_raw (laws.clamps _).raw

pub angles_law : Laws → AnglesStayInRange
angles_law laws F f =
    record {
      sine = sin_raw laws F f;
      cosine = cos_raw laws F f;
      tangent = λ x. (laws.arithmetic F f).quotient (fix_sin F x) (fix_cos F x);
      arc_sine = λ x. atan2_raw laws F f (clamped_to_one F x) (root_of_rest F (clamped_to_one F x));
      arc_cosine = λ x. atan2_raw laws F f (root_of_rest F (clamped_to_one F x)) (clamped_to_one F x);
      arc_tangent = λ x. atan2_raw laws F f x (one F);
      angle = atan2_raw laws F f;
    }
