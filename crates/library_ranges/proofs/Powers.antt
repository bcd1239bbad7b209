-- Powers, logarithms, remainders and lengths are raws.
use Rattle.std.proofs.Common.{◌≡◌, ℕ, zero, suc, ℤ, pos, negsuc, neg_ℤ, ◌+◌, ◌*◌, ◌/◌, ◌%◌, ◌^◌, ◌<◌, ◌≤◌, ◌==◌, ◌∷◌, length, Bool, true, false, if◌then◌else◌, int_lt, unsigned_abs, inl, inr, sym, subst, arith}
use Rattle.std.specs.Prelude.{int_rem}
use Rattle.std.specs.Int.{bit_at, int_rem_euclid}
use Rattle.std.proofs.Math.Nat.{div-mul-le_self, le_of_mul-le-mul_right, mul-le-mul_left, mul-le-mul_right, mod-le}
use Rattle.std.proofs.Math.Pow.{pow_pos}
use Rattle.std.proofs.lemmas.Bool.{cases_lt}
use Rattle.std.proofs.lemmas.Int.{ints}
use Rattle.fix_num.specs.Fixed.{IsRaw, max_raw, one, root, RootIsFloor, RoundingKeepsBounds, SaturationClamps}
use Rattle.fix_num.specs.Ranges.{ArithmeticStaysInRange}
use Rattle.fix_elem.specs.Elementary.{roots_from, power_from, power, shifted, exp2, exp, log, pow10, log10, pow_above, pow_zero, pow_below, pow, hypot, fmod}
use Rattle.library_ranges.specs.Ranges.{ElementaryStaysInRange}
use Rattle.library_ranges.proofs.Words.{zero_raw, unit_raw, raw_of_size, size_of_raw, negated_size, either_raw}

-- ---- the power of a fraction

-- a root of a number from 2^124 on is 2^62 or more
root_above_one : RootIsFloor → (before : ℕ) → 2 ^ 62 ≤ before → 2 ^ 62 ≤ root (before * 2 ^ 62)
root_above_one law before h = by (root (before * 2 ^ 62)) (law (before * 2 ^ 62)).1 where
  by : (r : ℕ) → before * 2 ^ 62 < (r + 1) * (r + 1) → 2 ^ 62 ≤ r
  by r high = elim (cases_lt r (2 ^ 62)) as (λ _. 2 ^ 62 ≤ r) [
    | inl lt ↦
        let a : (r + 1) * (r + 1) ≤ 2 ^ 62 * (r + 1) = mul-le-mul_right {m = r + 1} {n = 2 ^ 62} (r + 1) (omega arith) in
        let b : 2 ^ 62 * (r + 1) ≤ 2 ^ 62 * 2 ^ 62 = mul-le-mul_left {m = r + 1} {n = 2 ^ 62} (2 ^ 62) (omega arith) in
        absurd (omega (arith, a, b, h, high))
    | inr le ↦ le
  ]

-- a constant is at most the one before it
falling : (before c : ℕ) → 2 ^ 62 ≤ c → c * c ≤ before * 2 ^ 62 → c ≤ before
falling before c low h =
    let a : c * 2 ^ 62 ≤ c * c = mul-le-mul_left c low in
    le_of_mul-le-mul_right {m = c} {n = before} {k = 2 ^ 62} (omega arith) (omega arith)

-- where a constant is multiplied in, the product with it is no more than the product with the one before it
taken : (e before c : ℕ) → c * c ≤ before * 2 ^ 62 → e * c / 2 ^ 62 * c ≤ e * before
taken e before c h =
    let q : e * c / 2 ^ 62 * 2 ^ 62 ≤ e * c = div-mul-le_self (e * c) (2 ^ 62) in
    let a : e * c / 2 ^ 62 * 2 ^ 62 * c ≤ e * c * c = mul-le-mul_right c q in
    let b : e * (c * c) ≤ e * (before * 2 ^ 62) = mul-le-mul_left e h in
    le_of_mul-le-mul_right {m = e * c / 2 ^ 62 * c} {n = e * before} {k = 2 ^ 62} (omega arith) (omega arith)

either_below : (t : Bool) (x y c n : ℕ) → x * c < n → y * c < n → (if t then x else y) * c < n
either_below true x y c n h k = h
either_below false x y c n h k = k

-- the later constants together make less than one step of the one before them
run_below : RootIsFloor → (n before e f : ℕ) → 2 ^ 62 ≤ before → e * before < 2 ^ 125 → power_from (roots_from n before) e f < 2 ^ 63
unfolding roots_from
run_below law zero before e f low h = let a : e * 2 ^ 62 ≤ e * before = mul-le-mul_left e low in omega arith
run_below law (suc n) before e f low h =
    let c : ℕ = root (before * 2 ^ 62) in
    let square : c * c ≤ before * 2 ^ 62 = (law (before * 2 ^ 62)).0 in
    let above : 2 ^ 62 ≤ c = root_above_one law before low in
    let t : e * c / 2 ^ 62 * c ≤ e * before = taken e before c square in
    let l : e * c ≤ e * before = mul-le-mul_left e (falling before c above square) in
    run_below law n c (if bit_at f (length (roots_from n c)) == 1 then e * c / 2 ^ 62 else e) f above
    (either_below (bit_at f (length (roots_from n c)) == 1) (e * c / 2 ^ 62) e c (2 ^ 125) (omega (arith, t)) (omega (arith, l)))

-- the root of 2, with 62 fraction bits
abbrev first_root : ℕ
first_root = 6521908912666391106

first_is : RootIsFloor → root (2 ^ 63 * 2 ^ 62) ≡ first_root
first_is law = (law (2 ^ 63 * 2 ^ 62)).2 first_root (omega arith) (omega arith)

pub power_below : RootIsFloor → (F f : ℕ) → power F f < 2 ^ 63
unfolding power roots_from
power_below law zero f = omega arith
power_below law (suc F) f =
    subst (λ (c : ℕ). power_from (c ∷ roots_from F c) (2 ^ 62) f < 2 ^ 63) (sym (first_is law))
    (run_below law F first_root (if bit_at f (length (roots_from F first_root)) == 1 then first_root else 2 ^ 62) f (omega arith)
    (either_below (bit_at f (length (roots_from F first_root)) == 1) first_root (2 ^ 62) first_root (2 ^ 125) (omega arith) (omega arith)))

-- ---- powers

shifted_raw : RoundingKeepsBounds → (e : ℕ) (shift : ℤ) → e < 2 ^ 63 → IsRaw (shifted e shift)
shifted_raw law e (pos k) h =
    let p : 0 < 2 ^ k = pow_pos k in
    let m : max_raw * 1 ≤ max_raw * 2 ^ k = mul-le-mul_left max_raw p in
    let b = law (pos e) (pos (2 ^ k)) (pos 0) (pos max_raw) (omega (arith, ints, p)) (omega (arith, ints)) (omega (arith, ints, m)) in
    (omega (arith, ints, b.0), b.1)
shifted_raw law e (negsuc k) h = (omega (arith, ints), omega (arith, ints))

pub record Laws : Type 0 where
  pub arithmetic : ArithmeticStaysInRange
  pub clamps : SaturationClamps
  pub bounds : RoundingKeepsBounds
  pub roots : RootIsFloor

module _ (laws : Laws) where
  exp2_raw : (F : ℕ) (x : ℤ) → IsRaw (exp2 F x)
  unfolding exp2
  exp2_raw F x = shifted_raw laws.bounds (power F (unsigned_abs (int_rem_euclid x (one F)))) _ (power_below laws.roots F _)

  exp_raw : (F : ℕ) (x : ℤ) → IsRaw (exp F x)
  unfolding exp
  exp_raw F x = exp2_raw F _

  pow10_raw : (F : ℕ) (x : ℤ) → IsRaw (pow10 F x)
  unfolding pow10
  pow10_raw F x = exp2_raw F _

  log_raw : (F : ℕ) (x : ℤ) → IsRaw (log F x)
  unfolding log
  log_raw F x = (laws.clamps _).raw

  log10_raw : (F : ℕ) (x : ℤ) → IsRaw (log10 F x)
  unfolding log10
  log10_raw F x = (laws.clamps _).raw

  hypot_raw : (x y : ℤ) → IsRaw (hypot x y)
  unfolding hypot
  hypot_raw x y = (laws.clamps _).raw

  pow_zero_raw : (F : ℕ) (y : ℤ) → F ≤ 40 → IsRaw (pow_zero F y)
  pow_zero_raw F y h =
      either_raw (int_lt (pos 0) y) _ _ zero_raw
      (either_raw (int_lt y (pos 0)) _ _ (omega (arith, ints), omega (arith, ints)) (unit_raw F h))

  pow_below_raw : (F : ℕ) (x y : ℤ) → F ≤ 40 → IsRaw (pow_below F x y)
  pow_below_raw F x y h =
      either_raw (unsigned_abs (int_rem_euclid y (pos (2 ^ (F + 1)))) == 0) _ _ (exp2_raw F _)
      (either_raw (unsigned_abs (int_rem_euclid y (one F)) == 0) _ _ ((laws.arithmetic F h).negative (pow_above F (neg_ℤ x) y) (exp2_raw F _)) zero_raw)

  pow_raw : (F : ℕ) (x y : ℤ) → F ≤ 40 → IsRaw (pow F x y)
  unfolding pow
  pow_raw F x y h =
      either_raw (int_lt (pos 0) x) _ _ (exp2_raw F _)
      (either_raw (int_lt x (pos 0)) _ _ (pow_below_raw F x y h) (pow_zero_raw F y h))

-- ---- remainders

rest_small : (x y : ℤ) → unsigned_abs (int_rem x y) ≤ unsigned_abs x
rest_small (pos a) (pos b) = mod-le a b
rest_small (pos a) (negsuc b) = mod-le a (suc b)
rest_small (negsuc a) (pos b) = subst (λ (n : ℕ). n ≤ suc a) (sym (negated_size (pos (suc a % b)))) (mod-le (suc a) b)
rest_small (negsuc a) (negsuc b) = subst (λ (n : ℕ). n ≤ suc a) (sym (negated_size (pos (suc a % suc b)))) (mod-le (suc a) (suc b))

fmod_raw : (x y : ℤ) → IsRaw x → IsRaw (fmod x y)
unfolding fmod
fmod_raw x y h =
    let r : unsigned_abs (int_rem x y) ≤ unsigned_abs x = rest_small x y in
    let s : unsigned_abs x ≤ max_raw = size_of_raw x h in
    either_raw (unsigned_abs y == 0) _ _ zero_raw (raw_of_size (int_rem x y) (omega (arith, r, s)))

pub elementary_law : Laws → ElementaryStaysInRange
elementary_law laws F h =
    record {
      natural_power = exp_raw laws F;
      natural_logarithm = log_raw laws F;
      decimal_power = pow10_raw laws F;
      decimal_logarithm = log10_raw laws F;
      power = λ x y. pow_raw laws F x y h;
      remainder = fmod_raw;
      hypotenuse = hypot_raw laws;
    }
