-- The laws of floor division, rounding and saturation.
use Rattle.std.proofs.Common.{◌≡◌, ℤ, suc, pos, negsuc, ◌+ℤ◌, ◌*ℤ◌, ◌<ℤ◌, ◌≤ℤ◌, ◌<◌, arith}
use Rattle.std.proofs.Math.Nat.{lt_of_mul-lt-mul_right}
use Rattle.std.proofs.lemmas.Int.{ints}
use Rattle.fix_num.specs.Fixed.{rnd, FloorIsGreatest, RoundingIsNearest, RoundingKeepsBounds, SaturationClamps}
use Rattle.fix_num.proofs.Floor.{floor_low, floor_high, floor_unique, one_more, rnd_low, rnd_high, rnd_from}
use Rattle.fix_num.proofs.Power.{sat_raw, sat_in, sat_high, sat_low}

pub floor_law : FloorIsGreatest
floor_law n (pos d) h =
    let some : 0 < d = omega (arith, ints) in
    (record { low = floor_low n d some; high = floor_high n d some }, λ q f. floor_unique n q d some f.low f.high)
floor_law n (negsuc d) h = absurd (omega (arith, ints))

pub nearest_law : RoundingIsNearest
nearest_law n d h = (record { low = rnd_low n d h; high = rnd_high n d h }, λ q r. rnd_from n d q h r.low r.high)

pub clamp_law : SaturationClamps
clamp_law z = record { raw = sat_raw z; same = sat_in z; above = sat_high z; below = sat_low z }

-- a factor above 0 is taken from both sides
less_by : (a b d : ℤ) → pos 0 <ℤ d → (a *ℤ d) <ℤ (b *ℤ d) → a <ℤ b
less_by (pos a) (pos b) (pos d) h l = let f : a < b = lt_of_mul-lt-mul_right d (omega (arith, ints)) in omega (arith, ints)
less_by (negsuc a) (pos b) (pos d) h l = omega (arith, ints)
less_by (pos a) (negsuc b) (pos d) h l = absurd (omega (arith, ints))
less_by (negsuc a) (negsuc b) (pos d) h l = let f : suc b < suc a = lt_of_mul-lt-mul_right d (omega (arith, ints)) in omega (arith, ints)
less_by a b (negsuc d) h l = absurd (omega (arith, ints))

pub bounds_law : RoundingKeepsBounds
bounds_law n d low high h a b =
    let l : (pos 2 *ℤ (rnd n d *ℤ d)) ≤ℤ (pos 2 *ℤ n +ℤ d) = rnd_low n d h in
    let g : (pos 2 *ℤ n +ℤ d) <ℤ (pos 2 *ℤ (rnd n d *ℤ d) +ℤ pos 2 *ℤ d) = rnd_high n d h in
    let e : ((rnd n d +ℤ pos 1) *ℤ d) ≡ (rnd n d *ℤ d +ℤ d) = one_more (rnd n d) d in
    let f : ((high +ℤ pos 1) *ℤ d) ≡ (high *ℤ d +ℤ d) = one_more high d in
    let x : low <ℤ (rnd n d +ℤ pos 1) = less_by low (rnd n d +ℤ pos 1) d h (omega (arith, ints)) in
    let y : rnd n d <ℤ (high +ℤ pos 1) = less_by (rnd n d) (high +ℤ pos 1) d h (omega (arith, ints)) in
    (omega (arith, ints), omega (arith, ints))
