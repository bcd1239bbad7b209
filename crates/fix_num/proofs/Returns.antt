-- A code that is read and written returns.
use Rattle.std.proofs.Common.{◌≡◌, ℕ, ℤ, pos, ◌*ℤ◌, ◌+ℤ◌, ◌<ℤ◌, ◌≤ℤ◌, ◌-◌, ◌*◌, ◌^◌, ◌<◌, ◌≤◌, ap, ◌∙◌, arith}
use Rattle.std.proofs.Math.Nat.{mul-le-mul_right}
use Rattle.std.proofs.Math.Pow.{pow_mono}
use Rattle.std.proofs.lemmas.Int.{ints, clamps}
use Rattle.fix_num.specs.Fixed.{rnd, clamped, CodesReturn}
use Rattle.fix_num.proofs.Floor.{rnd_low, rnd_high, rnd_range, rnd_from}

within : (z low high : ℤ) → low ≤ℤ z → z ≤ℤ high → clamped z low high ≡ z
unfolding clamped
within z low high h k = omega (arith, ints, clamps)

back : (x : ℤ) (u m c : ℕ) → 0 < u → m < u → (pos 2 *ℤ (x *ℤ pos m)) ≤ℤ (pos 2 *ℤ pos (c * u) +ℤ pos m) → (pos 2 *ℤ pos (c * u) +ℤ pos m) <ℤ (pos 2 *ℤ (x *ℤ pos m) +ℤ pos 2 *ℤ pos m) → rnd (x *ℤ pos m) (pos u) ≡ pos c
back x u m c some less low high = rnd_from (x *ℤ pos m) (pos u) (pos c) (omega (arith, ints)) (omega (arith, ints)) (omega (arith, ints))

pub codes_return : CodesReturn
codes_return F b c some fits code =
    let u : ℕ = 2 ^ F in
    let m : ℕ = 2 ^ b - 1 in
    let p : 2 ^ 1 ≤ 2 ^ b = pow_mono {i = 1} {j = b} some in
    let q : 2 ^ b ≤ 2 ^ F = pow_mono {i = b} {j = F} fits in
    let n : ℤ = pos c *ℤ pos u in
    let d : pos 0 <ℤ pos m = omega (arith, ints) in
    let k : c * u ≤ m * u = mul-le-mul_right u (omega arith) in
    let r : (pos 0 ≤ℤ rnd n (pos m)) × (rnd n (pos m) ≤ℤ pos u) = rnd_range n (pos m) (pos u) d (omega (arith, ints)) (omega (arith, ints)) in
    ap (λ (x : ℤ). rnd (x *ℤ pos m) (pos u)) (within (rnd n (pos m)) (pos 0) (pos u) r.0 r.1)
    ∙ back (rnd n (pos m)) u m c (omega arith) (omega arith) (rnd_low n (pos m) d) (rnd_high n (pos m) d)
