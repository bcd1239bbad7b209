use Rattle.std.proofs.Common.{◌≡◌, ℕ, ℤ, pos, negsuc, ◌-ℤ◌, ◌+ℤ◌, ◌*ℤ◌, ◌+◌, ◌-◌, ◌*◌, ◌%◌, ◌^◌, ◌<◌, FitsSigned, unsigned_abs, to_z, of_z, lit<, ap, ◌∙◌, w64, arith}
use Rattle.std.specs.Int.{leading_zeros}
use Rattle.std.proofs.lemmas.Int.{ints, to_z-of_z, to_z_pos, fits_signed_mul}
use Rattle.std.proofs.Math.Nat.{mod-eq_of_lt}
use Rattle.fix_num.specs.declared.TheConstants.{FRACTION}
use Rattle.fix_num.specs.Fixed.{one}
use Rattle.fix_elem.specs.Elementary.{exponent, floor_log2}
use Rattle.fix_elem.proofs.FloorLog.{HasZeros, zeros_of}
use Rattle.fix_elem.proofs.logarithms.log2_above.Goals as goal

pub overflow_sub-zeros : goal.overflow_sub-zeros
overflow_sub-zeros c = (zeros_of c.args.n c.requires.positive c.requires.small).some

pub exponent-requires : goal.exponent-requires
exponent-requires c =
    let n : ℕ = c.args.n in
    let h : HasZeros n (leading_zeros w64 n) = zeros_of n c.requires.positive c.requires.small in
    let m : n * 2 ^ (leading_zeros w64 n - 1) % 2 ^ 64 ≡ n * 2 ^ (leading_zeros w64 n - 1) = mod-eq_of_lt h.high in
    omega (arith, m, h.low)

sum_fits : (y : ℤ) (f : ℕ) → unsigned_abs y < 2 ^ 7 → f < 2 ^ FRACTION → FitsSigned w64 (y *ℤ one FRACTION +ℤ pos f)
sum_fits (pos y) f h small = omega (arith, ints)
sum_fits (negsuc y) f h small = omega (arith, ints)

-- the parts put together in 64 bits
put_together : (z b f : ℕ) → z + b ≡ 63 → f < 2 ^ FRACTION
    → to_z w64 (of_z w64 (to_z w64 (of_z w64 (to_z w64 (of_z w64 (to_z w64 (of_z w64 (pos 63 -ℤ to_z w64 z)) -ℤ pos FRACTION)) *ℤ one FRACTION)) +ℤ to_z w64 f)) ≡ (pos b -ℤ pos FRACTION) *ℤ one FRACTION +ℤ pos f
put_together z b f sum small =
    let zz : to_z w64 z ≡ pos z = to_z_pos w64 z (omega (arith, sum)) in
    let ff : to_z w64 f ≡ pos f = to_z_pos w64 f (omega (arith, small)) in
    let a : pos 63 -ℤ to_z w64 z ≡ pos b = omega (arith, ints, zz, sum) in
    let bf : FitsSigned w64 (pos b) = omega (arith, ints, sum) in
    let df : FitsSigned w64 (pos b -ℤ pos FRACTION) = omega (arith, ints, sum) in
    let pf : FitsSigned w64 ((pos b -ℤ pos FRACTION) *ℤ one FRACTION) = fits_signed_mul w64 (pos b -ℤ pos FRACTION) (one FRACTION) (2 ^ 7) (2 ^ FRACTION) (omega (arith, ints, sum)) (omega (arith, ints)) (lit< tt) in
    let sf : FitsSigned w64 ((pos b -ℤ pos FRACTION) *ℤ one FRACTION +ℤ pos f) = sum_fits (pos b -ℤ pos FRACTION) f (omega (arith, ints, sum)) small in
    rw (a, ff) (rw (to_z-of_z w64 (pos b) bf) (rw (to_z-of_z w64 (pos b -ℤ pos FRACTION) df) (rw (to_z-of_z w64 ((pos b -ℤ pos FRACTION) *ℤ one FRACTION) pf) (to_z-of_z w64 ((pos b -ℤ pos FRACTION) *ℤ one FRACTION +ℤ pos f) sf))))

pub returns : goal.returns
returns c =
    let n : ℕ = c.args.n in
    let z : ℕ = leading_zeros w64 n in
    let h : HasZeros n z = zeros_of n c.requires.positive c.requires.small in
    let m : n * 2 ^ (z - 1) % 2 ^ 64 ≡ n * 2 ^ (z - 1) = mod-eq_of_lt h.high in
    let s : z - 1 ≡ 62 - floor_log2 n = omega (arith, h.sum) in
    let f : c.exponent.result ≡ exponent FRACTION (n * 2 ^ (62 - floor_log2 n)) = c.exponent.ensures.value ∙ ap (exponent FRACTION) (m ∙ ap (λ (x : ℕ). n * 2 ^ x) s) in
    put_together z (floor_log2 n) c.exponent.result h.sum c.exponent.ensures.small ∙ ap (λ (x : ℕ). (pos (floor_log2 n) -ℤ pos FRACTION) *ℤ one FRACTION +ℤ pos x) f
