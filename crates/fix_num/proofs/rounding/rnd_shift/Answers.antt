-- Goals of `rounding::rnd_shift`.
use Rattle.std.proofs.Common.{◌≡◌, ℕ, ℤ, pos, ◌+ℤ◌, ◌*ℤ◌, ◌+◌, ◌*◌, ◌%◌, ◌^◌, ◌≤◌, unsigned_abs, to_z, FitsSigned, arith}
use Rattle.std.proofs.lemmas.Int.{ints, to_z-of_z, to_z_pos, fits_signed_from_abs}
use Rattle.std.proofs.lemmas.Nat.{one_shl}
use Rattle.std.specs.Int.{w128, int_shr}
use Rattle.fix_num.proofs.Floor.{rnd_by_shift, shift_small}
use Rattle.fix_num.proofs.rounding.rnd_shift.Goals as goal

pub returns : goal.returns
returns c =
    let n : ℤ = c.args.n in
    let b : ℕ = c.args.bits in
    let one : 1 * 2 ^ b % 2 ^ 128 ≡ 2 ^ b = one_shl b 128 (omega arith) in
    let tp : to_z w128 (2 ^ b) ≡ pos (2 ^ b) = to_z_pos w128 (2 ^ b) (omega arith) in
    let z : ℤ = pos 2 *ℤ n +ℤ pos (2 ^ b) in
    let nf : FitsSigned w128 n = c.ranges.n in
    let twof : FitsSigned w128 (pos 2 *ℤ n) = omega (arith, ints) in
    let zf : FitsSigned w128 z = omega (arith, ints) in
    let small : unsigned_abs (int_shr z (b + 1)) ≤ unsigned_abs z = shift_small z (b + 1) in
    let sf : FitsSigned w128 (int_shr z (b + 1)) = fits_signed_from_abs w128 (int_shr z (b + 1)) (omega (arith, ints)) in
    rw (one, tp) (simp to_z-of_z (rnd_by_shift n b))
