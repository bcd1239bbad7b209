-- Goals of `rounding::split`.
use Rattle.std.proofs.Common.{ℤ, ◌-ℤ◌, ◌*ℤ◌, ◌≤◌, unsigned_abs, FitsSigned, arith}
use Rattle.std.proofs.lemmas.Int.{ints, to_z-of_z, quot_fits}
use Rattle.std.specs.Int.{w128}
use Rattle.std.specs.Prelude.{int_div}
use Rattle.fix_num.proofs.Floor.{Toward, toward, quotient_small}
use Rattle.fix_num.proofs.rounding.split.Goals as goal

pub returns : goal.returns
returns c =
    let n : ℤ = c.args.n in
    let d : ℤ = c.args.d in
    let nf : FitsSigned w128 n = c.ranges.n in
    let df : FitsSigned w128 d = c.ranges.d in
    let t : Toward n d (n -ℤ int_div n d *ℤ d) = toward n d c.requires.positive in
    let q : unsigned_abs (int_div n d) ≤ unsigned_abs n = quotient_small n d in
    let qf : FitsSigned w128 (int_div n d) = quot_fits w128 n d nf c.requires.positive in
    let s : unsigned_abs (int_div n d *ℤ d) ≤ unsigned_abs n = t.small in
    let pf : FitsSigned w128 (int_div n d *ℤ d) = omega (arith, ints) in
    let rf : FitsSigned w128 (n -ℤ int_div n d *ℤ d) = omega (arith, ints) in
    simp to_z-of_z (record { parts = t.parts; small = omega arith; high = t.high; low = t.low })
