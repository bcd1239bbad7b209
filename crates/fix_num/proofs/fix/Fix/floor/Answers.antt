-- Goals of `fix::Fix::floor`.
use Rattle.std.proofs.Common.{◌≡◌, ℤ, ◌*ℤ◌, ◌≤◌, unsigned_abs, FitsSigned, ap, ◌∙◌, w64, arith}
use Rattle.std.proofs.lemmas.Int.{ints, to_z-of_z}
use Rattle.std.specs.Int.{w128, int_shr, int_div_euclid}
use Rattle.fix_num.specs.declared.TheConstants.{FRACTION}
use Rattle.fix_num.specs.Fixed.{sat, one}
use Rattle.fix_num.proofs.Floor.{shift_floor, shift_small}
use Rattle.fix_num.proofs.fix.Fix.floor.Goals as goal

pub returns : goal.returns
returns c =
    let a : ℤ = c.self.inside.raw in
    let af : FitsSigned w64 a = grind (arith, ints, c.self.invariant.0, c.self.invariant.1) in
    let af' : FitsSigned w128 a = grind (arith, ints, c.self.invariant.0, c.self.invariant.1) in
    let q : ℤ = int_shr a FRACTION in
    let small : unsigned_abs q ≤ unsigned_abs a = shift_small a FRACTION in
    let qf : FitsSigned w128 q = omega (arith, ints) in
    let pf : FitsSigned w128 (q *ℤ one FRACTION) = omega (arith, ints) in
    let s = simp to_z-of_z at c.saturated.ensures in
    let e : q ≡ int_div_euclid a (one FRACTION) = shift_floor a FRACTION in
    let m : q *ℤ one FRACTION ≡ one FRACTION *ℤ int_div_euclid a (one FRACTION) = omega (arith, ints) in
    s ∙ ap sat m ∙ ap (λ (x : ℤ). sat (one FRACTION *ℤ int_div_euclid x (one FRACTION))) c.self.view_is
