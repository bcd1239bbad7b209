-- Goals of `fix::Fix::times`.
use Rattle.std.proofs.Common.{◌≡◌, ℤ, pos, ◌*ℤ◌, ◌^◌, FitsSigned, ap, ◌∙◌, lit<, w64, arith}
use Rattle.std.specs.Int.{w128}
use Rattle.std.proofs.lemmas.Int.{ints, to_z-of_z, to_z_pos, fits_signed_mul}
use Rattle.fix_num.specs.Fixed.{rnd, sat}
use Rattle.fix_num.proofs.fix.Fix.times.Goals as goal

pub returns : goal.returns
returns c =
    let a : ℤ = c.self.inside.raw in
    let q : ℤ = pos c.args.quintillionths in
    let af : FitsSigned w64 a = grind (arith, ints, c.self.invariant.0, c.self.invariant.1) in
    let af' : FitsSigned w128 a = grind (arith, ints, c.self.invariant.0, c.self.invariant.1) in
    let pf : FitsSigned w128 (a *ℤ q) = fits_signed_mul w128 a q (2 ^ 63) (2 ^ 62) (omega (arith, ints, c.self.invariant.0, c.self.invariant.1)) (omega (arith, ints)) (lit< tt) in
    let rf : FitsSigned w128 c.rnd.result = record { sfits = c.rnd.type_inv } in
    let n = rw (to_z_pos w128 c.args.quintillionths (omega arith)) at c.rnd.ensures in
    let r = simp to_z-of_z at n in
    let s = simp to_z-of_z at c.saturated.ensures in
    let v : a ≡ c.args.self = c.self.view_is in
    s ∙ ap sat r ∙ ap (λ (z : ℤ). sat (rnd (z *ℤ q) (pos (10 ^ 18)))) v
