-- Goals of `decimal::scaled`.
use Rattle.std.proofs.Common.{pos, ◌≤ℤ◌, ◌*ℤ◌, ◌^◌, FitsSigned, ap, sym, ◌∙◌, arith}
use Rattle.std.proofs.lemmas.Int.{ints, to_z-of_z}
use Rattle.std.specs.Int.{w128}
use Rattle.fix_num.specs.Fixed.{sat}
use Rattle.fix_num.proofs.Power.{nearest_up}
use Rattle.fix_num.proofs.decimal.scaled.Goals as goal

pub returns-else-power-lt0 : goal.returns-else-power-lt0
returns-else-power-lt0 c =
    let f : FitsSigned w128 c.args.n = c.ranges.n in
    let g : FitsSigned w128 c.args.power = c.ranges.power in
    let u = simp to_z-of_z at c.unsigned_abs-else-power-lt0.ensures.value in
    let r = simp to_z-of_z at c.raised.ensures in
    let up : pos 0 ≤ℤ c.args.power = (let e = simp to_z-of_z at c.if-power-lt0.false in grind (arith, ints)) in
    r ∙ ap (λ (k : _). sat (c.args.n *ℤ pos (10 ^ k))) u ∙ ap sat (sym (nearest_up c.args.n c.args.power up))
