-- Goals of `decimal::raised`.
use Rattle.std.proofs.Common.{◌≡◌, ℤ, pos, ◌*ℤ◌, ◌^◌, min, FitsSigned, ap, ◌∙◌}
use Rattle.std.proofs.lemmas.Int.{to_z-of_z}
use Rattle.std.specs.Int.{w128, saturate_signed}
use Rattle.fix_num.specs.Fixed.{sat}
use Rattle.fix_num.proofs.Power.{raise_sat}
use Rattle.fix_num.proofs.decimal.raised.Goals as goal

pub returns : goal.returns
returns c =
    let f : FitsSigned w128 c.args.n = c.ranges.n in
    let g : FitsSigned w128 c.saturating_mul.result = record { sfits = c.saturating_mul.type_inv } in
    let h : FitsSigned w128 c.power_of_ten.result = record { sfits = c.power_of_ten.type_inv } in
    let s = simp to_z-of_z at c.saturated.ensures in
    let t = simp to_z-of_z at c.saturating_mul.ensures in
    let p : c.power_of_ten.result ≡ pos (10 ^ min c.args.places 38) = c.power_of_ten.ensures.value ∙ ap (λ (k : _). pos (10 ^ k)) c.min-fitting.ensures in
    s ∙ ap sat (t ∙ ap (λ (z : ℤ). saturate_signed w128 (c.args.n *ℤ z)) p) ∙ raise_sat c.args.n c.args.places
