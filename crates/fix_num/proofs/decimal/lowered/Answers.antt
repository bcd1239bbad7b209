-- Goals of `decimal::lowered`.
use Rattle.std.proofs.Common.{FitsSigned, arith, ap, ◌∙◌, sym}
use Rattle.std.proofs.lemmas.Int.{ints, to_z-of_z}
use Rattle.std.specs.Int.{w128}
use Rattle.fix_num.proofs.Power.{lower_none}
use Rattle.fix_num.specs.Fixed.{sat}
use Rattle.fix_num.proofs.decimal.lowered.Goals as goal

pub rnd-requires-clause-room : goal.rnd-requires-clause-room
rnd-requires-clause-room c =
    let f : FitsSigned w128 c.args.n = c.ranges.n in
    let h : FitsSigned w128 c.power_of_ten.result = record { sfits = c.power_of_ten.type_inv } in
    simp to_z-of_z (omega (arith, ints, c.power_of_ten.ensures.most, c.requires.room))

pub returns-then-places : goal.returns-then-places
returns-then-places c = c.saturated.ensures ∙ ap sat (sym (lower_none c.args.n c.args.places c.requires.room c.if-places.true))
