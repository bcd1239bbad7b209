use Rattle.std.proofs.Common.{true, arith}
use Rattle.std.proofs.lemmas.Int.{ints, to_z-of_z}
use Rattle.eval_scalars.proofs.Wholes.{stays}
use Rattle.eval_scalars.proofs.scalars.whole_ints.Goals as goal

pub overflow_cast-result : goal.overflow_cast-result
overflow_cast-result c =
    let h = stays c.wholes_stay_in_range.ensures c.args.op true _ _ c.whole.result c.whole.ensures (omega (arith, ints), omega (arith, ints)) (omega (arith, ints), omega (arith, ints)) in
    let low = h.0 in
    let high = h.1 in
    omega (arith, ints)

pub returns : goal.returns
returns c =
    let h = stays c.wholes_stay_in_range.ensures c.args.op true _ _ c.whole.result c.whole.ensures (omega (arith, ints), omega (arith, ints)) (omega (arith, ints), omega (arith, ints)) in
    let low = h.0 in
    let high = h.1 in
    grind (arith, ints, to_z-of_z)
