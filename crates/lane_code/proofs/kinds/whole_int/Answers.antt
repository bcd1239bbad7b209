use Rattle.std.proofs.Common.{true, arith}
use Rattle.std.proofs.lemmas.Int.{ints}
use Rattle.lane_code.proofs.Wholes.{stays}
use Rattle.lane_code.proofs.kinds.whole_int.Goals as goal

pub from_raw-requires : goal.from_raw-requires
from_raw-requires c =
    let h = stays c.wholes_stay_in_range.ensures c.args.op true _ _ c.whole.result c.whole.ensures (omega (arith, ints), omega (arith, ints)) (omega (arith, ints), omega (arith, ints)) in
    let low = h.0 in
    let high = h.1 in
    (omega (arith, ints), omega (arith, ints))
