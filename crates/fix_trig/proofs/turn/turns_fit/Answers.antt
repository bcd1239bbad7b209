-- Goals of `turn::turns_fit`.
use Rattle.fix_trig.proofs.Bounds.{turns_fit}
use Rattle.fix_trig.proofs.turn.turns_fit.Goals as goal

pub returns : goal.returns
returns c = turns_fit (record { root = c.root_is_floor.ensures; rounding = c.rounding_is_nearest.ensures })
