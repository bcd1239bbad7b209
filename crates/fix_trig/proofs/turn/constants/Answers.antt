-- Goals of `turn::constants`.
use Rattle.fix_trig.proofs.Turns.{constants_at}
use Rattle.fix_trig.proofs.turn.constants.Goals as goal

pub returns-clause-cosine : goal.returns-clause-cosine
returns-clause-cosine c = (constants_at (record { root = c.root_is_floor.ensures; rounding = c.rounding_is_nearest.ensures }) c.args.k c.requires).0

pub returns-clause-sine : goal.returns-clause-sine
returns-clause-sine c = (constants_at (record { root = c.root_is_floor.ensures; rounding = c.rounding_is_nearest.ensures }) c.args.k c.requires).1
