use Rattle.ctl_program.proofs.Constants.{constant_in_range}
use Rattle.ctl_program.proofs.definitions.constant_of.Goals as goal

pub from_word-requires : goal.from_word-requires
from_word-requires c = rw (c.kind-kind.ensures, c.word.ensures) (constant_in_range c.half_keeps.ensures c.arithmetic_stays_in_range.ensures c.args.constant)
