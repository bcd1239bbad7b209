-- Goals of `arc::clamped_to_one`.
use Rattle.std.proofs.Common.{rules}
use Rattle.fix_num.specs.Fixed.{clamped}
use Rattle.fix_trig.proofs.arc.clamped_to_one.Goals as goal

pub returns : goal.returns
unfolding clamped
returns c = search rules
