-- Goals of `arc::is_at_or_beyond`.
use Rattle.fix_trig.specs.Means.{vector_of}
use Rattle.fix_trig.proofs.Steps.{beyond_is}
use Rattle.fix_trig.proofs.arc.is_at_or_beyond.Goals as goal

pub returns : goal.returns
returns c = beyond_is c.args.u c.args.v (vector_of c.args.direction) c.requires.long c.requires.short c.requires.within
