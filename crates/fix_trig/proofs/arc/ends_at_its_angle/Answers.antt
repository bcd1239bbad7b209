-- Goals of `arc::ends_at_its_angle`.
use Rattle.fix_trig.proofs.Reached.{ends_at_its_angle}
use Rattle.fix_trig.proofs.arc.ends_at_its_angle.Goals as goal

pub returns : goal.returns
returns c = ends_at_its_angle
