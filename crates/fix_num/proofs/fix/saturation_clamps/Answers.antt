-- Goals of `fix::saturation_clamps`.
use Rattle.fix_num.proofs.Bounds.{clamp_law}
use Rattle.fix_num.proofs.fix.saturation_clamps.Goals as goal

pub returns : goal.returns
returns c = clamp_law
