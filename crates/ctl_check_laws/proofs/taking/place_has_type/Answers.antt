use Rattle.ctl_check_laws.proofs.Conclusion.{place_has_type}
use Rattle.ctl_check_laws.proofs.taking.place_has_type.Goals as goal

pub returns : goal.returns
returns c = place_has_type
