use Rattle.ctl_check_laws.proofs.Fitting.{fitting_has_type}
use Rattle.ctl_check_laws.proofs.taking.fitting_has_type.Goals as goal

pub returns : goal.returns
returns c = fitting_has_type
