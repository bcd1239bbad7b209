use Rattle.ctl_check_laws.proofs.Fitting.{conversion_has_type}
use Rattle.ctl_check_laws.proofs.taking.conversion_has_type.Goals as goal

pub returns : goal.returns
returns c = conversion_has_type
