use Rattle.ctl_check_laws.proofs.Fitting.{stated_sizes_fit}
use Rattle.ctl_check_laws.proofs.taking.stated_sizes_fit.Goals as goal

pub returns : goal.returns
returns c = stated_sizes_fit
