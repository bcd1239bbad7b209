use Rattle.ctl_check_laws.proofs.Defined.{fields_are_standing}
use Rattle.ctl_check_laws.proofs.laws.fields_stand.Goals as goal

pub returns : goal.returns
returns c = fields_are_standing
