-- Goals of `names::find`.
use Rattle.ctl_stdlib.proofs.Apart.{no_row}
use Rattle.ctl_stdlib.proofs.names.find.Goals as goal

pub returns-in-None : goal.returns-in-None
returns-in-None c = no_row c.args.name.now c.in-None.ensures
