use Rattle.ctl_program.proofs.Growing.{struct_signatures, constant_signatures}
use Rattle.ctl_program.proofs.laws.signatures_stay.Goals as goal

pub returns : goal.returns
returns c = record { struct = struct_signatures; constant = constant_signatures }
