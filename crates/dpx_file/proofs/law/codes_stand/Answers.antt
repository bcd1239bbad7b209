use Rattle.dpx_file.proofs.Stand.{codes_stand_lem}
use Rattle.dpx_file.proofs.law.codes_stand.Goals as goal

pub returns : goal.returns
returns c = codes_stand_lem
