use Rattle.level_laws.proofs.Enters.{enters_varying}
use Rattle.level_laws.proofs.uniform.enters_varying.Goals as goal

pub returns : goal.returns
returns c known s e = enters_varying known s e
