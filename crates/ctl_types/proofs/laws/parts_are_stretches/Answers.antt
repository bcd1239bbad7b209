use Rattle.ctl_types.proofs.Stretches.{stretch}
use Rattle.ctl_types.proofs.laws.parts_are_stretches.Goals as goal

pub returns : goal.returns
returns c = λ path v part h. stretch path v part h
