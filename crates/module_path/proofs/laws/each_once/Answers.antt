use Rattle.module_path.proofs.Once.{each_once}
use Rattle.module_path.proofs.laws.each_once.Goals as goal

pub returns : goal.returns
returns c = each_once
