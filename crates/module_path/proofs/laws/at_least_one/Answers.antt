use Rattle.module_path.proofs.AtLeastOne.{at_least_one}
use Rattle.module_path.proofs.laws.at_least_one.Goals as goal

pub returns : goal.returns
returns c = at_least_one c.tokens_or_fault.ensures c.module_or_fault.ensures
