-- Goals of `decimal::spells_once`.
use Rattle.fix_num.proofs.Cut.{spelt_once}
use Rattle.fix_num.proofs.decimal.spells_once.Goals as goal

pub returns : goal.returns
returns c = spelt_once
