-- Goals of `decimal::digits_grow`.
use Rattle.fix_num.proofs.Number.{digits_law}
use Rattle.fix_num.proofs.decimal.digits_grow.Goals as goal

pub returns : goal.returns
returns c = digits_law
