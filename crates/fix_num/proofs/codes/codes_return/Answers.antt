-- Goals of `codes::codes_return`.
use Rattle.fix_num.proofs.Returns.{codes_return}
use Rattle.fix_num.proofs.codes.codes_return.Goals as goal

pub returns : goal.returns
returns c = codes_return
