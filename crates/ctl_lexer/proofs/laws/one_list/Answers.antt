-- Goals of `laws::one_list`.
use Rattle.ctl_lexer.proofs.OneList.{one_list}
use Rattle.ctl_lexer.proofs.laws.one_list.Goals as goal

pub returns : goal.returns
returns c = one_list c.spells_once.ensures
