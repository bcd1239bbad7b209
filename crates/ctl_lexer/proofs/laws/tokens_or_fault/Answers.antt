-- Goals of `laws::tokens_or_fault`.
use Rattle.ctl_lexer.proofs.EachText.{tokens_or_fault}
use Rattle.ctl_lexer.proofs.laws.tokens_or_fault.Goals as goal

pub returns : goal.returns
returns c = tokens_or_fault c.spells_once.ensures
