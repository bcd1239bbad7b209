-- Goals of `names::name_at`.
use Rattle.fix_num.specs.declared.TheConstants.{FRACTION}
use Rattle.ctl_lexer.proofs.Exits.{name_is, name_token}
use Rattle.ctl_lexer.proofs.names.name_at.Goals as goal

pub word_of-kind-requires : goal.word_of-kind-requires
word_of-kind-requires c = name_is c.args.bytes.now c.name_length-len.result c.requires.more c.requires.begins c.name_length-len.ensures.within c.name_length-len.ensures.pass c.name_length-len.ensures.stops

pub returns : goal.returns
returns c = name_token FRACTION c.args.bytes.now c.name_length-len.result c.word_of-kind.result c.requires.more c.requires.apart c.requires.begins c.name_length-len.ensures.within c.name_length-len.ensures.pass c.name_length-len.ensures.stops c.word_of-kind.ensures
