-- Goals of `texts::text_at`.
use Rattle.fix_num.specs.declared.TheConstants.{FRACTION}
use Rattle.ctl_lexer.proofs.Exits.{text_token}
use Rattle.ctl_lexer.proofs.texts.text_at.Goals as goal

pub returns-in-Some : goal.returns-in-Some
returns-in-Some c = let t = c.in-Some.ensures in text_token FRACTION c.args.bytes.now c.in-Some.len c.requires.begins t.0 t.1
