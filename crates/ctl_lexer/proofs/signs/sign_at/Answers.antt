-- Goals of `signs::sign_at`.
use Rattle.fix_num.specs.declared.TheConstants.{FRACTION}
use Rattle.ctl_lexer.proofs.Exits.{double_token, single_token, no_token_here}
use Rattle.ctl_lexer.proofs.signs.sign_at.Goals as goal

pub returns-in-Some : goal.returns-in-Some
returns-in-Some c = double_token FRACTION c.args.bytes.now c.in-Some.sign c.requires.apart c.requires.no_text c.requires.no_name c.requires.no_number c.in-Some.ensures

pub returns-in-Some-single_sign : goal.returns-in-Some-single_sign
returns-in-Some-single_sign c = single_token FRACTION c.args.bytes.now c.in-Some-single_sign.sign c.requires.more c.requires.apart c.requires.no_text c.requires.no_name c.requires.no_number c.in_default.ensures c.in-Some-single_sign.ensures

pub returns-then-bytes-ge128 : goal.returns-then-bytes-ge128
returns-then-bytes-ge128 c = (no_token_here FRACTION c.args.bytes.now c.requires.more c.requires.no_blank c.requires.apart c.requires.no_text c.requires.no_name c.requires.no_number c.in_default.ensures c.in_default-single_sign.ensures, c.if-bytes-ge128.true)

pub returns : goal.returns
returns c = (no_token_here FRACTION c.args.bytes.now c.requires.more c.requires.no_blank c.requires.apart c.requires.no_text c.requires.no_name c.requires.no_number c.in_default.ensures c.in_default-single_sign.ensures, (c.requires.apart, c.requires.no_text, c.requires.no_number, c.if-bytes-ge128.false))
