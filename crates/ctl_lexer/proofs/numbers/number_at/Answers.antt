-- Goals of `numbers::number_at`.
use Rattle.fix_num.specs.declared.TheConstants.{FRACTION}
use Rattle.ctl_lexer.proofs.Longest.{number_spelling}
use Rattle.ctl_lexer.proofs.Exits.{number_token, bad_number}
use Rattle.ctl_lexer.proofs.numbers.number_at.Goals as goal

pub returns-in-Some : goal.returns-in-Some
returns-in-Some c =
    let len = c.number_length-len.ensures in
    number_token FRACTION c.args.bytes.now c.number_length-len.result c.in-Some.kind c.requires.apart c.requires.begins len.some len.within
    (number_spelling c.args.bytes.now c.number_length-len.result c.requires.begins len.some len.within len.pass len.stops) len.stops c.in-Some.ensures

pub returns : goal.returns
returns c =
    let len = c.number_length-len.ensures in (
      bad_number FRACTION c.args.bytes.now c.number_length-len.result c.requires.more c.requires.apart c.requires.begins len.some len.within
          (number_spelling c.args.bytes.now c.number_length-len.result c.requires.begins len.some len.within len.pass len.stops) len.stops c.in_default.ensures,
      c.requires.begins,
    )
