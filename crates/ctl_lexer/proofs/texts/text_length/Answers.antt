-- Goals of `texts::text_length`.
use Rattle.std.proofs.Common.{sym, ◌∙◌, arith}
use Rattle.ctl_lexer.proofs.Longest.{no_text_before, no_text_over, text_here}
use Rattle.ctl_lexer.proofs.texts.text_length.Goals as goal

pub returns-then-bytes-n-eq10 : goal.returns-then-bytes-n-eq10
returns-then-bytes-n-eq10 c = λ m within text. no_text_over c.args.bytes.now c.loop-n.n m c.loop-n.invariant.goes_on c.if-bytes-n-eq10.true within text

pub returns-then-not-escaped : goal.returns-then-not-escaped
returns-then-not-escaped c =
    (omega arith, text_here c.args.bytes.now c.loop-n.n (omega arith) c.loop-n-test.true c.requires.begins c.loop-n.invariant.goes_on c.loop-n.invariant.one_line c.if-bytes-n-eq34.true (sym c.loop-n.invariant.escaped ∙ c.if-not-escaped.true))

pub returns : goal.returns
returns c = λ m within text. no_text_before c.args.bytes.now c.loop-n.n m c.loop-n.invariant.goes_on (omega arith) within text
