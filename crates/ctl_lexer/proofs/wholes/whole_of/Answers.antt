-- Goals of `wholes::whole_of`.
use Rattle.std.proofs.Common.{sym, ◌∙◌}
use Rattle.ctl_lexer.proofs.Values.{marked_whole}
use Rattle.ctl_lexer.proofs.wholes.whole_of.Goals as goal

pub returns-then-begins_hexadecimal : goal.returns-then-begins_hexadecimal
returns-then-begins_hexadecimal c = marked_whole c.args.bytes.now c.hexadecimal_whole.result (sym c.begins_hexadecimal.ensures ∙ c.if-begins_hexadecimal.true) c.hexadecimal_whole.ensures
