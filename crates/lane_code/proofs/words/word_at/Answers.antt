use Rattle.std.proofs.Common.{sym, ◌∙◌}
use Rattle.lane_code.proofs.Moves.{none_word}
use Rattle.lane_code.proofs.words.word_at.Goals as goal

pub returns-in-None : goal.returns-in-None
returns-in-None c = c.from_raw.ensures ∙ sym (none_word c.args.words.now c.args.k c.in-None.ensures.value)
