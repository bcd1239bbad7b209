use Rattle.std.proofs.Common.{◌≡◌}
use Rattle.lane_code.specs.Slots.{moved}
use Rattle.lane_code.specs.LaneMeaning.{words_of, with_words}
use Rattle.lane_code.proofs.Moves.{left_to_move}
use Rattle.lane_code.proofs.words.move_words.Given as goal

abbrev pub invariant-each : goal.invariant-each
invariant-each l = left_to_move l.count l.dst l.src l.i l.lane ≡ with_words (moved l.count l.dst l.src (words_of l.fn.lane)) l.fn.lane
