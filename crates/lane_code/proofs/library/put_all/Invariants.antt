use Rattle.std.proofs.Common.{◌≡◌}
use Rattle.lane_code.specs.Slots.{put_all}
use Rattle.lane_code.specs.LaneMeaning.{words_of, with_words}
use Rattle.lane_code.specs.Calling.{left_to_put}
use Rattle.lane_code.proofs.library.put_all.Given as goal

abbrev pub invariant-each : goal.invariant-each
invariant-each l = left_to_put l.dst l.words l.i l.lane ≡ with_words (put_all l.dst l.words (words_of l.fn.lane)) l.fn.lane
