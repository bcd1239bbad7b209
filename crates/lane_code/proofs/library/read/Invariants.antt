use Rattle.std.proofs.Common.{◌≡◌, ◌++◌, ◌-◌}
use Rattle.lane_code.specs.Slots.{words_from, shifted}
use Rattle.lane_code.specs.LaneMeaning.{words_of}
use Rattle.lane_code.proofs.library.read.Given as goal

abbrev pub invariant-each : goal.invariant-each
invariant-each l = l.words.items ++ words_from (words_of l.lane) (shifted l.slot l.i) (l.count - l.i) ≡ l.fn.words.items ++ words_from (words_of l.lane) l.slot l.count
