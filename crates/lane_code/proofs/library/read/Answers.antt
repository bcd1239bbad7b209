use Rattle.std.proofs.Common.{arith}
use Rattle.lane_code.specs.LaneMeaning.{words_of}
use Rattle.lane_code.proofs.Reading.{read_step}
use Rattle.lane_code.proofs.library.read.Goals as goal

pub each-preserved : goal.each-preserved
each-preserved c = read_step (words_of c.args.lane.now) c.args.slot c.args.count c.each.i c.each.words.items c.push.new.self.items _ c.shifted.result c.word_in.result (omega arith) c.shifted.ensures c.word_in.ensures c.in_ok-push.ensures.items c.each.invariant
