use Rattle.std.proofs.Common.{arith, ◌∙◌}
use Rattle.lane_code.proofs.Moves.{first_below, move_start, move_step, move_end}
use Rattle.lane_code.proofs.words.move_words.Goals as goal

pub each-init : goal.each-init
each-init c = move_start c.args.count c.args.dst c.args.src c.args.lane.now

pub shifted-requires : goal.shifted-requires
shifted-requires c = first_below c.args.n c.args.src c.args.count c.each.i (omega arith) (omega arith) c.requires.source (omega arith)

pub each-preserved : goal.each-preserved
each-preserved c = move_step c.args.count c.args.dst c.args.src c.each.i c.each.lane c.shifted-in-each.result c.shifted.result c.word_in-word.result c.put.new.lane (omega arith) c.shifted-in-each.ensures c.shifted.ensures c.word_in-word.ensures c.put.ensures ∙ c.each.invariant

pub returns : goal.returns
returns c = move_end c.args.count c.args.dst c.args.src c.each.i c.each.lane (omega arith) ∙ c.each.invariant
