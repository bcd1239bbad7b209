use Rattle.std.proofs.Common.{arith, sym, ◌∙◌}
use Rattle.ctl_eval.proofs.Frames.{frame_over}
use Rattle.ctl_eval.proofs.beginning.outputs.Goals as goal

pub returns-then-i-len : goal.returns-then-i-len
returns-then-i-len c = sym c.each.invariant.so_far ∙ frame_over c.args.parameters.now c.each.frame.items c.each.values c.each.i (omega arith) (omega arith)
