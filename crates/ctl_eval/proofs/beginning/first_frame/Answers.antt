use Rattle.std.proofs.Common.{arith, sym, ◌∙◌}
use Rattle.ctl_eval.proofs.Frames.{inputs_left}
use Rattle.ctl_eval.proofs.beginning.first_frame.Goals as goal

pub returns-then-next-inputs-2 : goal.returns-then-next-inputs-2
returns-then-next-inputs-2 c = sym c.each.invariant.so_far ∙ inputs_left c.args.scene.now.structs c.args.parameters.now c.args.inputs.now c.each.frame.items c.each.i c.each.next (omega arith) (omega arith)
