use Rattle.std.proofs.Common.{arith, sym, ap, ◌∙◌}
use Rattle.ctl_types.specs.declared.program.Parameter.{Parameter}
use Rattle.eval_tree.specs.Calls.{given_at}
use Rattle.eval_tree.proofs.Frames.{fill_next, fill_done}
use Rattle.eval_tree.proofs.calls.fill.Goals as goal

pub each-preserved : goal.each-preserved
each-preserved c = record {
  so_far = fill_next c.each.i c.args.parameters.now c.index-parameters-i.result c.each.frame.items c.fill_at.new.frame.items (omega arith) c.index-parameters-i.is (omega arith) (c.in_ok-fill_at.ensures ∙ ap (λ (q : Parameter). given_at q.default c.each.i c.each.frame.items) (sym c.index-parameters-i.is)) ∙ c.each.invariant.so_far;
  within = omega arith;
}

pub returns : goal.returns
returns c = sym (fill_done c.each.i c.args.parameters.now c.each.frame.items (omega arith)) ∙ c.each.invariant.so_far
