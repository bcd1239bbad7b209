use Rattle.std.proofs.Common.{arith, sym, ◌∙◌}
use Rattle.eval_tree.proofs.Frames.{paths_over, frame_over, bring_next}
use Rattle.eval_tree.proofs.calls.bring_back.Goals as goal

pub returns-then-i-paths : goal.returns-then-i-paths
returns-then-i-paths c = sym (paths_over _ c.args.paths.now _ _ c.each.i (omega arith)) ∙ c.each.invariant.so_far

pub returns-then-i-len : goal.returns-then-i-len
returns-then-i-len c = sym (frame_over _ _ c.each.frame.items _ c.each.i (omega arith)) ∙ c.each.invariant.so_far

pub each-preserved : goal.each-preserved
each-preserved c = record {
  so_far = bring_next c.args.arguments.now c.args.paths.now c.each.frame.items c.take_at-value.new.frame.items c.each.env.items _ _ c.each.i c.index-arguments-i.result c.as_slice.result.now c.index-paths-i.result c.take_at-value.result (omega arith) c.index-arguments-i.is (omega arith) (c.as_slice.ensures ∙ c.index-paths-i.is) c.take_at-value.ensures.value c.take_at-value.ensures.behind c.in_ok-put_back.ensures c.each.invariant.so_far;
  within = omega arith;
}
