use Rattle.std.proofs.Common.{ℕ, ◌<◌, arith}
use Rattle.std.specs.Option.{option_copied}
use Rattle.render_tree.proofs.Passed.{passed_more, passed_short, next_inside}
use Rattle.render_tree.proofs.outputs.passed_value.Goals as goal

pub each-preserved : goal.each-preserved
each-preserved c = record {
  so_far = passed_more c.args.name.now c.args.parameters.now c.args.outputs.now c.each.i c.each.next c.next_output-next.result c.index-parameters-i.result c.index-outputs-next.result (option_copied c.each.found) (option_copied c.later-found.result) _
      (omega arith) c.index-parameters-i.is (omega arith) c.index-outputs-next.is c.later-found.ensures c.next_output-next.ensures c.each.invariant.so_far;
  within = omega arith;
  inside = next_inside c.index-parameters-i.result.is_output c.each.next c.next_output-next.result _ (omega arith) c.next_output-next.ensures;
}

pub returns-else-next-outputs : goal.returns-else-next-outputs
returns-else-next-outputs c = passed_short c.args.name.now c.args.parameters.now c.args.outputs.now c.each.i c.each.next (option_copied c.each.found) _ (omega arith) c.each.invariant.so_far
