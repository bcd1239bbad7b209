use Rattle.std.proofs.Common.{arith}
use Rattle.level_counts.proofs.Opens.{table_more}
use Rattle.level_counts.proofs.variables.place_parameters.Goals as goal

pub loop-parameter-preserved : goal.loop-parameter-preserved
loop-parameter-preserved c = record {
  within = let h = c.in_ok-placed.ensures.next in omega arith;
  table = table_more c.args.opens.now c.args.parameters.now c.loop-parameter.parameter-index c.parameter-item.result _ _ _ _ _ _ (omega arith) c.parameter-item.is c.loop-parameter.invariant.table c.in_ok-placed.ensures.value c.in_ok-placed.ensures.next c.in_ok-push.ensures.ok;
}
