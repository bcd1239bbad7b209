use Rattle.std.proofs.Common.{arith}
use Rattle.level_table.proofs.Variables.{variables_more}
use Rattle.level_table.proofs.told.variables_in.Goals as goal

pub loop-x-preserved : goal.loop-x-preserved
loop-x-preserved c = variables_more c.args.row.now c.loop-x.x c.args.count c.loop-x.variables c.push.new.self _ c.marked.result (omega arith) c.loop-x.invariant c.marked.ensures c.in_ok-push.ensures.ok
