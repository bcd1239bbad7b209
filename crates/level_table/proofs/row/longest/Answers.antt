use Rattle.std.proofs.Common.{arith}
use Rattle.level_table.proofs.Rows.{short_more, short_all}
use Rattle.level_table.proofs.row.longest.Goals as goal

pub loop-row-preserved : goal.loop-row-preserved
loop-row-preserved c = let a = c.greater-most.ensures.first in let b = c.greater-most.ensures.second in let n = c.len.ensures in short_more c.args.rows.now c.loop-row.row-index c.loop-row.most c.greater-most.result c.row-item.result (omega arith) c.row-item.is c.loop-row.invariant a (omega arith)

pub returns : goal.returns
returns c = short_all c.args.rows.now c.loop-row.row-index c.loop-row.most (omega arith) c.loop-row.invariant
