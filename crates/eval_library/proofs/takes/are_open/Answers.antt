use Rattle.std.proofs.Common.{arith, sym}
use Rattle.eval_library.proofs.Arguments.{row_opens_more, row_opens_none}
use Rattle.eval_library.proofs.takes.are_open.Goals as goal

pub returns-then-left-open : goal.returns-then-left-open
returns-then-left-open c = sym (row_opens_none c.args.params.now c.loop-param.param-index _ c.open_sizes-open.result c.loop-param.left _ (omega arith) c.open_sizes-open.ensures c.loop-param.invariant (omega arith))

pub loop-param-preserved : goal.loop-param-preserved
loop-param-preserved c = row_opens_more c.args.params.now c.loop-param.param-index _ c.open_sizes-open.result c.loop-param.left _ (omega arith) c.open_sizes-open.ensures c.loop-param.invariant (omega arith)
