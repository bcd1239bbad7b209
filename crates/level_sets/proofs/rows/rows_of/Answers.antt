use Rattle.std.proofs.Common.{arith, subst}
use Rattle.level_rules.specs.Rows.{tells, HasRows}
use Rattle.level_sets.proofs.Passing.{some_more, some_done}
use Rattle.level_sets.proofs.rows.rows_of.Goals as goal

pub loop-function-preserved : goal.loop-function-preserved
loop-function-preserved c = some_more c.args.functions.now c.loop-function.function-index c.loop-function.rows c.push.new.self c.in_ok-own.own c.function-item.result (omega arith) c.function-item.is c.loop-function.invariant (subst (λ r. HasRows (tells r) c.function-item.result c.in_ok-own.own) c.as_slice.ensures c.in_ok-own.ensures) c.in_ok-push.ensures.ok

pub returns : goal.returns
returns c = some_done c.args.functions.now c.loop-function.function-index c.loop-function.rows c.loop-function-test.false c.loop-function.invariant
