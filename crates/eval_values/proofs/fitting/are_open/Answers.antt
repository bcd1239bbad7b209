use Rattle.std.proofs.Common.{sym, ◌∙◌, arith}
use Rattle.ctl_types.specs.declared.program.Parameter.{Parameter}
use Rattle.eval_values.proofs.OneByOne.{less_some, less_none, open_more, open_none}
use Rattle.eval_values.proofs.fitting.are_open.Goals as goal

pub returns-in-None : goal.returns-in-None
returns-in-None c = sym (open_none (λ (q : Parameter). q.shape) c.args.parameters.now c.loop-parameter.parameter-index c.parameter-item.result (omega arith) c.parameter-item.is c.loop-parameter.left _ c.loop-parameter.invariant (less_none _ _ (sym c.less_open.ensures ∙ c.in-None.is)))

pub loop-parameter-preserved : goal.loop-parameter-preserved
loop-parameter-preserved c = open_more (λ (q : Parameter). q.shape) c.args.parameters.now c.loop-parameter.parameter-index c.parameter-item.result (omega arith) c.parameter-item.is c.loop-parameter.left c.in-Some.fewer _ c.loop-parameter.invariant (less_some _ _ _ (sym c.less_open.ensures ∙ c.in-Some.is))
