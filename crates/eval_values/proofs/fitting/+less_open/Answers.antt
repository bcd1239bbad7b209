use Rattle.std.proofs.Common.{sym, ap, ◌∙◌, ◌-◌}
use Rattle.ctl_types.specs.Shapes.{extents, open_count}
use Rattle.eval_values.specs.Sizes.{less}
use Rattle.eval_values.proofs.OneByOne.{none_left, one_fewer, open_unstated}
use Rattle.eval_values.proofs.fitting.+less_open.Goals as goal

pub returns-then-count-eq0 : goal.returns-then-count-eq0
returns-then-count-eq0 t c = none_left c.args.count _ c.if-count-eq0.true ∙ sym (ap (less c.args.count) (open_unstated c.args.shape.now c.in-Array.elements c.in-Array.extent c.in-Array.is c.in-Unstated.is))

pub returns-else-count-eq0 : goal.returns-else-count-eq0
returns-else-count-eq0 t c = one_fewer c.args.count (open_count (extents c.in-Array.elements)) _ c.if-count-eq0.false (c.less_open-else-count-eq0.ensures ∙ ap (λ s. less (c.args.count - 1) (open_count (extents s))) c.get-else-count-eq0.ensures) ∙ sym (ap (less c.args.count) (open_unstated c.args.shape.now c.in-Array.elements c.in-Array.extent c.in-Array.is c.in-Unstated.is))
