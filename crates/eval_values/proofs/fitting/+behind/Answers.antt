use Rattle.std.proofs.Common.{sym, ap, ◌∙◌, drop}
use Rattle.ctl_types.specs.Shapes.{extents, open_count}
use Rattle.eval_values.proofs.OneByOne.{behind_is}
use Rattle.eval_values.proofs.fitting.+behind.Goals as goal

pub returns-in-Array : goal.returns-in-Array
returns-in-Array t c = c.behind.ensures ∙ ap (λ s. drop (open_count (extents s)) c.left.result.now) c.get.ensures ∙ ap (drop (open_count (extents c.in-Array.elements))) c.left.ensures ∙ sym (behind_is c.args.shape.now c.in-Array.elements c.in-Array.extent c.args.opens.now c.in-Array.is)
