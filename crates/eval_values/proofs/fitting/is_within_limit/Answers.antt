use Rattle.std.proofs.Common.{sym, ◌∙◌}
use Rattle.eval_values.proofs.OneByOne.{within_yes, within_no}
use Rattle.eval_values.proofs.fitting.is_within_limit.Goals as goal

pub returns-in-Some : goal.returns-in-Some
returns-in-Some c = within_yes _ _ _ (sym c.less_scalars.ensures ∙ c.in-Some.is)

pub returns-in-None : goal.returns-in-None
returns-in-None c = within_no _ _ (sym c.less_scalars.ensures ∙ c.in-None.is)
