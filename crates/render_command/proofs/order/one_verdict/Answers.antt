use Rattle.render_command.proofs.Verdicts.{one_verdict}
use Rattle.render_command.proofs.order.one_verdict.Goals as goal

pub returns : goal.returns
returns c = one_verdict c.at_most_one.ensures
