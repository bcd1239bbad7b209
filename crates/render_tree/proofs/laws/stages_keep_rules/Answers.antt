use Rattle.render_tree.proofs.Standing.{stages_keep_rules}
use Rattle.render_tree.proofs.laws.stages_keep_rules.Goals as goal

pub returns : goal.returns
returns c = stages_keep_rules
