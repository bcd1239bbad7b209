use Rattle.level_rules.proofs.Picks.{rows_tell}
use Rattle.level_rules.proofs.laws.rows_tell.Goals as goal

pub returns : goal.returns
returns c functions rows h = rows_tell functions rows h
