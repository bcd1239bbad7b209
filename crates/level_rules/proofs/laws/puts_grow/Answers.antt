use Rattle.level_rules.proofs.Picks.{puts_grow}
use Rattle.level_rules.proofs.laws.puts_grow.Goals as goal

pub returns : goal.returns
returns c rows body s more b d goal l k h = puts_grow rows body s more b d goal l k h
