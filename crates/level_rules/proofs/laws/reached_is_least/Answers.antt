use Rattle.level_rules.proofs.Reach.{closed, once, reachable, deeper, numbered}
use Rattle.level_rules.proofs.laws.reached_is_least.Goals as goal

pub returns : goal.returns
returns c = record { closed = λ calls l. closed calls l; once = λ calls. once calls; reachable = λ calls. reachable calls; deeper = λ calls l. deeper calls l; numbered = numbered }
