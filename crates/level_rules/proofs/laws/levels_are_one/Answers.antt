use Rattle.level_rules.proofs.Unique.{levels_are_one}
use Rattle.level_rules.proofs.laws.levels_are_one.Goals as goal

pub returns : goal.returns
returns c functions known other first second i h = levels_are_one functions known other first second i h
