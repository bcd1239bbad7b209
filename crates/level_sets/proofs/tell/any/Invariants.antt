use Rattle.std.proofs.Common.{◌≡◌, drop}
use Rattle.level_rules.specs.Rules.{any}
use Rattle.level_sets.proofs.tell.any.Given as goal

abbrev pub invariant-loop-varies : goal.invariant-loop-varies
invariant-loop-varies l = any (drop l.varies-index l.levels) ≡ any l.levels
