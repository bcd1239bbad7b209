use Rattle.std.proofs.Common.{◌≡◌, ◌++◌, drop}
use Rattle.level_rules.specs.Levels.{uniform_in}
use Rattle.level_table.proofs.knowledge.uniforms_in.Given as goal

abbrev pub invariant-loop-parameter : goal.invariant-loop-parameter
invariant-loop-parameter l = l.marks ++ uniform_in (drop l.parameter-index l.parameters) ≡ uniform_in l.parameters
