use Rattle.std.proofs.Common.{◌≡◌, ◌++◌, drop}
use Rattle.level_rules.specs.Levels.{uniform_marks}
use Rattle.level_table.proofs.knowledge.uniforms_of.Given as goal

abbrev pub invariant-loop-function : goal.invariant-loop-function
invariant-loop-function l = l.all ++ uniform_marks (drop l.function-index l.functions) ≡ uniform_marks l.functions
