use Rattle.std.proofs.Common.{◌≡◌, drop, false}
use Rattle.render_tree.specs.Stages.{ends_as_scalar}
use Rattle.render_tree.proofs.simple.ends_as_scalar.Given as goal

abbrev pub invariant-loop-parameter : goal.invariant-loop-parameter
invariant-loop-parameter l = ends_as_scalar l.name l.so_far (drop l.parameter-index l.parameters) ≡ ends_as_scalar l.name false l.parameters
