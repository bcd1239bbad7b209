use Rattle.std.proofs.Common.{◌≡◌, drop}
use Rattle.render_tree.specs.Stages.{has_output}
use Rattle.render_tree.proofs.simple.has_output.Given as goal

abbrev pub invariant-loop-parameter : goal.invariant-loop-parameter
invariant-loop-parameter l = has_output l.name (drop l.parameter-index l.parameters) ≡ has_output l.name l.parameters
