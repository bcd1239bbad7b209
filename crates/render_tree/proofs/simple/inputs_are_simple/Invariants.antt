use Rattle.std.proofs.Common.{◌≡◌, drop}
use Rattle.render_tree.specs.Stages.{inputs_are_simple}
use Rattle.render_tree.proofs.simple.inputs_are_simple.Given as goal

abbrev pub invariant-loop-parameter : goal.invariant-loop-parameter
invariant-loop-parameter l = inputs_are_simple (drop l.parameter-index l.parameters) ≡ inputs_are_simple l.parameters
