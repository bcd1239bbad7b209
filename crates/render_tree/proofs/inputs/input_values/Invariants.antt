use Rattle.std.proofs.Common.{◌≡◌, drop, true}
use Rattle.render_tree.specs.Means.{behind_inputs}
use Rattle.render_tree.specs.PixelRun.{first_values, input_values}
use Rattle.render_tree.specs.Stages.{inputs_are_simple}
use Rattle.render_tree.proofs.inputs.input_values.Given as goal

abbrev pub invariant-loop-parameter : goal.invariant-loop-parameter
invariant-loop-parameter l =
    (inputs_are_simple (drop l.parameter-index l.parameters) ≡ true)
    × (behind_inputs l.inputs (input_values (first_values l.depth l.pixel) (drop l.parameter-index l.parameters)) ≡ input_values (first_values l.depth l.pixel) l.parameters)
