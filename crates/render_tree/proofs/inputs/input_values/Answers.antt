use Rattle.render_tree.specs.PixelRun.{first_values}
use Rattle.render_tree.proofs.Given.{simple_next, inputs_more}
use Rattle.render_tree.proofs.inputs.input_values.Goals as goal

pub put_input-requires-clause-simple : goal.put_input-requires-clause-simple
put_input-requires-clause-simple c = (simple_next c.args.parameters.now c.loop-parameter.parameter-index c.parameter-item.result c.loop-parameter-test.true c.parameter-item.is c.loop-parameter.invariant.0).0

pub loop-parameter-preserved : goal.loop-parameter-preserved
loop-parameter-preserved c = (
  (simple_next c.args.parameters.now c.loop-parameter.parameter-index c.parameter-item.result c.loop-parameter-test.true c.parameter-item.is c.loop-parameter.invariant.0).1,
  inputs_more (first_values c.args.depth c.args.pixel) c.args.parameters.now c.loop-parameter.parameter-index c.parameter-item.result c.loop-parameter.inputs c.put_input.new.inputs _ c.loop-parameter-test.true c.parameter-item.is
      c.in_ok-put_input.ensures c.loop-parameter.invariant.1,
)
