use Rattle.level_sets.proofs.Called.{instance_gives}
use Rattle.level_sets.proofs.calls.call_instance.Goals as goal

pub returns : goal.returns
returns c = instance_gives c.args.scene.now c.args.instance _ _ c.args.arguments.now c.args.looks.now c.args.control _ _ _ _ _ _ c.as_slice.ensures c.rows.ensures c.either-varies.ensures c.any.ensures c.tell_mark.ensures c.in_ok-put_outputs.ensures c.in_ok-call.ensures
