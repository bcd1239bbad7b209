use Rattle.level_sets.proofs.Called.{call_sees}
use Rattle.level_sets.proofs.look.+look.Goals as goal

pub look_call-returns : goal.look_call-returns
look_call-returns t c = call_sees c.args.scene.now c.args.typed.now _ _ c.args.control _ _ _ c.in_ok-passed.passed _ c.as_slice.ensures c.uniform_of-uniform.ensures c.in_ok-passed.ensures c.call.ensures
