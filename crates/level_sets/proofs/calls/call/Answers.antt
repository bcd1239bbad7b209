use Rattle.level_sets.proofs.Called.{call_arm}
use Rattle.level_sets.proofs.calls.call.Goals as goal

pub returns-in-Program : goal.returns-in-Program
returns-in-Program c = call_arm c.args.scene.now c.args.typed.now c.in-Program.function c.args.passed c.args.control _ _ _ _ _ c.in-Program.is c.as_slice-sizes.ensures c.as_slice-arguments.ensures c.call_program.ensures
