use Rattle.level_sets.specs.Calls.{arguments_of}
use Rattle.level_sets.proofs.Called.{program_gives}
use Rattle.level_sets.proofs.calls.call_program.Goals as goal

pub returns : goal.returns
returns c = program_gives c.args.scene.now c.args.function c.args.sizes.now _ _ c.args.passed.levels c.args.passed.looks _ (arguments_of c.args.scene.now c.args.arguments.now) c.args.control _ _ _ c.in_ok-sizes.ensures c.opens.ensures c.as_slice.ensures c.call_instance.ensures
