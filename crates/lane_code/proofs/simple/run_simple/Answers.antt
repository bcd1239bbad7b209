use Rattle.lane_code.proofs.Blocks.{library_inside}
use Rattle.lane_code.proofs.simple.run_simple.Goals as goal

pub call_library-requires-clause-inside : goal.call_library-requires-clause-inside
call_library-requires-clause-inside c = library_inside c.args.n c.args.x.now c.in-Library.id c.in-Library.sizes c.in-Library.dst c.in-Library.args c.in-Library.node c.as_slice.result.now c.as_slice-in-Library.result.now c.in-Library.is c.as_slice.ensures c.as_slice-in-Library.ensures c.requires.sound
