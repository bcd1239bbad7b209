use Rattle.std.proofs.Common.{◌≡◌, ◌+◌, ◌*◌, drop, true}
use Rattle.lane_code.specs.declared.instr.Instr.TheVariants.{Loop}
use Rattle.lane_code.specs.LaneMeaning.{act, run_list, run_block}
use Rattle.lane_code.specs.Running.{all_sound, counted_done}
use Rattle.lane_code.proofs.run.+run.Given as goal

abbrev pub decreases-run_block : goal.decreases-run_block
decreases-run_block l = 4 * l.depth

abbrev pub decreases-run_loop : goal.decreases-run_loop
decreases-run_loop l = 4 * l.depth + 1

abbrev pub decreases-run_if : goal.decreases-run_if
decreases-run_if l = 4 * l.depth + 1

abbrev pub decreases-run_instr : goal.decreases-run_instr
decreases-run_instr l = 4 * l.depth + 2

abbrev pub decreases-run_list : goal.decreases-run_list
decreases-run_list l = 4 * l.depth + 3

abbrev pub invariant-run_list-each : goal.invariant-run_list-each
invariant-run_list-each l = record {
  so_far : counted_done (run_list (run_block l.blocks l.depth) (drop l.i l.list) l.lane) ≡ counted_done (run_list (run_block l.blocks l.depth) l.list l.fn.lane);
  sound : all_sound l.n (drop l.i l.list) ≡ true;
}

abbrev pub invariant-run_loop-turns : goal.invariant-run_loop-turns
invariant-run_loop-turns l = counted_done (act (run_block l.blocks l.depth) (Loop l.test l.cond l.body l.node) l.lane) ≡ counted_done (act (run_block l.blocks l.depth) (Loop l.test l.cond l.body l.node) l.fn.lane)

abbrev pub decreases-run_loop-turns : goal.decreases-run_loop-turns
decreases-run_loop-turns l = l.lane.turns
