use Rattle.std.proofs.Common.{◌-◌, List, ap, sym, ◌∙◌, arith}
use Rattle.fix_num.specs.Whole.{truth}
use Rattle.lane_code.specs.declared.instr.Instr.{Instr}
use Rattle.lane_code.specs.LaneMeaning.{Left, act, run_list, run_block}
use Rattle.lane_code.specs.Running.{all_sound, counted_done}
use Rattle.lane_code.proofs.Counted.{block_shows}
use Rattle.lane_code.proofs.Runs.{block_goes, block_sound, head_sound, list_flows, list_end, one_side, other_side, loop_fourth, loop_again}
use Rattle.lane_code.proofs.run.+run.Goals as goal

pub run_block-run_list-requires : goal.run_block-run_list-requires
run_block-run_list-requires t c = (omega arith, (c.requires.valid, ap (all_sound c.args.n) c.as_slice.ensures ∙ block_sound c.args.n c.args.blocks.now c.args.block c.index-blocks-block.result c.requires.valid (omega arith) c.index-blocks-block.is))

pub run_block-returns : goal.run_block-returns
run_block-returns t c =
    c.in_ok-list_end.ensures
    ∙ ap (λ (xs : List Instr). counted_done (run_list (run_block c.args.blocks.now (c.args.depth - 1)) xs c.args.lane.now)) c.as_slice.ensures
    ∙ block_goes c.args.blocks.now c.args.depth c.args.block c.index-blocks-block.result c.args.lane.now (omega arith) (omega arith) c.index-blocks-block.is

pub run_if-returns-in_ok-end : goal.run_if-returns-in_ok-end
run_if-returns-in_ok-end t c =
    c.in_ok-end.ensures
    ∙ one_side c.args.cond (run_block c.args.blocks.now c.args.depth c.args.one) (run_block c.args.blocks.now c.args.depth c.args.other) c.args.lane.now c.pay.new.lane c.truth-holds.result (block_shows c.args.blocks.now c.args.depth c.args.one) (c.truth-holds.ensures ∙ ap truth c.word_in.ensures) c.if-holds.true c.pay.ensures

pub run_if-returns-in_ok-end-2 : goal.run_if-returns-in_ok-end-2
run_if-returns-in_ok-end-2 t c =
    c.in_ok-end-2.ensures
    ∙ other_side c.args.cond (run_block c.args.blocks.now c.args.depth c.args.one) (run_block c.args.blocks.now c.args.depth c.args.other) c.args.lane.now c.pay.new.lane c.truth-holds.result (block_shows c.args.blocks.now c.args.depth c.args.other) (c.truth-holds.ensures ∙ ap truth c.word_in.ensures) c.if-holds.false c.pay.ensures

pub run_instr-returns-in-Leave : goal.run_instr-returns-in-Leave
run_instr-returns-in-Leave t c = ap Left c.cost_fits.ensures ∙ ap (λ (x : Instr). counted_done (act (run_block c.args.blocks.now c.args.depth) x c.args.lane.now)) (sym c.in-Leave.is)

pub run_list-run_instr-requires : goal.run_list-run_instr-requires
run_list-run_instr-requires t c = (omega arith, (c.requires.valid, (head_sound c.args.n c.args.list.now c.each.i c.index-list-i.result (omega arith) c.index-list-i.is c.each.invariant.sound).0))

pub run_list-each-preserved : goal.run_list-each-preserved
run_list-each-preserved t c = record {
  so_far = list_flows c.args.blocks.now c.args.depth c.args.list.now c.each.i c.index-list-i.result c.each.lane c.run_instr.new.lane c.in_ok-end.end _ (omega arith) c.index-list-i.is c.in_ok-end.ensures (sym c.is_normal.ensures ∙ c.if-not-is_normal.false) c.each.invariant.so_far;
  sound = (head_sound c.args.n c.args.list.now c.each.i c.index-list-i.result (omega arith) c.index-list-i.is c.each.invariant.sound).1;
}

pub run_list-returns : goal.run_list-returns
run_list-returns t c = list_end c.args.blocks.now c.args.depth c.args.list.now c.each.i c.each.lane _ c.cost_fits.ensures (omega arith) c.each.invariant.so_far

pub run_loop-returns-then-not-is_normal-2 : goal.run_loop-returns-then-not-is_normal-2
run_loop-returns-then-not-is_normal-2 t c = loop_fourth c.args.blocks.now c.args.depth c.args.test c.args.body c.args.cond c.args.node c.turns.lane c.run_block.new.lane c.pay.new.lane c.run_block-in-turns.new.lane c.in_ok-end.end c.in_ok-end-2.end c.truth-holds.result _ c.in_ok-end.ensures (sym c.is_normal.ensures ∙ c.if-not-is_normal.false) (c.truth-holds.ensures ∙ ap truth c.word_in.ensures) c.if-not-holds.false c.pay.ensures (omega arith) c.in_ok-end-2.ensures (sym c.is_normal-in-turns.ensures ∙ c.if-not-is_normal-2.true) c.turns.invariant

pub run_loop-turns-preserved : goal.run_loop-turns-preserved
run_loop-turns-preserved t c = loop_again c.args.blocks.now c.args.depth c.args.test c.args.body c.args.cond c.args.node c.turns.lane c.run_block.new.lane c.pay.new.lane c.run_block-in-turns.new.lane c.in_ok-end.end c.in_ok-end-2.end c.truth-holds.result _ c.in_ok-end.ensures (sym c.is_normal.ensures ∙ c.if-not-is_normal.false) (c.truth-holds.ensures ∙ ap truth c.word_in.ensures) c.if-not-holds.false c.pay.ensures (omega arith) c.in_ok-end-2.ensures (sym c.is_normal-in-turns.ensures ∙ c.if-not-is_normal-2.false) c.turns.invariant
