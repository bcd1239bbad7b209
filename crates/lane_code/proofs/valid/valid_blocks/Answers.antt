use Rattle.std.proofs.Common.{arith, sym, ap, ◌∙◌}
use Rattle.lane_code.specs.Valid.{valid_block}
use Rattle.lane_code.proofs.BlockList.{block_not, block_next, blocks_end}
use Rattle.lane_code.proofs.valid.valid_blocks.Goals as goal

pub returns-then-not-valid_block : goal.returns-then-not-valid_block
returns-then-not-valid_block c =
    block_not c.args.n c.args.blocks.now c.each.k c.index-blocks-k.result _ (omega arith) c.index-blocks-k.is (ap (valid_block c.args.n c.each.k) (sym c.as_slice.ensures) ∙ sym c.valid_block.ensures ∙ c.if-not-valid_block.true) c.each.invariant

pub each-preserved : goal.each-preserved
each-preserved c =
    block_next c.args.n c.args.blocks.now c.each.k c.index-blocks-k.result _ (omega arith) c.index-blocks-k.is (ap (valid_block c.args.n c.each.k) (sym c.as_slice.ensures) ∙ sym c.valid_block.ensures ∙ c.if-not-valid_block.false) c.each.invariant

pub returns : goal.returns
returns c = blocks_end c.args.n c.args.blocks.now c.each.k c.each.k _ c.each-test.false c.each.invariant
