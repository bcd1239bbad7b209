use Rattle.std.proofs.Common.{◌≡◌, ◌<◌, arith, sym, ◌∙◌, drop, length, length-set, slice_set, false}
use Rattle.ctl_stdlib.specs.declared.row.RowShape.TheVariants.{Float}
use Rattle.eval_library.proofs.FilledIn.{outputs_next, outputs_short, floats_next}
use Rattle.eval_library.proofs.results.put_outputs.Goals as goal

pub returns-then-i-len : goal.returns-then-i-len
returns-then-i-len c = sym (outputs_short c.args.params.now c.each.frame.items c.each.i (drop c.each.at c.args.words.now) (omega arith)) ∙ c.each.invariant.so_far

pub each-preserved : goal.each-preserved
each-preserved c =
    let at : c.each.i < length c.each.frame.items = omega arith in
    let size : length (slice_set c.each.frame.items c.each.i c.put_output-at.new.slot) ≡ length c.each.frame.items = length-set c.each.frame.items c.each.i c.put_output-at.new.slot in
    record {
      so_far = outputs_next c.args.params.now c.each.frame.items c.each.i _ c.index_mut.result.now (omega arith) at c.index_mut.ensures.value c.put_output-at.new.slot (drop c.each.at c.args.words.now) (drop c.put_output-at.result c.args.words.now) c.put_output-at.ensures ∙ c.each.invariant.so_far;
      floats = floats_next c.args.params.now c.each.frame.items c.each.i (record { shape = Float; is_output = false }) c.index_mut.result.now (omega arith) at c.index_mut.ensures.value c.put_output-at.new.slot c.each.invariant.floats;
      within = omega arith;
      inside = omega arith;
    }
