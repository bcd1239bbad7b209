use Rattle.std.proofs.Common.{arith, sym, ap, ◌∙◌, ◌+◌, ◌++◌, drop, append-nil, append_assoc}
use Rattle.ctl_types.specs.Library.{words_of}
use Rattle.eval_library.specs.Means.{chosen_by}
use Rattle.eval_library.proofs.Gathered.{words_next, words_short, words_end}
use Rattle.eval_library.proofs.words.words_of.Goals as goal

pub returns-then-i-frame : goal.returns-then-i-frame
returns-then-i-frame c = sym (append-nil c.each.words) ∙ ap (λ l. c.each.words ++ l) (sym (words_short c.args.group c.args.params.now c.args.frame.now c.each.i (omega arith))) ∙ c.each.invariant.so_far

pub each-preserved : goal.each-preserved
each-preserved c =
    let rest = words_of (chosen_by c.args.group) (drop (c.each.i + 1) c.args.params.now) (drop (c.each.i + 1) c.args.frame.now) in
    record {
      so_far = ap (λ l. l ++ rest) c.in_ok-append_chosen.ensures ∙ append_assoc c.each.words _ rest ∙ ap (λ l. c.each.words ++ l) (sym (words_next c.args.group c.args.params.now c.args.frame.now c.each.i _ c.index-frame-i.result (omega arith) (omega arith) c.index-frame-i.is)) ∙ c.each.invariant.so_far;
      within = omega arith;
      inside = omega arith;
    }

pub returns : goal.returns
returns c = sym (append-nil c.each.words) ∙ ap (λ l. c.each.words ++ l) (sym (words_end c.args.group c.args.params.now c.args.frame.now c.each.i (omega arith))) ∙ c.each.invariant.so_far
