use Rattle.std.proofs.Common.{arith, sym, ap, ◌∙◌, ◌+◌, ◌-◌, ◌++◌, ◌∷◌, [], append_assoc, get_or}
use Rattle.eval_library.specs.Means.{opened_from}
use Rattle.eval_library.proofs.Arguments.{opened_next}
use Rattle.eval_library.proofs.takes.opened.Goals as goal

pub loop-i-preserved : goal.loop-i-preserved
loop-i-preserved c =
    let rest = opened_from c.args.opens.now (c.loop-i.i + 1) (c.args.count - (c.loop-i.i + 1)) in
    ap (λ l. l ++ rest) (c.in_ok-push.ensures.last ∙ ap (λ n. c.loop-i.sizes ++ n ∷ []) c.size_at.ensures) ∙ append_assoc c.loop-i.sizes (get_or c.args.opens.now c.loop-i.i 0 ∷ []) rest ∙ ap (λ l. c.loop-i.sizes ++ l) (sym (opened_next c.args.opens.now c.loop-i.i c.args.count (omega arith))) ∙ c.loop-i.invariant
