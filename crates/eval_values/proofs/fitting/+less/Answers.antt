use Rattle.std.proofs.Common.{sym, ap, ◌∙◌, length, arith}
use Rattle.eval_values.specs.Sizes.{less}
use Rattle.eval_values.proofs.Flat.{flat_is_list, flat_is_fields}
use Rattle.eval_values.proofs.OneByOne.{words_fail, words_more}
use Rattle.eval_values.proofs.fitting.+less.Goals as goal

pub less_scalars-returns-in-List : goal.less_scalars-returns-in-List
less_scalars-returns-in-List t c = c.less_all.ensures ∙ sym (ap (λ ws. less c.args.count (length ws)) (flat_is_list _ _ _ c.in-List.is c.as_slice.ensures))

pub less_scalars-returns-in-Fields : goal.less_scalars-returns-in-Fields
less_scalars-returns-in-Fields t c = c.less_all-in-Fields.ensures ∙ sym (ap (λ ws. less c.args.count (length ws)) (flat_is_fields _ _ _ c.in-Fields.is c.as_slice-in-Fields.ensures))

pub less_all-returns-in-None : goal.less_all-returns-in-None
less_all-returns-in-None t c = words_fail c.args.parts.now c.loop-part.part-index c.part-item.result c.loop-part.left _ (omega arith) c.part-item.is c.loop-part.invariant (sym c.less_scalars.ensures ∙ c.in-None.is)

pub less_all-loop-part-preserved : goal.less_all-loop-part-preserved
less_all-loop-part-preserved t c = words_more c.args.parts.now c.loop-part.part-index c.part-item.result c.loop-part.left c.in-Some.fewer _ (omega arith) c.part-item.is c.loop-part.invariant (sym c.less_scalars.ensures ∙ c.in-Some.is)
