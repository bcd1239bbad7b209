use Rattle.std.proofs.Common.{sym, ◌∙◌, ap, Ok}
use Rattle.ctl_types.specs.declared.value.Value.TheVariants as variant
use Rattle.ctl_types.specs.Values.{one}
use Rattle.eval_values.specs.Uncounted.{held, give, pixel}
use Rattle.eval_tree.proofs.Forms.{linked_is}
use Rattle.eval_tree.proofs.single.linked_value.Goals as goal

pub returns-in-Some : goal.returns-in-Some
returns-in-Some c = λ env turns. linked_is c.args.link.now.left c.args.link.now.operator c.args.link.now.kind c.args.left.now c.args.right.now (pixel env turns) ∙ ap (λ o. held o (λ s. give (one s)) (pixel env turns)) (sym c.linked.ensures ∙ c.in-Some.is) ∙ ap (λ v. Ok (record { value = v; after = pixel env turns })) (variant.rolls-One c.in-Some.scalar)

pub returns-in-None : goal.returns-in-None
returns-in-None c = λ env turns. linked_is c.args.link.now.left c.args.link.now.operator c.args.link.now.kind c.args.left.now c.args.right.now (pixel env turns) ∙ ap (λ o. held o (λ s. give (one s)) (pixel env turns)) (sym c.linked.ensures ∙ c.in-None.is)
