use Rattle.std.proofs.Common.{sym, ◌∙◌, subst, Some, rules, to_z, of_z, w64, ◌≡◌}
use Rattle.ctl_types.specs.declared.value.Value.{Value, out-Value}
use Rattle.eval_values.specs.Uncounted.{held, index_in, Gives, pixel}
use Rattle.eval_tree.proofs.Forms.{index_is}
use Rattle.eval_tree.proofs.single.element.Goals as goal

pub returns-in-Some : goal.returns-in-Some
returns-in-Some c = λ env turns.
    let e : to_z w64 (of_z w64 c.in-Some.number) ≡ c.in-Some.number = search rules in
    subst (Gives (λ i. i) c.index_in.result env turns) (sym (index_is (Some c.in-Some.number) c.args.index.now (λ z p. held (Some c.args.whole.now) (λ (v : Value). index_in c.args.node z (out-Value v)) p) (pixel env turns) (sym c.in-Some.is ∙ c.number_of.ensures))) (rw e at (c.index_in.ensures env turns))
