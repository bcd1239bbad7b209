use Rattle.std.proofs.Common.{sym, ◌∙◌, subst, ap, Some, rules, to_z, of_z, w64, ◌≡◌}
use Rattle.std.specs.Option.{option_copied}
use Rattle.ctl_types.specs.declared.value.Value.{Value, out-Value}
use Rattle.ctl_types.specs.Values.{Env}
use Rattle.eval_values.specs.Uncounted.{held, index_in, Gives, pixel, found}
use Rattle.eval_tree.proofs.Forms.{index_is}
use Rattle.eval_tree.proofs.single.found_element.Goals as goal

pub returns-in-Some-found : goal.returns-in-Some-found
returns-in-Some-found c = λ turns.
    let e : to_z w64 (of_z w64 c.in-Some.number) ≡ c.in-Some.number = search rules in
    let f : found c.args.x c.args.path.now c.args.env.now ≡ Some c.in-Some-found.whole.now = sym c.found.ensures ∙ ap option_copied c.in-Some-found.is in
    subst (Gives (λ i. i) c.index_in.result c.args.env.now turns) (sym (index_is (Some c.in-Some.number) c.args.index.now (λ z p. held (found c.args.x c.args.path.now p.env) (λ (v : Value). index_in c.args.node z (out-Value v)) p) (pixel c.args.env.now turns) (sym c.in-Some.is ∙ c.number_of.ensures) ∙ ap (λ o. held o (λ (v : Value). index_in c.args.node c.in-Some.number (out-Value v)) (pixel c.args.env.now turns)) f)) (rw e at (c.index_in.ensures c.args.env.now turns))
