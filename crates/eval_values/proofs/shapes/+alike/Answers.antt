use Rattle.std.proofs.Common.{arith, rules, sym, ◌∙◌, map, refl}
use Rattle.ctl_types.specs.Values.{alike, all_alike}
use Rattle.eval_values.specs.Size.{value_size}
use Rattle.eval_values.proofs.Lists.{at_most, short, end}
use Rattle.eval_values.proofs.shapes.+alike.Goals as goal

pub all_alike-returns-then-i-others : goal.all_alike-returns-then-i-others
all_alike-returns-then-i-others t c = sym (short (λ vs ws. all_alike (map alike vs) ws) (λ x xs. refl) c.args.parts.now c.args.others.now c.each.i (omega arith) (omega arith)) ∙ c.each.invariant.same

pub all_alike-alike-requires : goal.all_alike-alike-requires
all_alike-alike-requires t c = let q = at_most value_size c.args.parts.now c.each.i c.index-parts-i.result (omega arith) c.index-parts-i.is in let d = c.decreases in search rules

pub all_alike-returns : goal.all_alike-returns
all_alike-returns t c = end (λ vs ws. all_alike (map alike vs) ws) refl (λ y ys. refl) c.args.parts.now c.args.others.now c.each.i (omega arith) c.each.invariant.inside ∙ c.each.invariant.same
