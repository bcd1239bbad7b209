-- Goals of `following::read_two`.
use Rattle.std.proofs.Common.{ℕ, List, ◌∷◌, sym, ap, ◌∙◌, subst}
use Rattle.command_line.specs.declared.option.Count.TheVariants.{Two}
use Rattle.command_line.specs.Taking.{TakesNumbers}
use Rattle.command_line.proofs.following.read_two.Goals as goal

pub returns : goal.returns
returns c = λ kinds.
    let e = c.in-Some.ensures ∙ ap (λ (words : List (List ℕ)). c.in-Some.first.now ∷ words) c.in-Some-split.ensures in
    subst (λ (words : List (List ℕ)). TakesNumbers kinds Two words c.two_numbers.result) (sym e) (c.two_numbers.ensures kinds c.in-Some-split.field-0-1.now)
