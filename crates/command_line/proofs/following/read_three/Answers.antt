-- Goals of `following::read_three`.
use Rattle.std.proofs.Common.{ℕ, List, ◌∷◌, sym, ap, ◌∙◌, subst}
use Rattle.command_line.specs.declared.option.Count.TheVariants.{Three}
use Rattle.command_line.specs.Taking.{TakesNumbers}
use Rattle.command_line.proofs.following.read_three.Goals as goal

pub returns : goal.returns
returns c = λ kinds.
    let e = c.in-Some.ensures ∙ ap (λ (words : List (List ℕ)). c.in-Some.first.now ∷ words) (c.in-Some-split.ensures ∙ ap (λ (words : List (List ℕ)). c.in-Some-split.second.now ∷ words) c.in-Some-split-2.ensures) in
    subst (λ (words : List (List ℕ)). TakesNumbers kinds Three words c.three_numbers.result) (sym e) (c.three_numbers.ensures kinds c.in-Some-split-2.field-0-1.now)
