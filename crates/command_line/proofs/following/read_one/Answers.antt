-- Goals of `following::read_one`.
use Rattle.std.proofs.Common.{ℕ, List, sym, subst}
use Rattle.command_line.specs.declared.option.Count.TheVariants.{One}
use Rattle.command_line.specs.Taking.{TakesNumbers}
use Rattle.command_line.proofs.following.read_one.Goals as goal

pub returns : goal.returns
returns c = λ kinds. subst (λ (words : List (List ℕ)). TakesNumbers kinds One words c.one_number.result) (sym c.in-Some.ensures) (c.one_number.ensures kinds c.in-Some.field-0-1.now)
