-- Goals of `following::read_numbers`.
use Rattle.std.proofs.Common.{sym, subst}
use Rattle.command_line.specs.declared.option.Count.{Count}
use Rattle.command_line.specs.Taking.{TakesNumbers}
use Rattle.command_line.proofs.following.read_numbers.Goals as goal

pub returns-in-One : goal.returns-in-One
returns-in-One c = λ kinds. subst (λ (k : Count). TakesNumbers kinds k c.args.words.now c.read_one.result) (sym c.in-One.is) (c.read_one.ensures kinds)

pub returns-in-Two : goal.returns-in-Two
returns-in-Two c = λ kinds. subst (λ (k : Count). TakesNumbers kinds k c.args.words.now c.read_two.result) (sym c.in-Two.is) (c.read_two.ensures kinds)

pub returns-in-Three : goal.returns-in-Three
returns-in-Three c = λ kinds. subst (λ (k : Count). TakesNumbers kinds k c.args.words.now c.read_three.result) (sym c.in-Three.is) (c.read_three.ensures kinds)
