-- Goals of `calling::call`.
use Rattle.std.proofs.Common.{sym, ◌∙◌}
use Rattle.ctl_stdlib.proofs.calling.call.Goals as goal

pub number-requires : goal.number-requires
number-requires c = record { given = c.requires.given }

pub one-requires : goal.one-requires
one-requires c = c.requires.free ∙ c.in-Some.ensures.one

pub returns-in-Some : goal.returns-in-Some
returns-in-Some c = record { value = c.one.ensures.filled ∙ c.in-Some.ensures.given.value c.args.sizes.now c.args.table.now; answer = c.one.ensures.done ∙ sym c.in-Some.ensures.given.goes_on }
