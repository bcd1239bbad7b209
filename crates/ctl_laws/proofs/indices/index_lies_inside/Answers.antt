use Rattle.std.proofs.Common.{ℕ}
use Rattle.ctl_types.specs.Cost.{uncounted, counted}
use Rattle.ctl_laws.proofs.Inside.{inside_law}
use Rattle.ctl_laws.proofs.indices.index_lies_inside.Goals as goal

pub returns-clause-plain : goal.returns-clause-plain
returns-clause-plain c = inside_law (Unit {0}) uncounted

pub returns-clause-counted : goal.returns-clause-counted
returns-clause-counted c = inside_law ℕ counted
