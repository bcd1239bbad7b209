use Rattle.level_laws.proofs.Entry.{uniform_values}
use Rattle.level_laws.proofs.uniform.uniform_values.Goals as goal

pub returns-clause-plain : goal.returns-clause-plain
returns-clause-plain c = uniform_values _ _

pub returns-clause-counted : goal.returns-clause-counted
returns-clause-counted c = uniform_values _ _
