use Rattle.level_laws.proofs.Stays.{varying_places}
use Rattle.level_laws.proofs.uniform.varying_places.Goals as goal

pub returns-clause-plain : goal.returns-clause-plain
returns-clause-plain c = varying_places _ _

pub returns-clause-counted : goal.returns-clause-counted
returns-clause-counted c = varying_places _ _
