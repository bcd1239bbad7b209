use Rattle.definition_laws.proofs.Spaces.{spaces_all_rest}
use Rattle.definition_laws.proofs.laws.spaces_rest.Goals as goal

pub returns : goal.returns
returns c = spaces_all_rest c.beside_begins.ensures
