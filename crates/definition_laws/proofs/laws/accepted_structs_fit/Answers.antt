use Rattle.definition_laws.proofs.Structs.{structs_all_fit}
use Rattle.definition_laws.proofs.laws.accepted_structs_fit.Goals as goal

pub returns : goal.returns
returns c = structs_all_fit c.found_is_there.ensures c.beside_grows.ensures c.signatures_stay.ensures
