use Rattle.definition_laws.proofs.Constants.{constants_all_fit}
use Rattle.definition_laws.proofs.laws.accepted_constants_fit.Goals as goal

pub returns : goal.returns
returns c = constants_all_fit c.initialisers_are_well.ensures c.initialisers_are_sound.ensures.plain c.found_is_there.ensures c.beside_grows.ensures c.signatures_stay.ensures
