use Rattle.initialiser_laws.proofs.Conclusion.{tests_are_bool}
use Rattle.initialiser_laws.proofs.laws.tests_are_bool.Goals as goal

pub returns : goal.returns
returns c = tests_are_bool c.fitting_has_type.ensures
