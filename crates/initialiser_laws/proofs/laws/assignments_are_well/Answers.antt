use Rattle.initialiser_laws.proofs.Conclusion.{assignments_are_well}
use Rattle.initialiser_laws.proofs.laws.assignments_are_well.Goals as goal

pub returns : goal.returns
returns c = assignments_are_well c.typed_is_well_typed.ensures c.typed_place_is_well_typed.ensures c.conversion_has_type.ensures c.place_has_type.ensures
