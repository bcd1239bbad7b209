use Rattle.initialiser_laws.proofs.Conclusion.{initialisers_are_well}
use Rattle.initialiser_laws.proofs.laws.initialisers_are_well.Goals as goal

pub returns : goal.returns
returns c = initialisers_are_well c.typed_is_well_typed.ensures c.fitting_has_type.ensures c.stated_sizes_fit.ensures c.fields_stand.ensures
