use Rattle.initialiser_laws.proofs.Conclusion.{returns_are_well}
use Rattle.initialiser_laws.proofs.laws.returns_are_well.Goals as goal

pub returns : goal.returns
returns c = returns_are_well c.typed_is_well_typed.ensures c.fitting_has_type.ensures c.stated_sizes_fit.ensures
