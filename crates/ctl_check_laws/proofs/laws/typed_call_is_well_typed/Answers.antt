use Rattle.ctl_check_laws.proofs.Conclusion.{literals_in_range, typed_call_is_well_typed}
use Rattle.ctl_check_laws.proofs.laws.typed_call_is_well_typed.Goals as goal

pub returns : goal.returns
returns c = typed_call_is_well_typed (literals_in_range c.saturation_clamps.ensures c.halves_stay_in_range.ensures c.half_keeps.ensures)
