-- Goals of `ranges::angles_stay_in_range`.
use Rattle.library_ranges.proofs.Angles.{angles_law}
use Rattle.library_ranges.proofs.ranges.angles_stay_in_range.Goals as goal

pub returns : goal.returns
returns c = angles_law (record { arithmetic = c.arithmetic_stays_in_range.ensures; clamps = c.saturation_clamps.ensures; bounds = c.rounding_keeps_bounds.ensures; turns = c.turns_fit.ensures })
