-- Goals of `ranges::elementary_stays_in_range`.
use Rattle.library_ranges.proofs.Powers.{elementary_law}
use Rattle.library_ranges.proofs.ranges.elementary_stays_in_range.Goals as goal

pub returns : goal.returns
returns c = elementary_law (record { arithmetic = c.arithmetic_stays_in_range.ensures; clamps = c.saturation_clamps.ensures; bounds = c.rounding_keeps_bounds.ensures; roots = c.root_is_floor.ensures })
