-- Goals of `ranges::vectors_stay_in_range`.
use Rattle.library_ranges.proofs.Vectors.{vectors_law}
use Rattle.library_ranges.proofs.ranges.vectors_stay_in_range.Goals as goal

pub returns : goal.returns
returns c = vectors_law c.arithmetic_stays_in_range.ensures c.saturation_clamps.ensures
