-- Goals of `ranges::tables_stay_in_range`.
use Rattle.library_ranges.proofs.Tables.{tables_law}
use Rattle.library_ranges.proofs.ranges.tables_stay_in_range.Goals as goal

pub returns : goal.returns
returns c = tables_law c.saturation_clamps.ensures c.vectors_stay_in_range.ensures
