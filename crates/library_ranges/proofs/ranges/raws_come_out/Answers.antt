-- Goals of `ranges::raws_come_out`.
use Rattle.std.proofs.Common.{arith}
use Rattle.fix_num.specs.declared.TheConstants.{FRACTION}
use Rattle.library_ranges.proofs.Rows.{rows_law}
use Rattle.library_ranges.proofs.ranges.raws_come_out.Goals as goal

pub returns : goal.returns
returns c = rows_law (record {
  arithmetic = c.arithmetic_stays_in_range.ensures FRACTION (omega arith);
  halves = c.halves_stay_in_range.ensures FRACTION (omega arith);
  elementary = c.elementary_stays_in_range.ensures FRACTION (omega arith);
  angles = c.angles_stay_in_range.ensures FRACTION (omega arith);
  vectors = c.vectors_stay_in_range.ensures FRACTION (omega arith);
  tables = c.tables_stay_in_range.ensures FRACTION (omega arith);
})
