-- The crate's own means: how its private contracts see the code's struct, and what they say of a segment. F is the number of fraction bits.
use Rattle.std.specs.Prelude.{ℕ, ℤ, pos, ◌<◌, ◌≤ℤ◌}
use Rattle.fix_num.specs.Fixed.{one}
use Rattle.table_lookup.specs.declared.axis.Segment.{Segment as Parts}
use Rattle.table_lookup.specs.Between.{Segment}

-- the segment of these parts
abbrev pub segment_of : Parts → Segment
segment_of a = record { low = a.low; high = a.high; part = a.part }

-- a segment among n entries: both are there, and the part is from 0 to 1
pub record IsSegment (F n : ℕ) (a : Segment) : Type 0 where
  pub first : a.low < n
  pub second : a.high < n
  pub from : pos 0 ≤ℤ a.part
  pub to : a.part ≤ℤ one F
