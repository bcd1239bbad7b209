-- Means of the code: one more at a place, and the places of counts in a map.
use Rattle.std.specs.Prelude.{◌≡◌, ℕ, ◌==◌, if◌then◌else◌, List, length}
use Rattle.std.specs.List.{enumerate_from}
use Rattle.std.specs.Map.{values_of}
use Rattle.ctl_base.specs.Steps.{one_more}
use Rattle.line_watch.specs.Tally.{at_places}

-- The counts, with one more at place k.
unfoldable pub one_more_at : ℕ → List ℕ → List ℕ
one_more_at k counts = at_places (λ i n. if i == k then one_more n else n) 0 counts

-- There are forty-eight counts, each under its place.
pub record HasEachPlace (entries : List (ℕ × ℕ)) : Type 0 where
  pub places : entries ≡ enumerate_from 0 (values_of entries)
  pub many : length (values_of entries) ≡ 48
