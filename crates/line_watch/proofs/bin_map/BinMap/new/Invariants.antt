use Rattle.std.proofs.Common.{◌≡◌, replicate}
use Rattle.std.specs.List.{enumerate_from}
use Rattle.line_watch.proofs.bin_map.BinMap.new.Given as goal

abbrev pub invariant-places : goal.invariant-places
invariant-places l = l.counts.entries ≡ enumerate_from 0 (replicate l.place 0)
