use Rattle.std.proofs.Common.{ℕ, ◌≡◌, ◌<◌, length, slice_index, nat_cmp}
use Rattle.std.specs.Option.{unwrap_or}
use Rattle.std.specs.BTreeMap.{get}
use Rattle.line_watch.proofs.bin_map.BinMapWatcher.report.Given as goal

abbrev pub invariant-places : goal.invariant-places
invariant-places l = record {
  many : length l.numbers ≡ 48;
  so_far : (k : ℕ) → k < l.place → slice_index l.numbers k ≡ unwrap_or (get nat_cmp l.counts k) 0;
}
