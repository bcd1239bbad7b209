use Rattle.std.proofs.Common.{◌≡◌, drop}
use Rattle.std.specs.Ordering.{nat_cmp}
use Rattle.std.specs.Cmp.Lexicographic.{slice_cmp}
use Rattle.std.specs.FinMap as map
use Rattle.outside.proofs.mem_box.find.Given as goal

abbrev pub invariant-loop-held : goal.invariant-loop-held
invariant-loop-held l = map.find (slice_cmp nat_cmp) l.name (drop l.held-index l.files) ≡ map.find (slice_cmp nat_cmp) l.name l.files
