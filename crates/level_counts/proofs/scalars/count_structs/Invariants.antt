use Rattle.std.proofs.Common.{◌≡◌, [], drop}
use Rattle.level_counts.proofs.Counts.{told_after}
use Rattle.level_counts.proofs.scalars.count_structs.Given as goal

abbrev pub invariant-loop-one : goal.invariant-loop-one
invariant-loop-one l = told_after l.counts (drop l.one-index l.structs) ≡ told_after [] l.structs
