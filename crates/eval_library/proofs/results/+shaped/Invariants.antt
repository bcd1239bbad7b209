use Rattle.std.proofs.Common.{◌≡◌, ◌+◌, ◌*◌, [], drop, length, replicate}
use Rattle.ctl_types.specs.declared.shape.Base.TheVariants.{Scalar as ScalarBase}
use Rattle.ctl_types.specs.Values.{filled, fill_all, zero_of}
use Rattle.eval_library.proofs.FilledIn.{behind}
use Rattle.eval_library.proofs.results.+shaped.Given as goal

abbrev pub decreases-shaped : goal.decreases-shaped
decreases-shaped l = 2 * length l.sizes.now

abbrev pub decreases-shaped_all : goal.decreases-shaped_all
decreases-shaped_all l = 2 * length l.sizes.now + 1

abbrev pub invariant-shaped_all-each : goal.invariant-shaped_all-each
invariant-shaped_all-each l = fill_all (replicate l.count (filled (zero_of [] l.sizes (ScalarBase l.kind)))) (drop l.fn.at l.words) ≡ behind l.parts (fill_all (replicate l.left (filled (zero_of [] l.sizes (ScalarBase l.kind)))) (drop l.at l.words))

abbrev pub decreases-shaped_all-each : goal.decreases-shaped_all-each
decreases-shaped_all-each l = l.left
