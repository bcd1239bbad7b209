use Rattle.std.proofs.Common.{◌≡◌, ◌++◌, drop, map}
use Rattle.ctl_types.specs.Shapes.{size_in}
use Rattle.level_sets.proofs.calls.sizes_in.Given as goal

abbrev pub invariant-loop-size : goal.invariant-loop-size
invariant-loop-size l = l.all ++ map (size_in l.opens) (drop l.size-index l.sizes) ≡ map (size_in l.opens) l.sizes
