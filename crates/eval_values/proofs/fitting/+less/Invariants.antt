use Rattle.std.proofs.Common.{◌≡◌, drop, length}
use Rattle.ctl_types.specs.Values.{flat_all}
use Rattle.eval_values.specs.Sizes.{less}
use Rattle.eval_values.proofs.fitting.+less.Given as goal

abbrev pub invariant-less_all-loop-part : goal.invariant-less_all-loop-part
invariant-less_all-loop-part l = less l.left (length (flat_all (drop l.part-index l.parts))) ≡ less l.fn.count (length (flat_all l.parts))
