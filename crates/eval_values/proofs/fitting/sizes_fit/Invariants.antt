use Rattle.std.proofs.Common.{◌≡◌, drop}
use Rattle.ctl_types.specs.Values.{sizes_fit}
use Rattle.eval_values.proofs.fitting.sizes_fit.Given as goal

abbrev pub invariant-loop-size : goal.invariant-loop-size
invariant-loop-size l = sizes_fit (drop l.size-index l.opens) ≡ sizes_fit l.opens
