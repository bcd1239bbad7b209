use Rattle.std.proofs.Common.{◌≡◌, ◌==◌, drop, map}
use Rattle.ctl_types.specs.declared.program.Parameter.{Parameter}
use Rattle.ctl_types.specs.Shapes.{open_sizes_of}
use Rattle.eval_values.proofs.fitting.are_open.Given as goal

abbrev pub invariant-loop-parameter : goal.invariant-loop-parameter
invariant-loop-parameter l = (l.left == open_sizes_of (map (λ (q : Parameter). q.shape) (drop l.parameter-index l.parameters))) ≡ (l.fn.count == open_sizes_of (map (λ (q : Parameter). q.shape) l.parameters))
