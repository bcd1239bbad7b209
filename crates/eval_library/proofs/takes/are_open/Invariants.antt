use Rattle.std.proofs.Common.{◌≡◌, ◌==◌, drop, map}
use Rattle.ctl_stdlib.specs.declared.row.Param.{Param}
use Rattle.ctl_types.specs.Library.{shape_of}
use Rattle.ctl_types.specs.Shapes.{open_sizes_of}
use Rattle.eval_library.proofs.takes.are_open.Given as goal

abbrev pub invariant-loop-param : goal.invariant-loop-param
invariant-loop-param l = (l.left == open_sizes_of (map (λ (p : Param). shape_of p.shape) (drop l.param-index l.params))) ≡ (l.fn.count == open_sizes_of (map (λ (p : Param). shape_of p.shape) l.params))
