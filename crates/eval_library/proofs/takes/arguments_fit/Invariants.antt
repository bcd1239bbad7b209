use Rattle.std.proofs.Common.{◌≡◌, ◌≤◌, ◌-◌, drop, map, length}
use Rattle.ctl_stdlib.specs.declared.row.Param.{Param}
use Rattle.ctl_types.specs.Library.{shape_of}
use Rattle.ctl_types.specs.Shapes.{locals}
use Rattle.ctl_types.specs.Values.{arguments_fit}
use Rattle.eval_library.proofs.takes.arguments_fit.Given as goal

abbrev pub invariant-each : goal.invariant-each
invariant-each l = record {
  so_far : arguments_fit l.structs l.opens (locals 0 (map (λ (p : Param). shape_of p.shape) (drop l.i l.params))) (drop l.i l.frame) ≡ arguments_fit l.structs l.fn.opens (locals 0 (map (λ (p : Param). shape_of p.shape) l.params)) l.frame;
  within : l.i ≤ length l.params;
  inside : l.i ≤ length l.frame;
}

abbrev pub decreases-each : goal.decreases-each
decreases-each l = length l.params - l.i
