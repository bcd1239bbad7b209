use Rattle.std.proofs.Common.{◌≡◌, ◌≤◌, ◌-◌, drop, map, length}
use Rattle.ctl_types.specs.declared.program.Parameter.{Parameter}
use Rattle.ctl_types.specs.Shapes.{locals}
use Rattle.ctl_types.specs.Values.{arguments_fit}
use Rattle.eval_values.proofs.fitting.arguments_fit.Given as goal

abbrev pub invariant-each : goal.invariant-each
invariant-each l = record {
  so_far : arguments_fit l.structs l.opens (locals 0 (map (λ (q : Parameter). q.shape) (drop l.i l.parameters))) (drop l.i l.frame) ≡ arguments_fit l.structs l.fn.opens (locals 0 (map (λ (q : Parameter). q.shape) l.parameters)) l.frame;
  within : l.i ≤ length l.parameters;
  inside : l.i ≤ length l.frame;
}

abbrev pub decreases-each : goal.decreases-each
decreases-each l = length l.parameters - l.i
