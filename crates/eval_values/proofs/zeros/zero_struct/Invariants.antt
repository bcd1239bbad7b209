use Rattle.std.proofs.Common.{◌≡◌, ◌++◌, drop, map}
use Rattle.ctl_types.specs.declared.program.Field.{Field}
use Rattle.ctl_types.specs.Shapes.{whole_of, base_of}
use Rattle.ctl_types.specs.Values.{zero_of}
use Rattle.eval_values.proofs.zeros.zero_struct.Given as goal

abbrev pub invariant-loop-field : goal.invariant-loop-field
invariant-loop-field l = l.fields ++ map (λ (f : Field). zero_of l.zeros (whole_of f.shape).sizes (base_of f.shape)) (drop l.field-index l.field-items) ≡ map (λ (f : Field). zero_of l.zeros (whole_of f.shape).sizes (base_of f.shape)) l.field-items
