use Rattle.std.proofs.Common.{◌≡◌, ◌+◌, ◌≤◌, drop}
use Rattle.std.specs.Prelude.{min, sum_by}
use Rattle.ctl_types.specs.declared.program.Field.{Field}
use Rattle.ctl_types.specs.Shapes.{base_of, whole_of, scalars_of}
use Rattle.ctl_base.specs.declared.limits.TheConstants.{SCALARS}
use Rattle.ctl_check_function.proofs.scalars.scalars_of_fields.Given as goal

abbrev pub invariant-loop-field : goal.invariant-loop-field
invariant-loop-field l = (l.scalars ≤ SCALARS + 1) × (min (l.scalars + sum_by (λ (f : Field). scalars_of l.counts (whole_of f.shape).sizes (base_of f.shape)) (drop l.field-index l.fields)) (SCALARS + 1) ≡ min (sum_by (λ (f : Field). scalars_of l.counts (whole_of f.shape).sizes (base_of f.shape)) l.fields) (SCALARS + 1))
