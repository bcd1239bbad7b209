use Rattle.std.proofs.Common.{map, drop}
use Rattle.ctl_types.specs.declared.program.Field.{Field}
use Rattle.level_counts.specs.Told.{total}
use Rattle.level_counts.specs.Shapes.{scalars_in, stated_shape}
use Rattle.level_counts.proofs.Sums.{Adds}
use Rattle.level_counts.proofs.scalars.struct_scalars.Given as goal

abbrev pub invariant-loop-field : goal.invariant-loop-field
invariant-loop-field l = Adds l.scalars (total (map (λ (f : Field). scalars_in l.counts (stated_shape f.shape)) (drop l.field-index l.fields))) (total (map (λ (f : Field). scalars_in l.counts (stated_shape f.shape)) l.fields))
