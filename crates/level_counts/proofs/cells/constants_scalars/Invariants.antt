use Rattle.std.proofs.Common.{map, drop}
use Rattle.ctl_types.specs.declared.program.Constant.{Constant}
use Rattle.ctl_types.specs.Shapes.{struct_counts}
use Rattle.level_counts.specs.Told.{total}
use Rattle.level_counts.specs.Shapes.{scalars_in, stated_shape}
use Rattle.level_counts.proofs.Sums.{Adds}
use Rattle.level_counts.proofs.cells.constants_scalars.Given as goal

abbrev pub invariant-loop-constant : goal.invariant-loop-constant
invariant-loop-constant l = Adds l.scalars (total (map (λ (k : Constant). scalars_in (struct_counts l.definitions.structs) (stated_shape k.shape)) (drop l.constant-index l.constants))) (total (map (λ (k : Constant). scalars_in (struct_counts l.definitions.structs) (stated_shape k.shape)) l.constants))
