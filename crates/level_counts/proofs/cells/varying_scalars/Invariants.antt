use Rattle.std.proofs.Common.{◌||◌, drop, get_or, false}
use Rattle.ctl_types.specs.Shapes.{struct_counts}
use Rattle.level_counts.specs.Cells.{varying_from}
use Rattle.level_counts.proofs.Sums.{Adds}
use Rattle.level_counts.proofs.cells.varying_scalars.Given as goal

abbrev pub invariant-loop-number : goal.invariant-loop-number
invariant-loop-number l = Adds l.scalars (varying_from (struct_counts l.definitions.structs) (λ x. l.control || get_or l.variables x false) l.number (drop l.number l.table)) (varying_from (struct_counts l.definitions.structs) (λ x. l.control || get_or l.variables x false) 0 l.table)
