use Rattle.std.proofs.Common.{ap, ◌∙◌}
use Rattle.ctl_types.specs.Shapes.{struct_counts}
use Rattle.level_counts.specs.Told.{told}
use Rattle.level_counts.specs.Shapes.{scalars_in}
use Rattle.level_counts.proofs.Sums.{told_right, told_times}
use Rattle.level_counts.proofs.statements.list_parts.Goals as goal

pub returns : goal.returns
returns c = told_right 1 _ c.times.result _ (told_times c.args.count _ c.scalars.result _ (c.scalars.ensures ∙ ap (λ v. told (scalars_in (struct_counts c.args.definitions.now.structs) v)) c.in_ok-element.ensures) c.times.ensures) c.and.ensures
