use Rattle.std.proofs.Common.{List, map, ap, sym, ◌∙◌, arith}
use Rattle.ctl_types.specs.declared.program.Field.{Field}
use Rattle.level_counts.specs.Told.{told, total}
use Rattle.level_counts.specs.Shapes.{scalars_in, stated_shape}
use Rattle.level_counts.proofs.Sums.{adds_all, list_more, list_done}
use Rattle.level_counts.proofs.Counts.{struct_is}
use Rattle.level_counts.proofs.scalars.struct_scalars.Goals as goal

pub loop-field-init : goal.loop-field-init
loop-field-init c = adds_all _

pub loop-field-preserved : goal.loop-field-preserved
loop-field-preserved c = list_more (λ (f : Field). scalars_in c.args.counts.now (stated_shape f.shape)) c.as_slice-fields.result.now c.loop-field.field-index c.field-item.result _ _ _ _ (omega arith) c.field-item.is c.loop-field.invariant c.in_ok-more.ensures c.and-scalars.ensures

pub returns : goal.returns
returns c =
    list_done (λ (f : Field). scalars_in c.args.counts.now (stated_shape f.shape)) c.as_slice-fields.result.now c.loop-field.field-index _ _ (omega arith) c.loop-field.invariant
    ∙ ap (λ (fields : List Field). told (total (map (λ (f : Field). scalars_in c.args.counts.now (stated_shape f.shape)) fields))) c.as_slice-fields.ensures
    ∙ sym (ap told (struct_is c.args.counts.now c.args.one.now))
