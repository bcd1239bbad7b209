use Rattle.std.proofs.Common.{ap, ◌∙◌, arith}
use Rattle.ctl_types.specs.Shapes.{struct_scalars}
use Rattle.level_counts.specs.Told.{told}
use Rattle.level_counts.proofs.Counts.{structs_more, structs_done}
use Rattle.level_counts.proofs.scalars.count_structs.Goals as goal

pub loop-one-preserved : goal.loop-one-preserved
loop-one-preserved c = structs_more c.args.structs.now c.loop-one.one-index c.one-item.result _ _ _ _ (omega arith) c.one-item.is c.loop-one.invariant (c.in_ok-scalars.ensures ∙ ap (λ l. told (struct_scalars l c.one-item.result)) c.as_slice.ensures) c.in_ok-push.ensures.ok

pub returns : goal.returns
returns c = structs_done c.args.structs.now c.loop-one.one-index _ (omega arith) c.loop-one.invariant
