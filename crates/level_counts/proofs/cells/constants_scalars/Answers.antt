use Rattle.std.proofs.Common.{arith}
use Rattle.ctl_types.specs.declared.program.Constant.{Constant}
use Rattle.ctl_types.specs.Shapes.{struct_counts}
use Rattle.level_counts.specs.Shapes.{scalars_in, stated_shape}
use Rattle.level_counts.proofs.Sums.{adds_all, list_more, list_done}
use Rattle.level_counts.proofs.cells.constants_scalars.Goals as goal

pub loop-constant-init : goal.loop-constant-init
loop-constant-init c = adds_all _

pub loop-constant-preserved : goal.loop-constant-preserved
loop-constant-preserved c = list_more (λ (k : Constant). scalars_in (struct_counts c.args.definitions.now.structs) (stated_shape k.shape)) c.args.constants.now c.loop-constant.constant-index c.constant-item.result _ _ _ _ (omega arith) c.constant-item.is c.loop-constant.invariant c.in_ok-more.ensures c.and-scalars.ensures

pub returns : goal.returns
returns c = list_done (λ (k : Constant). scalars_in (struct_counts c.args.definitions.now.structs) (stated_shape k.shape)) c.args.constants.now c.loop-constant.constant-index _ _ (omega arith) c.loop-constant.invariant
