use Rattle.std.proofs.Common.{◌+◌}
use Rattle.ctl_base.specs.declared.limits.TheConstants.{SCALARS}
use Rattle.ctl_check_function.proofs.Capping.{array_scalars}
use Rattle.ctl_check_function.proofs.scalars.+scalars_of_shape.Goals as goal

pub returns-in-Array : goal.returns-in-Array
returns-in-Array t c =
    array_scalars c.args.counts.now c.args.shape.now c.in-Array.elements c.get.result.now c.in-Array.extent c.size_of.result c.scalars_of_shape.result c.capped.result (SCALARS + 1)
    c.in-Array.is c.size_of.ensures c.get.ensures c.scalars_of_shape.ensures c.capped.ensures
