use Rattle.std.proofs.Common.{◌≡◌, ◌++◌, map, drop}
use Rattle.ctl_types.specs.Library.{param_of}
use Rattle.ctl_types.proofs.row.row_of.Given as goal

abbrev pub invariant-loop-param : goal.invariant-loop-param
invariant-loop-param l = l.shapes ++ map param_of (drop l.param-index l.param-items) ≡ map param_of l.param-items
