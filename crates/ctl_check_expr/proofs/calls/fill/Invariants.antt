use Rattle.std.proofs.Common.{◌≡◌, map, drop}
use Rattle.ctl_check_expr.specs.Calls.{missing, formal_of}
use Rattle.ctl_check_expr.proofs.calls.fill.Given as goal

abbrev pub invariant-loop-parameter : goal.invariant-loop-parameter
invariant-loop-parameter l = missing (map formal_of (drop l.parameter-index l.parameters)) l.before ≡ missing (map formal_of l.parameters) l.fn.first
