use Rattle.std.proofs.Common.{◌≡◌, drop}
use Rattle.ctl_types.specs.Definitions.{function_named}
use Rattle.ctl_check.proofs.entry.function_named.Given as goal

abbrev pub invariant-loop-i : goal.invariant-loop-i
invariant-loop-i l = function_named l.name l.«module» l.i (drop l.i l.functions) ≡ function_named l.name l.«module» 0 l.functions
