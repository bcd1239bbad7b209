use Rattle.std.proofs.Common.{◌≡◌, drop}
use Rattle.ctl_types.specs.Values.{zeros_after, struct_zeros}
use Rattle.eval_values.proofs.zeros.struct_zeros.Given as goal

abbrev pub invariant-loop-definition : goal.invariant-loop-definition
invariant-loop-definition l = zeros_after l.zeros (drop l.definition-index l.structs) ≡ struct_zeros l.structs
