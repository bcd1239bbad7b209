use Rattle.std.proofs.Common.{◌≡◌, [], true, drop}
use Rattle.ctl_check_function.specs.Parameters.{parameters_checked}
use Rattle.ctl_check_function.proofs.parameters.check_parameters.Given as goal

abbrev pub invariant-loop-parameter : goal.invariant-loop-parameter
invariant-loop-parameter l = (l.scope.sees_variables ≡ true) × (parameters_checked l.definitions l.is_entry (drop l.parameter-index l.parameters) (record { made = l.before; scope = l.scope }) ≡ parameters_checked l.definitions l.is_entry l.parameters (record { made = []; scope = l.fn.scope }))
