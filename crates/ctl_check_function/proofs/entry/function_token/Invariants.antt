use Rattle.std.proofs.Common.{◌≡◌, drop}
use Rattle.ctl_check_function.specs.Entry.{function_token}
use Rattle.ctl_check_function.proofs.entry.function_token.Given as goal

abbrev pub invariant-loop-definition : goal.invariant-loop-definition
invariant-loop-definition l = function_token l.name (drop l.definition-index l.definitions) ≡ function_token l.name l.definitions
