use Rattle.std.proofs.Common.{sym, ◌∙◌}
use Rattle.ctl_scope.proofs.Library.{function_found, no_function}
use Rattle.ctl_scope.proofs.look_up.in_library.Goals as goal

pub returns-in-Some : goal.returns-in-Some
returns-in-Some c = sym (function_found c.in-Some.function c.args.name.now c.in-Some.ensures)

pub returns-in-None : goal.returns-in-None
returns-in-None c = c.constant_or_struct.ensures ∙ sym (no_function c.args.name.now c.in-None.ensures)
