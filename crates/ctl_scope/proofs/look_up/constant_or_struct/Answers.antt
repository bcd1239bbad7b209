use Rattle.std.proofs.Common.{Some, sym, ap, ◌∙◌}
use Rattle.ctl_scope.specs.declared.meaning.Meaning.TheVariants.{Constant}
use Rattle.ctl_scope.proofs.Library.{constant_found, no_constant}
use Rattle.ctl_scope.proofs.look_up.constant_or_struct.Goals as goal

pub returns-in-Some : goal.returns-in-Some
returns-in-Some c = ap (λ n. Some (Constant n)) c.number_of.ensures ∙ sym (constant_found c.in-Some.constant c.args.name.now c.in-Some.ensures)

pub returns-in-None : goal.returns-in-None
returns-in-None c = c.struct_named.ensures ∙ sym (no_constant c.args.name.now c.in-None.ensures)
