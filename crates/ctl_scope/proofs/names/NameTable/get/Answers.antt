use Rattle.std.proofs.Common.{ap, ◌∙◌}
use Rattle.ctl_scope.specs.Names.{meaning_in}
use Rattle.ctl_scope.proofs.Tables.{found}
use Rattle.ctl_scope.proofs.names.NameTable.get.Goals as goal

pub returns-in-Some : goal.returns-in-Some
returns-in-Some c = c.in-Some.ensures.value ∙ found c.args.name.now c.self.inside.meanings.entries ∙ ap (meaning_in c.args.name.now) c.self.view_is

pub returns-in-None : goal.returns-in-None
returns-in-None c = c.in-None.ensures.value ∙ found c.args.name.now c.self.inside.meanings.entries ∙ ap (meaning_in c.args.name.now) c.self.view_is
