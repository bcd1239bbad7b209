use Rattle.std.proofs.Common.{sym, ap, ◌∙◌}
use Rattle.ctl_scope.specs.Names.{are_distinct}
use Rattle.ctl_scope.proofs.Tables.{distinct}
use Rattle.ctl_scope.proofs.names.NameTable.are_distinct.Goals as goal

pub returns : goal.returns
returns c = sym (ap are_distinct c.self.view_is) ∙ distinct c.self.inside.meanings.entries c.len-count.ensures.unique
