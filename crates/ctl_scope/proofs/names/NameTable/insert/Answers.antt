use Rattle.std.proofs.Common.{[], ◌∷◌, ◌++◌, ap, ◌∙◌}
use Rattle.ctl_scope.specs.Names.{meaning_in, names_of}
use Rattle.ctl_scope.proofs.Tables.{inserted}
use Rattle.ctl_scope.proofs.names.NameTable.insert.Goals as goal

pub returns-clause-last : goal.returns-clause-last
returns-clause-last c =
    let key = c.in_ok-from_slice.field-0 in
    let table = c.self.inside.meanings in
    let name = c.args.name.now in
    let bytes = c.in_ok-from_slice.ensures.items in
    let none = ap (λ n. meaning_in n (names_of table.entries)) bytes ∙ ap (meaning_in name) c.self.view_is ∙ c.requires in
    ap names_of c.in_ok-insert.ensures.entries
    ∙ inserted table key c.args.meaning none
    ∙ ap (λ names. names ++ (key.items, c.args.meaning) ∷ []) c.self.view_is
    ∙ ap (λ n. c.args.self.now ++ (n, c.args.meaning) ∷ []) bytes
