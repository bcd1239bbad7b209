use Rattle.std.proofs.Common.{◌∙◌, ap, map, get_or, false}
use Rattle.level_rules.specs.Reached.{number_in}
use Rattle.level_rules.specs.Rows.{in_row, tells}
use Rattle.level_table.specs.Told.{variables_from, variable_count}
use Rattle.level_table.proofs.Variables.{told_is}
use Rattle.level_table.proofs.told.told.Goals as goal

pub returns : goal.returns
returns c = told_is c.args.known.now.functions (tells c.args.known.now.rows) c.args.table.now c.args.instance.now c.in_ok-own.own c.in_ok-row.row c.variable_count-count.result c.marked.result c.in_ok-variables.variables c.in_ok-found.found c.in_ok-called.called
    c.in_ok-own.ensures
    (c.marked.ensures ∙ ap (λ r. get_or r 0 false) c.as_slice-4.ensures)
    (c.in_ok-variables.ensures ∙ ap (λ r. variables_from (in_row r) 0 c.variable_count-count.result) c.as_slice.ensures)
    (c.variable_count-count.ensures ∙ ap variable_count c.function.ensures)
    c.in_ok-row.ensures
    c.in_ok-found.ensures
    (c.in_ok-called.ensures ∙ ap (map (number_in c.args.table.now)) c.as_slice-3.ensures)
