use Rattle.std.proofs.Common.{true, sym, subst}
use Rattle.level_rules.specs.Rows.{tells, IsControlRow}
use Rattle.level_sets.specs.Closing.{Closes}
use Rattle.level_sets.proofs.Passing.{control_is}
use Rattle.level_sets.proofs.rows.control_row.Goals as goal

pub returns : goal.returns
returns c = subst (IsControlRow (tells c.args.rows.now) c.args.function.now) (sym c.from_vec.ensures) (control_is (tells c.args.rows.now) c.args.function.now c.close.new.row.items (subst (λ o. Closes (tells c.args.rows.now) c.args.function.now.body true o c.close.new.row.items) c.new-row.ensures.items c.in_ok-close.ensures))
