use Rattle.std.proofs.Common.{sym, subst}
use Rattle.level_rules.specs.Rows.{tells, IsRow}
use Rattle.level_sets.specs.Closing.{IsMark}
use Rattle.level_sets.proofs.Passing.{parameter_is}
use Rattle.level_sets.proofs.rows.parameter_row.Goals as goal

pub returns : goal.returns
returns c k e = subst (IsRow (tells c.args.rows.now) c.args.function.now k) (sym c.from_vec.ensures) (parameter_is (tells c.args.rows.now) c.args.function.now k c.args.mark c.mark_at.new.row.items c.close.new.row.items c.in_ok-mark_at.field-0 (sym e) (subst (λ o. IsMark c.args.mark o c.mark_at.new.row.items c.in_ok-mark_at.field-0) c.new-row.ensures.items c.in_ok-mark_at.ensures) c.in_ok-close.ensures)
