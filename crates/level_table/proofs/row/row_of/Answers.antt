use Rattle.std.proofs.Common.{arith, subst, sym, ◌∙◌, ap}
use Rattle.level_rules.specs.Rows.{in_row}
use Rattle.level_table.specs.Known.{AllShort}
use Rattle.level_table.proofs.Rows.{so_far_push, row_tells, pushed}
use Rattle.level_table.proofs.row.row_of.Goals as goal

pub loop-mark-preserved : goal.loop-mark-preserved
loop-mark-preserved c = record {
  long = pushed c.loop-mark.row.items c.push.new.self.items c.tell_mark.result c.loop-mark.mark c.loop-mark.invariant.long c.in_ok-push.ensures.items;
  so_far = so_far_push c.args.rows.now c.args.instance.now c.loop-mark.mark c.loop-mark.row.items c.push.new.self.items c.tell_mark.result c.loop-mark.invariant.long c.loop-mark.invariant.so_far c.tell_mark.ensures c.in_ok-push.ensures.items;
}

pub returns : goal.returns
returns c = ap in_row c.from_vec.ensures ∙ row_tells c.args.rows.now c.args.instance.now c.loop-mark.row.items c.loop-mark.mark c.loop-mark.invariant.long c.longest-mark-end.result (subst (AllShort c.longest-mark-end.result) c.rows_at.ensures c.longest-mark-end.ensures) (omega arith) c.loop-mark.invariant.so_far
