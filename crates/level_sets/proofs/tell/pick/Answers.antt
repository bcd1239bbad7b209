use Rattle.std.proofs.Common.{sym, ◌∙◌, arith}
use Rattle.level_sets.proofs.Picked.{pick_past}
use Rattle.level_sets.proofs.tell.pick.Goals as goal

pub returns-then-i-rows : goal.returns-then-i-rows
returns-then-i-rows c = sym (pick_past c.args.bits.now c.args.rows.now c.each.i c.args.mark (omega arith)) ∙ c.each.invariant
