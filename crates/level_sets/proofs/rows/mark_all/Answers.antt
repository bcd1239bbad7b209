use Rattle.std.proofs.Common.{arith, refl, subst}
use Rattle.level_sets.specs.Closing.{IsMark}
use Rattle.level_sets.proofs.Closing.{marked_more}
use Rattle.level_sets.proofs.rows.mark_all.Goals as goal

pub loop-holder-preserved : goal.loop-holder-preserved
loop-holder-preserved c = rw c.either-changed.ensures (marked_more c.args.puts.now c.loop-holder.holder-index _ _ _ _ _ _ _ (omega arith) refl c.loop-holder.invariant (subst (λ m. IsMark m c.loop-holder.row.items c.mark_at.new.row.items c.in_ok-one.one) c.mark_of.ensures c.in_ok-one.ensures))
