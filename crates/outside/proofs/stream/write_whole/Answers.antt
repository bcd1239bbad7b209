use Rattle.std.proofs.Common.{arith, ◌∙◌, length-take, length-drop}
use Rattle.outside.proofs.Bytes.{appends_more}
use Rattle.outside.proofs.stream.write_whole.Goals as goal

pub writes-preserved : goal.writes-preserved
writes-preserved g c =
    let fits = simp (length-take, length-drop) at c.in_ok-done.ensures.bound in
    (omega arith, appends_more _ _ _ _ _ _ c.writes.invariant.1 c.in_ok-done.ensures.bytes, c.in_ok-done.ensures.cause ∙ c.writes.invariant.2)
