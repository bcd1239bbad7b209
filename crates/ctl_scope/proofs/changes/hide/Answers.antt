use Rattle.std.proofs.Common.{◌≡◌, ◌+◌, length, sym, ap, refl, ◌∙◌, arith}
use Rattle.ctl_scope.proofs.Lists.{hidden_none, hidden_long, hidden_next, hidden_done}
use Rattle.ctl_scope.proofs.changes.hide.Goals as goal

pub loop-number-init : goal.loop-number-init
loop-number-init c = (sym (hidden_none c.args.start c.args.variables.now), refl)

pub loop-number-preserved : goal.loop-number-preserved
loop-number-preserved c =
    let vs = c.args.variables.now in
    let more = c.set.ensures ∙ hidden_next c.args.start c.loop-number.number (c.loop-number.number + 1) vs c.loop-number.variables refl c.loop-number.auto.number (omega (arith, c.loop-number-test.true, c.len-number-end.ensures)) c.loop-number.invariant.0 in
    (more, ap length more ∙ hidden_long c.args.start (c.loop-number.number + 1) vs)

pub returns : goal.returns
returns c =
    let vs = c.args.variables.now in
    let done : c.loop-number.number ≡ length vs = omega (arith, c.loop-number-test.false, c.len-number-end.ensures, c.loop-number.auto.number-end, c.requires) in
    hidden_done c.args.start c.loop-number.number vs c.loop-number.variables c.requires done c.loop-number.invariant.0
