use Rattle.std.proofs.Common.{arith, ◌≡◌, ◌+◌, ◌∷◌, drop, get_or}
use Rattle.ctl_tree.specs.Texts.{unescaped}
use Rattle.ctl_parser.proofs.Unescape.{plain_at, last_at, written_on}
use Rattle.ctl_parser.proofs.texts.text_of.Goals as goal
use Rattle.ctl_parser.proofs.texts.text_of.Goals.{else-byte-eq92-via-then-byte-eq92+else-next-inside, else-byte-eq92-via-else-byte-eq92}

pub each-preserved : goal.each-preserved
each-preserved c =
    let inside = c.between_quotes-inside.result.now in
    let step : unescaped (drop c.each.next inside) ≡ get_or inside c.each.next 0 ∷ unescaped (drop (c.each.next + 1) inside) =
    elim c.else-byte-eq92.branch [
      | else-byte-eq92-via-then-byte-eq92+else-next-inside w ↦ last_at inside c.each.next c.each-test.true w.if-next-inside.false
      | else-byte-eq92-via-else-byte-eq92 w ↦ plain_at inside c.each.next c.each-test.true w.if-byte-eq92.false
    ] in
    record {
      written = written_on inside _ _ _ _ _ c.each.invariant.written step c.in_ok-push-2.ensures.items;
      within = omega arith;
    }
