-- Goals of `reading::read_items`.
use Rattle.std.proofs.Common.{List, Ok, subst}
use Rattle.std.proofs.lemmas.List.{take_rest}
use Rattle.command_line.specs.declared.item.Item.{Item}
use Rattle.command_line.specs.Taking.{TakesNext}
use Rattle.command_line.proofs.Next.{one_more, shorter}
use Rattle.command_line.proofs.reading.read_items.Goals as goal

pub each-preserved : goal.each-preserved
each-preserved c =
    let taken : TakesNext c.args.kinds.now c.each.items.items c.in-Some.word.now c.in-Some.behind.now (Ok c.in-Ok.taken) =
    subst (λ (x : List Item). TakesNext c.args.kinds.now x c.in-Some.word.now c.in-Some.behind.now (Ok c.in-Ok.taken)) c.as_slice.ensures.value c.in-Ok.ensures in
    rw (take_rest c.in-Some.behind.now c.in-Ok.taken.1) (
      one_more c.args.kinds.now c.each.items.items c.push.new.self.items c.args.words.now c.each.rest.now c.in-Some.word.now c.in-Some.behind.now c.in-Ok.taken c.each.invariant.0 c.in-Some.ensures taken c.in_ok-push.ensures.items,
      shorter c.args.words.now c.each.rest.now c.in-Some.word.now c.in-Some.behind.now c.in-Ok.taken.1 c.each.invariant.1 c.in-Some.ensures,
    )
