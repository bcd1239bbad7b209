use Rattle.std.proofs.Common.{sym, ◌∙◌, ap, refl, cond, length, inr, take}
use Rattle.outside.specs.contracts.mem_box.MemBox.{the_view}
use Rattle.outside.specs.MemBox.{stored}
use Rattle.outside.specs.Causes.{raised}
use Rattle.outside.proofs.Keys.{room_is, put_first, stored_as}
use Rattle.outside.proofs.mem_box.MemBoxFileBox.store.Goals as goal

pub returns-then-fails-clause-stored : goal.returns-then-fails-clause-stored
returns-then-fails-clause-stored c =
    let inside = c.self.inside in
    let same = room_is inside.room c.in-Some.field-0 c.args.name.now (length c.args.bytes.now) (sym c.in-Some.ensures.value) (sym c.suffices.ensures ∙ c.if-not-suffices.false) in
    let whole = c.kept-kept.ensures ∙ ap (λ t. cond t (take inside.torn c.args.bytes.now) c.args.bytes.now) c.if-fails.true in
    inr (inr (inside.torn, put_first _ _ _ _ _ _ _ (ap (λ b. b.held) c.self.view_is) c.fill.ensures same whole))

pub returns-clause-stored : goal.returns-clause-stored
returns-clause-stored c =
    let inside = c.self.inside in
    let same = room_is inside.room c.in-Some.field-0 c.args.name.now (length c.args.bytes.now) (sym c.in-Some.ensures.value) (sym c.suffices.ensures ∙ c.if-not-suffices.false) in
    let whole = c.kept-kept.ensures ∙ ap (λ t. cond t (take inside.torn c.args.bytes.now) c.args.bytes.now) c.if-fails.false in
    put_first _ _ _ _ _ _ _ (ap (λ b. b.held) c.self.view_is) c.fill.ensures same whole

pub returns-clause-after : goal.returns-clause-after
returns-clause-after c =
    let inside = c.self.inside in
    let roomy = sym c.suffices.ensures ∙ c.if-not-suffices.false in
    let same = room_is inside.room c.in-Some.field-0 c.args.name.now (length c.args.bytes.now) (sym c.in-Some.ensures.value) roomy in
    stored_as (the_view inside) c.args.name.now c.args.bytes.now c.count_call-fails.result _ _ _ _ roomy (rw c.deref.ensures.value at c.count_call-fails.ensures.fails)
    (put_first _ _ _ _ _ _ _ refl c.fill.ensures same c.kept-kept.ensures) c.with-self-inside-2.ensures (ap (λ f. cond f (raised inside.lost) inside.lost) (sym c.if-fails.false)) c.take.ensures.after
    ∙ ap (λ b. stored b c.args.name.now c.args.bytes.now) c.self.view_is

pub returns-then-fails-clause-after : goal.returns-then-fails-clause-after
returns-then-fails-clause-after c =
    let inside = c.self.inside in
    let roomy = sym c.suffices.ensures ∙ c.if-not-suffices.false in
    let same = room_is inside.room c.in-Some.field-0 c.args.name.now (length c.args.bytes.now) (sym c.in-Some.ensures.value) roomy in
    stored_as (the_view inside) c.args.name.now c.args.bytes.now c.count_call-fails.result _ _ _ _ roomy (rw c.deref.ensures.value at c.count_call-fails.ensures.fails)
    (put_first _ _ _ _ _ _ _ refl c.fill.ensures same c.kept-kept.ensures) c.with-self-inside-2.ensures (c.count_failure-then-fails.ensures.counts ∙ ap (λ f. cond f (raised inside.lost) inside.lost) (sym c.if-fails.true)) c.take.ensures.after
    ∙ ap (λ b. stored b c.args.name.now c.args.bytes.now) c.self.view_is
