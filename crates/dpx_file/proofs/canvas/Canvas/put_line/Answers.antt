use Rattle.std.proofs.Common.{◌≡◌, ◌∙◌, sym, ap, subst, ◌+◌, ◌-◌, ◌*◌, List, ℕ, length, arith}
use Rattle.std.proofs.lemmas.List.{with_items_is}
use Rattle.std.specs.Vec.{with_items}
use borrow.Rule.Slice.PartMut.{put_mid}
use Rattle.dpx_file.specs.Plain.{PlainImage, CodesFit, with_line}
use Rattle.dpx_file.proofs.Written.{new_written, new_shown}
use Rattle.dpx_file.proofs.canvas.Canvas.put_line.Goals as goal

pub invariant_of-self : goal.invariant_of-self
invariant_of-self c =
    let i = c.self.inside in
    let codes = c.args.codes.now in
    let start = c.line_start-start.result in
    let size = start + c.line_size.result - start in
    let height = ap (λ (m : PlainImage). m.height) c.self.view_is in
    let count = c.requires.count ∙ ap (λ (m : PlainImage). 3 * m.width) (sym c.self.view_is) in
    let fit = subst (λ (m : PlainImage). CodesFit m.depth codes) (sym c.self.view_is) c.requires.fit in
    let same : size ≡ c.line_size.result = omega arith in
    let writes = put_mid start size c.deref_mut.result.now c.encode.new.out in
    let now_is = λ (e : length (put_mid start size i.bytes.items c.encode.new.out) ≡ length i.bytes.items).
    with_items_is i.bytes writes (rw c.deref_mut.ensures.value (e ∙ sym i.bytes.ok.0)) ∙ ap (λ (l : List ℕ). put_mid start size l c.encode.new.out) c.deref_mut.ensures.value in
    new_written i.width i.height i.depth i.bytes.items c.self.invariant c.args.y (omega (arith, height)) codes c.encode.new.out (with_items i.bytes writes).items start size
    count fit c.line_start-start.ensures (same ∙ c.line_size.ensures) c.encode.ensures now_is

pub returns : goal.returns
returns c =
    let i = c.self.inside in
    let codes = c.args.codes.now in
    let start = c.line_start-start.result in
    let size = start + c.line_size.result - start in
    let height = ap (λ (m : PlainImage). m.height) c.self.view_is in
    let count = c.requires.count ∙ ap (λ (m : PlainImage). 3 * m.width) (sym c.self.view_is) in
    let fit = subst (λ (m : PlainImage). CodesFit m.depth codes) (sym c.self.view_is) c.requires.fit in
    let same : size ≡ c.line_size.result = omega arith in
    let writes = put_mid start size c.deref_mut.result.now c.encode.new.out in
    let now_is = λ (e : length (put_mid start size i.bytes.items c.encode.new.out) ≡ length i.bytes.items).
    with_items_is i.bytes writes (rw c.deref_mut.ensures.value (e ∙ sym i.bytes.ok.0)) ∙ ap (λ (l : List ℕ). put_mid start size l c.encode.new.out) c.deref_mut.ensures.value in
    new_shown i.width i.height i.depth i.bytes.items c.self.invariant c.args.y (omega (arith, height)) codes c.encode.new.out (with_items i.bytes writes).items start size
    count fit c.line_start-start.ensures (same ∙ c.line_size.ensures) c.encode.ensures now_is ∙ ap (λ (m : PlainImage). with_line m c.args.y codes) c.self.view_is
