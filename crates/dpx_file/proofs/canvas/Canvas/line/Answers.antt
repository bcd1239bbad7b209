use Rattle.std.proofs.Common.{◌∙◌, ap, arith}
use Rattle.std.proofs.lemmas.List.{take_rest}
use Rattle.dpx_file.specs.Plain.{PlainImage, codes_of_line}
use Rattle.dpx_file.proofs.Written.{line_read}
use Rattle.dpx_file.proofs.canvas.Canvas.line.Goals as goal

pub returns : goal.returns
returns c =
    let i = c.self.inside in
    let y = c.args.y in
    let height = ap (λ (m : PlainImage). m.height) c.self.view_is in
    let decoded = rw (take_rest, c.deref.ensures.value) at c.decode.ensures in
    decoded ∙ line_read i.width i.height i.depth i.bytes.items c.self.invariant y (omega (arith, height)) c.line_start-at.result c.written_packing-packing.result c.line_start-at.ensures c.written_packing-packing.ensures
    ∙ ap (λ (m : PlainImage). codes_of_line m y) c.self.view_is
