use Rattle.std.proofs.Common.{◌≡◌, ◌*◌, ap, ◌∙◌, sym, refl, drop, length, length-drop, mul-zero, arith}
use Rattle.std.proofs.lemmas.List.{take_rest, take_all}
use Rattle.dpx_file.specs.Kept.{plain_layout}
use Rattle.dpx_file.specs.Reading.{line_codes}
use Rattle.dpx_file.proofs.CodeLemmas.{length_line}
use Rattle.dpx_file.proofs.LineLemmas.{lines_none, lines_all, line_step, line_room, lines_below}
use Rattle.dpx_file.proofs.reading.decode_lines.Goals as goal

pub lines-init : goal.lines-init
lines-init g c = rw mul-zero (lines_none g.T.ByteOrder.number_of (plain_layout c.args.layout.now) c.args.bytes.now)

pub decode-requires-clause-room : goal.decode-requires-clause-room
decode-requires-clause-room g c =
    let bytes = c.args.bytes.now in
    let room = line_room (plain_layout c.args.layout.now) c.lines.y (omega arith) in
    rw take_rest (omega (arith, length-drop c.line_start.result bytes))

pub lines-preserved : goal.lines-preserved
lines-preserved g c =
    let l = plain_layout c.args.layout.now in
    let bytes = c.args.bytes.now in
    let order = g.T.ByteOrder.number_of in
    let part : c.decode.new.out ≡ line_codes order l.depth l.packing l.width (drop c.line_start.result bytes) = rw take_rest at c.decode.ensures in
    let moved = ap (λ n. line_codes order l.depth l.packing l.width (drop n bytes)) c.line_start.ensures in
    let count = ap length part ∙ length_line order l.depth l.packing l.width (drop c.line_start.result bytes) in
    line_step order l bytes c.lines.out c.decode.new.out (3 * l.width) c.lines.y _ refl (c.lines.auto.out ∙ c.requires.count) c.lines-test.true count (part ∙ moved) c.lines.invariant

pub returns : goal.returns
returns g c =
    let l = plain_layout c.args.layout.now in
    let all : c.lines.y ≡ l.height = omega arith in
    let whole = take_all (3 * l.width * c.lines.y) c.lines.out (rw all (omega arith)) in
    sym whole ∙ c.lines.invariant ∙ ap (lines_below g.T.ByteOrder.number_of l c.args.bytes.now) all ∙ lines_all g.T.ByteOrder.number_of l c.args.bytes.now
