use Rattle.std.proofs.Common.{◌≡◌, ◌*◌, take}
use Rattle.dpx_file.specs.Kept.{plain_layout}
use Rattle.dpx_file.proofs.LineLemmas.{lines_below}
use Rattle.dpx_file.proofs.reading.decode_lines.Given as goal

abbrev pub invariant-lines : goal.invariant-lines
invariant-lines g l = take (l.codes * l.y) l.out ≡ lines_below g.T.ByteOrder.number_of (plain_layout l.layout) l.bytes l.y
