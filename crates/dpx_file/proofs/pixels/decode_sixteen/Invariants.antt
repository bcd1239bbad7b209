use Rattle.std.proofs.Common.{◌≡◌, ◌*◌, take}
use Rattle.dpx_file.specs.Reading.{line_codes}
use Rattle.dpx_file.proofs.pixels.decode_sixteen.Given as goal

abbrev pub invariant-pixels : goal.invariant-pixels
invariant-pixels g l = take (3 * l.x) l.out ≡ line_codes g.T.ByteOrder.number_of 16 l.packing l.x l.line
