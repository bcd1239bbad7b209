use Rattle.std.proofs.Common.{◌≡◌, ◌*◌, take}
use Rattle.dpx_file.specs.Writing.{ten_bit_words}
use Rattle.dpx_file.proofs.pixels.encode_ten.Given as goal

abbrev pub invariant-pixels : goal.invariant-pixels
invariant-pixels l = take (4 * l.x) l.out ≡ ten_bit_words (take (3 * l.x) l.codes)
