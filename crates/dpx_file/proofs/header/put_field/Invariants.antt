use Rattle.std.proofs.Common.{◌≡◌, ◌++◌}
use Rattle.byteorder.specs.Endian.{big_bytes}
use Rattle.dpx_file.proofs.header.put_field.Given as goal

-- what is left to be written completes the number
abbrev pub invariant-bytes : goal.invariant-bytes
invariant-bytes l = l.out.items ++ big_bytes l.left l.field.number ≡ l.initial.out.items ++ big_bytes l.field.size l.field.number

abbrev pub decreases-bytes : goal.decreases-bytes
decreases-bytes l = l.left
