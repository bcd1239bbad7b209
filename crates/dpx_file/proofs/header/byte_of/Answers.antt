use Rattle.std.proofs.Common.{arith}
use Rattle.dpx_file.proofs.Bytes.{byte_shift, byte_past}
use Rattle.dpx_file.proofs.header.byte_of.Goals as goal

pub returns-then-k-lt8 : goal.returns-then-k-lt8
returns-then-k-lt8 c = byte_shift c.args.k c.args.number

pub returns-else-k-lt8 : goal.returns-else-k-lt8
returns-else-k-lt8 c = byte_past c.args.k c.args.number (omega arith) (omega arith)
