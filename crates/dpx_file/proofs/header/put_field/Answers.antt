use Rattle.std.proofs.Common.{◌∙◌, arith}
use Rattle.dpx_file.proofs.Bytes.{big_bytes_next}
use Rattle.dpx_file.proofs.header.put_field.Goals as goal

pub bytes-preserved : goal.bytes-preserved
bytes-preserved c =
    rw (c.in_ok-push.ensures.items, c.byte_of.ensures) (big_bytes_next c.bytes.out.items c.bytes.left c.args.field.number (omega arith) ∙ c.bytes.invariant)
