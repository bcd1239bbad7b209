use Rattle.std.proofs.Common.{arith}
use Rattle.std.proofs.lemmas.List.Elements.{All-from_get_or}
use Rattle.ctl_tree.specs.Modules.{IsPrintable}
use Rattle.ctl_parser.proofs.Printable.{one_unprintable}
use Rattle.ctl_parser.proofs.modules.are_printable.Goals as goal
use Rattle.ctl_parser.proofs.modules.are_printable.Goals.{then-byte-lt32-via-then-byte-lt32, then-byte-lt32-via-else-byte-lt32+then-byte-gt126}

pub returns-then-byte-lt32 : goal.returns-then-byte-lt32
returns-then-byte-lt32 c =
    one_unprintable c.args.bytes.now c.each.byte-index (omega (arith, c.each-test.true))
    (λ low high. elim c.then-byte-lt32.branch [
      | then-byte-lt32-via-then-byte-lt32 w ↦ omega (arith, w.if-byte-lt32.true)
      | then-byte-lt32-via-else-byte-lt32+then-byte-gt126 w ↦ omega (arith, w.if-byte-gt126.true)
    ])

pub returns : goal.returns
returns c = All-from_get_or IsPrintable c.args.bytes.now 0 (λ i lt. c.each.invariant i (omega (arith, c.each-test.false)))
