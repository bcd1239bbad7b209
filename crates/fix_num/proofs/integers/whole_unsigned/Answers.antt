-- Goals of `integers::whole_unsigned`.
use Rattle.std.proofs.Common.{bit_or}
use Rattle.std.specs.Prelude.{bit_xor}
use Rattle.std.proofs.lemmas.Nat.{or_lt, xor_lt}
use Rattle.fix_num.proofs.Words.{bits_unsigned}
use Rattle.fix_num.proofs.integers.whole_unsigned.Goals as goal

pub returns-in-Or : goal.returns-in-Or
returns-in-Or c = rw c.in-Or.is (bits_unsigned bit_or (or_lt 32) c.args.a c.args.b c.ranges.a.fits c.ranges.b.fits)

pub returns-in-Xor : goal.returns-in-Xor
returns-in-Xor c = rw c.in-Xor.is (bits_unsigned bit_xor (xor_lt 32) c.args.a c.args.b c.ranges.a.fits c.ranges.b.fits)
