-- The loop of `spelling::more_digits`.
use Rattle.std.proofs.Common.{◌≡◌, ◌<◌, ◌^◌, take}
use Rattle.fix_num.specs.Decimal.{number_from, most_digits}
use Rattle.fix_num.proofs.spelling.more_digits.Given as goal

abbrev pub invariant-each : goal.invariant-each
invariant-each l = (l.value ≡ number_from l.fn.before (take l.b-index l.digits)) × (l.value < 10 ^ most_digits)
