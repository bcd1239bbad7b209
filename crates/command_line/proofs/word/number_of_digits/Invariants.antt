-- The loop of `word::number_of_digits`.
use Rattle.std.proofs.Common.{◌≡◌, ◌<◌, ◌^◌, take}
use Rattle.fix_num.specs.Decimal.{number}
use Rattle.command_line.proofs.word.number_of_digits.Given as goal

abbrev pub invariant-each : goal.invariant-each
invariant-each l = (l.value ≡ number (take l.b-index l.digits)) × (l.value < 2 ^ 32)
