-- The loop of `wholes::decimal_value`.
use Rattle.std.proofs.Common.{◌≡◌, ◌<◌, ◌^◌, take}
use Rattle.fix_num.specs.Decimal.{number}
use Rattle.ctl_lexer.proofs.wholes.decimal_value.Given as goal

abbrev pub invariant-loop-b : goal.invariant-loop-b
invariant-loop-b l = (l.value ≡ number (take l.b-index l.digits)) × (l.value < 2 ^ 32)
