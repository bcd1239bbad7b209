-- The loop of `wholes::hexadecimal_value`.
use Rattle.std.proofs.Common.{◌≡◌, ◌<◌, ◌^◌, take}
use Rattle.ctl_tree.specs.TokenBytes.{hexadecimal_number}
use Rattle.ctl_lexer.proofs.wholes.hexadecimal_value.Given as goal

abbrev pub invariant-loop-b : goal.invariant-loop-b
invariant-loop-b l = (l.value ≡ hexadecimal_number (take l.b-index l.digits)) × (l.value < 2 ^ 32)
