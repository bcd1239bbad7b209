use Rattle.std.specs.Fmt.{decimal}
use Rattle.std.proofs.Common.{sym}
use Rattle.command_status.proofs.Saying.{one_said, then_said, cut_said, handed_on}
use Rattle.command_status.proofs.say.say_number.Goals as goal

pub returns-in_err-say : goal.returns-in_err-say
returns-in_err-say g c =
    handed_on c.say.result c.from_residual.result c.in_err-say.was c.from_residual.ensures.0
    (cut_said c.say.result (decimal c.args.number) c.in_err-say.was (one_said c.say.ensures.cause c.say.ensures.says c.say.ensures.heard))

pub returns : goal.returns
returns g c =
    rw (sym c.format.ensures.text, sym c.as_bytes.ensures.value)
    (then_said c.in_ok-say.was (one_said c.say.ensures.cause c.say.ensures.says c.say.ensures.heard) (one_said c.say-2.ensures.cause c.say-2.ensures.says c.say-2.ensures.heard))
