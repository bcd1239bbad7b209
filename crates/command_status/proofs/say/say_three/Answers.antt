use Rattle.command_status.proofs.Saying.{one_said, then_said, cut_said, handed_on}
use Rattle.command_status.proofs.say.say_three.Goals as goal

pub returns-in_err-say : goal.returns-in_err-say
returns-in_err-say g c =
    handed_on c.say.result c.from_residual.result c.in_err-say.was c.from_residual.ensures.0
    (cut_said c.say.result c.args.third.now c.in_err-say.was
    (cut_said c.say.result c.args.second.now c.in_err-say.was (one_said c.say.ensures.cause c.say.ensures.says c.say.ensures.heard)))

pub returns-in_err-say-2 : goal.returns-in_err-say-2
returns-in_err-say-2 g c =
    handed_on c.say-2.result c.from_residual-in_err-say-2.result c.in_err-say-2.was c.from_residual-in_err-say-2.ensures.0
    (cut_said c.say-2.result c.args.third.now c.in_err-say-2.was
    (then_said c.in_ok-say.was (one_said c.say.ensures.cause c.say.ensures.says c.say.ensures.heard) (one_said c.say-2.ensures.cause c.say-2.ensures.says c.say-2.ensures.heard)))

pub returns : goal.returns
returns g c =
    then_said c.in_ok-say-2.was
    (then_said c.in_ok-say.was (one_said c.say.ensures.cause c.say.ensures.says c.say.ensures.heard) (one_said c.say-2.ensures.cause c.say-2.ensures.says c.say-2.ensures.heard))
    (one_said c.say-3.ensures.cause c.say-3.ensures.says c.say-3.ensures.heard)
