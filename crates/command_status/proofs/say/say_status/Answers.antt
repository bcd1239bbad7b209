use Rattle.command_status.proofs.Saying.{speaks, is_heard}
use Rattle.command_status.proofs.say.say_status.Goals as goal

pub returns-clause-speaks : goal.returns-clause-speaks
returns-clause-speaks g c = speaks _ _ g.C.Console.hears _ _ _ _ c.say_message.ensures

pub returns-clause-heard : goal.returns-clause-heard
returns-clause-heard g c = is_heard _ g.C.Console.failures g.C.Console.hears c.args.console.now c.say_message.new.console _ _ c.say_message.ensures
