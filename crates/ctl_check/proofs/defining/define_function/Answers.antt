use Rattle.ctl_check.proofs.Fitting.{function_may, function_rests}
use Rattle.ctl_check.proofs.defining.define_function.Goals as goal

pub push_function-requires : goal.push_function-requires
push_function-requires c = function_may c.accepted_functions_fit.ensures c.args.scope.now c.args.definitions.now c.is_function-is_entry.result c.args.written.now c.in_ok-made.made c.check_function.new.scope c.keeps_rules.ensures c.keep_rules.ensures c.requires.resting c.requires.tokens.below c.in_ok-made.ensures

pub returns-clause-rests : goal.returns-clause-rests
returns-clause-rests c = function_rests c.accepted_functions_fit.ensures c.args.scope.now c.args.definitions.now c.is_function-is_entry.result c.args.written.now c.in_ok-made.made c.check_function.new.scope c.push_function.new.self c.keeps_rules.ensures c.keep_rules.ensures c.requires.resting c.requires.tokens.below c.in_ok-made.ensures c.in_ok-push_function.ensures.last
