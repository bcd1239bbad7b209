use Rattle.ctl_check.proofs.Fitting.{constant_may, constant_rests}
use Rattle.ctl_check.proofs.defining.define_constant.Goals as goal

pub push_constant-requires : goal.push_constant-requires
push_constant-requires c = constant_may c.accepted_constants_fit.ensures c.args.scope.now c.args.definitions.now c.args.written.now c.in_ok-made.made c.check_constant.new.scope c.keeps_rules.ensures c.keep_rules.ensures c.requires.resting c.requires.tokens.below c.in_ok-made.ensures

pub returns-clause-rests : goal.returns-clause-rests
returns-clause-rests c = constant_rests c.accepted_constants_fit.ensures c.args.scope.now c.args.definitions.now c.args.written.now c.in_ok-made.made c.check_constant.new.scope c.push_constant.new.self c.keeps_rules.ensures c.keep_rules.ensures c.requires.resting c.requires.tokens.below c.in_ok-made.ensures c.in_ok-push_constant.ensures.last
