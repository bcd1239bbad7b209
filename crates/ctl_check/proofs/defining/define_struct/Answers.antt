use Rattle.ctl_check.proofs.Fitting.{struct_may, struct_rests}
use Rattle.ctl_check.proofs.defining.define_struct.Goals as goal

pub push_struct-requires : goal.push_struct-requires
push_struct-requires c = struct_may c.accepted_structs_fit.ensures c.args.scope.now c.args.definitions.now c.args.written.now c.in_ok-made.made c.check_struct.new.scope c.keeps_rules.ensures c.keep_rules.ensures c.requires c.in_ok-made.ensures

pub returns-clause-rests : goal.returns-clause-rests
returns-clause-rests c = struct_rests c.accepted_structs_fit.ensures c.args.scope.now c.args.definitions.now c.args.written.now c.in_ok-made.made c.check_struct.new.scope c.push_struct.new.self c.keeps_rules.ensures c.keep_rules.ensures c.requires c.in_ok-made.ensures c.in_ok-push_struct.ensures.last
