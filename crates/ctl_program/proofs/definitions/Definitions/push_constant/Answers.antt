use Rattle.ctl_program.proofs.Growing.{constant_defined_at}
use Rattle.ctl_program.proofs.definitions.Definitions.push_constant.Goals as goal

pub invariant_of-self-2 : goal.invariant_of-self-2
invariant_of-self-2 c = rw c.in_ok-push.ensures.ok (constant_defined_at (record { units = c.self.inside.units.value; structs = c.self.inside.structs; constants = c.self.inside.constants; functions = c.self.inside.functions }) c.args.self.now c.args.constant c.self.view_is c.self.invariant c.requires)
