use Rattle.ctl_scope.proofs.Standing.{left_as}
use Rattle.ctl_scope.proofs.scope.Scope.leave.Goals as goal

pub invariant_of-self : goal.invariant_of-self
invariant_of-self c =
    let s = c.self.inside in
    record {
      definitions = c.self.invariant.definitions;
      structs = c.self.invariant.structs;
      constants = c.self.invariant.constants;
      blocks = left_as s.variables c.hide.new.variables s.inner c.in-Some.around s.outer c.pop.new.self c.hide.ensures c.in-Some.ensures c.self.invariant.blocks;
    }
