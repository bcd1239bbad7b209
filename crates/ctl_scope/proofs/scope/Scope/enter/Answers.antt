use Rattle.std.proofs.Common.{◌∙◌}
use Rattle.ctl_scope.proofs.Standing.{alone_as}
use Rattle.ctl_scope.proofs.scope.Scope.enter.Goals as goal

pub invariant_of-self : goal.invariant_of-self
invariant_of-self c =
    let s = c.self.inside in
    record {
      definitions = c.self.invariant.definitions;
      structs = c.self.invariant.structs;
      constants = c.self.invariant.constants;
      blocks = alone_as s.variables s.inner c.replace-around.new.dest c.new.result c.in_ok-start.start s.outer c.push.new.self c.replace-around.ensures.after c.new.ensures (c.in_ok-start.ensures ∙ c.len.ensures) c.in_err-push.ensures.err c.self.invariant.blocks;
    }
