use Rattle.std.proofs.Common.{reverse, ◌∙◌}
use Rattle.ctl_scope.proofs.Standing.{grown_as, declared_as}
use Rattle.ctl_scope.proofs.scope.Scope.declare_new.Goals as goal

pub invariant_of-self-in_err-insert : goal.invariant_of-self-in_err-insert
invariant_of-self-in_err-insert c =
    let s = c.self.inside in
    record {
      definitions = c.self.invariant.definitions;
      structs = c.self.invariant.structs;
      constants = c.self.invariant.constants;
      blocks = grown_as s.variables c.push.new.self c.args.variable s.inner.start s.inner.names c.insert.new.self (reverse s.outer) c.in_ok-push.ensures.ok c.in_err-insert.ensures.kept c.self.invariant.blocks;
    }

pub invariant_of-self-2 : goal.invariant_of-self-2
invariant_of-self-2 c =
    let s = c.self.inside in
    record {
      definitions = c.self.invariant.definitions;
      structs = c.self.invariant.structs;
      constants = c.self.invariant.constants;
      blocks = declared_as s.variables c.push.new.self c.args.variable s.inner.start s.inner.names c.insert.new.self (reverse s.outer) c.args.name.now c.in_ok-number.number c.in_ok-push.ensures.ok c.in_ok-insert.ensures.last (c.in_ok-number.ensures ∙ c.len.ensures) c.self.invariant.blocks;
    }
