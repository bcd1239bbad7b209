use Rattle.std.proofs.Common.{length, arith}
use Rattle.ctl_scope.proofs.Standing.{definitions_kept}
use Rattle.ctl_scope.proofs.scope.Scope.count_constant.Goals as goal

pub invariant_of-self : goal.invariant_of-self
invariant_of-self c =
    let s = c.self.inside in
    record {
      definitions = definitions_kept (length s.counts) s.constants (length s.depths) (length s.counts) c.in-Some.next (length s.depths) (omega arith) (omega (arith, c.in-Some.ensures)) (omega arith) s.names c.self.invariant.definitions;
      structs = c.self.invariant.structs;
      constants = omega (arith, c.in-Some.ensures, c.self.invariant.constants);
      blocks = c.self.invariant.blocks;
    }
