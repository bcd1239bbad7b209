use Rattle.std.proofs.Common.{◌≡◌, ◌+◌, [], ◌∷◌, length, ap, ◌∙◌, arith, length-append}
use Rattle.ctl_scope.proofs.Standing.{definitions_kept}
use Rattle.ctl_scope.proofs.scope.Scope.count_struct.Goals as goal

pub invariant_of-self-2 : goal.invariant_of-self-2
invariant_of-self-2 c =
    let s = c.self.inside in
    let more : length c.push.new.self ≡ length s.counts + 1 = ap length c.in_ok-push.ensures.ok ∙ length-append s.counts (c.args.scalars ∷ []) in
    record {
      definitions = definitions_kept (length s.counts) s.constants (length s.depths) (length c.push.new.self) s.constants (length s.depths) (omega (arith, more)) (omega arith) (omega arith) s.names c.self.invariant.definitions;
      structs = omega (arith, more, c.self.invariant.structs);
      constants = c.self.invariant.constants;
      blocks = c.self.invariant.blocks;
    }
