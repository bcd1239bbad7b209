use Rattle.std.proofs.Common.{◌≡◌, ◌+◌, [], ◌∷◌, length, ap, ◌∙◌, arith, length-append}
use Rattle.ctl_scope.proofs.Standing.{definitions_kept}
use Rattle.ctl_scope.proofs.scope.Scope.count_function.Goals as goal

pub invariant_of-self-2 : goal.invariant_of-self-2
invariant_of-self-2 c =
    let s = c.self.inside in
    let more : length c.push.new.self ≡ length s.depths + 1 = ap length c.in_ok-push.ensures.ok ∙ length-append s.depths (c.args.depth ∷ []) in
    record {
      definitions = definitions_kept (length s.counts) s.constants (length s.depths) (length s.counts) s.constants (length c.push.new.self) (omega arith) (omega arith) (omega (arith, more)) s.names c.self.invariant.definitions;
      structs = c.self.invariant.structs;
      constants = c.self.invariant.constants;
      blocks = c.self.invariant.blocks;
    }
