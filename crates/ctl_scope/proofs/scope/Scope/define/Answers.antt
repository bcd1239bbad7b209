use Rattle.std.proofs.Common.{length, ap, ◌∙◌}
use Rattle.ctl_scope.specs.Scope.{ScopeForm, is_definition, are_definitions}
use Rattle.ctl_scope.proofs.Standing.{definition_more}
use Rattle.ctl_scope.proofs.scope.Scope.define.Goals as goal

pub invariant_of-self-2 : goal.invariant_of-self-2
invariant_of-self-2 c =
    let s = c.self.inside in
    let fits = ap (λ (t : ScopeForm). is_definition (length t.counts) t.constants (length t.depths) c.args.meaning) c.self.view_is ∙ c.requires in
    record {
      definitions = ap (are_definitions (length s.counts) s.constants (length s.depths)) c.in_ok-insert.ensures.last ∙ definition_more (length s.counts) s.constants (length s.depths) s.names _ c.args.meaning c.self.invariant.definitions fits;
      structs = c.self.invariant.structs;
      constants = c.self.invariant.constants;
      blocks = c.self.invariant.blocks;
    }
