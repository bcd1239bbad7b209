use Rattle.std.proofs.Common.{ℕ, List, ◌∷◌, reverse, sym, ap, ◌∙◌}
use Rattle.ctl_scope.specs.Scope.{ScopeForm}
use Rattle.ctl_scope.specs.Changes.{out_of_space}
use Rattle.ctl_scope.proofs.Lists.{popped}
use Rattle.ctl_scope.proofs.scope.Scope.end_space.Goals as goal

pub returns : goal.returns
returns c =
    let s = c.self.inside in
    let with_spaces : List (List ℕ) → ScopeForm = λ spaces. record { names = s.names; counts = s.counts; constants = s.constants; depths = s.depths; spaces = spaces; unit = s.unit; around = s.around; sees_variables = s.sees_variables; blocks = s.inner ∷ reverse s.outer; variables = s.variables; opens = s.opens } in
    ap with_spaces (sym (popped c.pop-ended.result s.spaces c.pop-ended.new.self c.pop-ended.ensures)) ∙ ap out_of_space c.self.view_is
