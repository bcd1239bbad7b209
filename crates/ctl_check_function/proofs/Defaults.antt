-- The scope around a default.
use Rattle.std.proofs.Common.{◌≡◌, true, refl, subst}
use Rattle.ctl_scope.specs.Scope.{ScopeForm}
use Rattle.ctl_scope.specs.Changes.{in_default, after_default}

-- it is the same after the default as before it
pub seen_again : (s : ScopeForm) → s.sees_variables ≡ true → after_default (in_default s) ≡ s
seen_again s e = subst (λ b. record s { sees_variables = b } ≡ s) e refl
