-- What is made of forms that change the scope.
use Rattle.std.specs.Prelude.{◌≡◌, Result, Ok, Err}
use Rattle.ctl_scope.specs.Scope.{ScopeForm}
use Rattle.ctl_check_rules.specs.declared.fault.ExprFault.{ExprFault}
use Rattle.ctl_check_rules.specs.declared.fault.ExprFault.TheVariants.{At, Memory}
use Rattle.ctl_check_rules.specs.Faults.{Verdict, ◌>>=◌}

-- what is made of a form, and the scope after it
pub record Led (A : Type 0) : Type 0 where
  pub made : A
  pub scope : ScopeForm

-- what is made of a form that changes nothing in a scope
abbrev pub led : {A : Type 0} → Verdict A → ScopeForm → Verdict (Led A)
led verdict s = do
  a ← verdict
  Ok (record { made = a; scope = s })

-- what the code answers, with the scope that it leaves, is the verdict, unless memory runs out; after a fault the scope is
-- of no use
abbrev pub Leads : {A : Type 0} → Result A ExprFault → ScopeForm → Verdict (Led A) → Type 0
Leads (Ok a) after verdict = verdict ≡ Ok (record { made = a; scope = after })
Leads (Err (At node kind)) after verdict = verdict ≡ Err (record { node = node; kind = kind })
Leads (Err Memory) after verdict = Unit {0}
