-- What is made of a form that changes nothing in a scope, with that scope.
use Rattle.std.proofs.Common.{◌≡◌, Result, Ok, Err, ap}
use Rattle.ctl_scope.specs.Scope.{ScopeForm}
use Rattle.ctl_check_rules.specs.declared.fault.ExprFault.{ExprFault}
use Rattle.ctl_check_rules.specs.declared.fault.ExprFault.TheVariants.{At, Memory}
use Rattle.ctl_check_rules.specs.Faults.{Verdict, Gives}
use Rattle.ctl_check_statement.specs.Leading.{Leads, led}

-- what is given by a form alone, with the scope
pub gives_leads : {A : Type 0} (r : Result A ExprFault) (s : ScopeForm) (verdict : Verdict A) → Gives r verdict → Leads r s (led verdict s)
gives_leads (Ok a) s verdict g = ap (λ v. led v s) g
gives_leads (Err (At node kind)) s verdict g = ap (λ v. led v s) g
gives_leads (Err Memory) s verdict g = tt

-- the same of a form that breaks no rule
pub made_leads : {A : Type 0} (r : Result A ExprFault) (s : ScopeForm) (a : A) → Gives r (Ok a) → Leads r s (Ok (record { made = a; scope = s }))
made_leads r s a g = gives_leads r s (Ok a) g
