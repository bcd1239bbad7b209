-- What checking answers: what is made of a form, or the first fault.
use Rattle.std.specs.Prelude.{◌≡◌, ℕ, Result, Ok, Err}
use Rattle.ctl_base.specs.declared.kind.Node.{Node}
use Rattle.ctl_scope.specs.declared.kind.CheckKind.{CheckKind}
use Rattle.ctl_check_rules.specs.declared.fault.ExprFault.{ExprFault}
use Rattle.ctl_check_rules.specs.declared.fault.ExprFault.TheVariants.{At, Memory}

-- a form, and the rule that it breaks
pub record Fault : Type 0 where
  pub node : Node
  pub kind : CheckKind

-- what is made of a form, or the first fault in it
abbrev pub Verdict : Type 0 → Type 0
Verdict A = Result A Fault

-- first one form, and after it the next; the first fault is told
infixl 10 ◌>>=◌
abbrev pub ◌>>=◌ : {A B E : Type 0} → Result A E → (A → Result B E) → Result B E
Ok a >>= f = f a
Err e >>= f = Err e

-- a form of a unit by its own token
abbrev pub node_of : ℕ → ℕ → Node
node_of unit token = record { «module» = unit; token = token }

-- a rule that a form of a unit breaks
abbrev pub broken : {A : Type 0} → ℕ → ℕ → CheckKind → Verdict A
broken unit token kind = Err (record { node = node_of unit token; kind = kind })

-- the rule of a form stands at its own token
abbrev pub rule_at : {A : Type 0} → ℕ → ℕ → Result A CheckKind → Verdict A
rule_at unit token (Ok a) = Ok a
rule_at unit token (Err kind) = broken unit token kind

-- what the code answers is the verdict, unless memory runs out
abbrev pub Gives : {A : Type 0} → Result A ExprFault → Verdict A → Type 0
Gives (Ok a) verdict = verdict ≡ Ok a
Gives (Err (At node kind)) verdict = verdict ≡ Err (record { node = node; kind = kind })
Gives (Err Memory) verdict = Unit {0}
