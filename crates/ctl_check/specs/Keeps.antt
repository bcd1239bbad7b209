-- What the code keeps while it defines.
use Rattle.std.specs.Prelude.{◌≡◌, ℕ, List, Result, Ok, Err}
use Rattle.ctl_tree.specs.OwnTokens.{Tokens}
use Rattle.ctl_types.specs.Definitions.{Defined}
use Rattle.ctl_scope.specs.Scope.{ScopeForm}
use Rattle.ctl_scope.specs.Changes.{with_space}
use Rattle.ctl_check_rules.specs.Faults.{Verdict, node_of}
use Rattle.ctl_check_rules.specs.declared.fault.ExprFault.{ExprFault}
use Rattle.ctl_check_rules.specs.declared.fault.ExprFault.TheVariants.{At, Memory}
use Rattle.ctl_check_statement.specs.Leading.{Led}
use Rattle.ctl_check_function.specs.Defining.{space_rule}
use Rattle.ctl_check_function.specs.Laws.{Resting, Stays, AreTokens}

-- what the code answers, with the scope and the definitions that it leaves, is the verdict, unless memory runs out; after a
-- fault both are of no use
abbrev pub Defines : Result (Unit {0}) ExprFault → ScopeForm → Defined → Verdict (Led Defined) → Type 0
Defines (Ok done) s d verdict = verdict ≡ Ok (record { made = d; scope = s })
Defines (Err (At node kind)) s d verdict = verdict ≡ Err (record { node = node; kind = kind })
Defines (Err Memory) s d verdict = Unit {0}

-- between definitions: the scope rests beside what is defined, in the same module and namespace, and the units are the same
pub record Rests (s : ScopeForm) (d : Defined) (after : ScopeForm) (more : Defined) : Type 0 where
  pub resting : Resting after more
  pub stays : Stays s after
  pub units : more.units ≡ d.units

-- tokens of the module in which the scope stands
pub record TokensOf (s : ScopeForm) (d : Defined) (own : Tokens) : Type 0 where
  pub below : AreTokens s d own

-- it does so, unless there was a fault
abbrev pub KeepsRest : Result (Unit {0}) ExprFault → ScopeForm → Defined → ScopeForm → Defined → Type 0
KeepsRest (Ok done) s d after more = Rests s d after more
KeepsRest (Err fault) s d after more = Unit {0}

-- A namespace has ended in its scope: its name stands for nothing else, or this is told at its token.
abbrev pub SpaceLeft : Result (Unit {0}) ExprFault → ScopeForm → List ℕ → ℕ → ScopeForm → Type 0
SpaceLeft (Ok done) after name token s = (space_rule name s ≡ Ok tt) × (after ≡ with_space name s)
SpaceLeft (Err (At node kind)) after name token s = (space_rule name s ≡ Err kind) × (node ≡ node_of s.unit token)
SpaceLeft (Err Memory) after name token s = Unit {0}

-- between units: the scope rests beside what is defined, and the units are the same
pub record RestsOn (d : Defined) (after : ScopeForm) (more : Defined) : Type 0 where
  pub resting : Resting after more
  pub units : more.units ≡ d.units

abbrev pub KeepsUnits : Result (Unit {0}) ExprFault → Defined → ScopeForm → Defined → Type 0
KeepsUnits (Ok done) d after more = RestsOn d after more
KeepsUnits (Err fault) d after more = Unit {0}
