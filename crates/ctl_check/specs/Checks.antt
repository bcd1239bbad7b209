-- What the checker of programs answers.
use Rattle.std.specs.Prelude.{◌≡◌, ℕ, List, [], Option, Some, None, Result, Ok, Err, Bool, ◌&&◌, ◌==◌, bytes_eq, slice_get}
use Rattle.ctl_base.specs.declared.kind.Node.{Node}
use Rattle.ctl_tree.specs.Units.{SourceUnit, line_of_node}
use Rattle.ctl_types.specs.declared.program.Function.{Function}
use Rattle.ctl_types.specs.Definitions.{Defined, is_unqualified}
use Rattle.ctl_types.specs.Scoping.{ProgramForm, library_definitions}
use Rattle.ctl_scope.specs.declared.kind.CheckKind.{CheckKind}
use Rattle.ctl_scope.specs.Scope.{ScopeForm}
use Rattle.ctl_scope.specs.Changes.{library_scope}
use Rattle.ctl_check_rules.specs.declared.fault.ExprFault.{ExprFault}
use Rattle.ctl_check_rules.specs.declared.fault.ExprFault.TheVariants as fault
use Rattle.ctl_check_function.specs.Programs.{units_defined, checked_program}
use Rattle.ctl_check.specs.declared.fault.CheckFault.{CheckFault}
use Rattle.ctl_check.specs.declared.fault.CheckFault.TheVariants.{At, Memory}

-- the file of a unit, and nothing where there is none
abbrev pub file_in : Option SourceUnit → List ℕ
file_in None = []
file_in (Some unit) = unit.file

-- the file of a node's unit
abbrev pub file_of_node : List SourceUnit → Node → List ℕ
file_of_node units node = file_in (slice_get units node.«module»)

-- where a node stands
pub record StandsAt (units : List SourceUnit) (node : Node) (path : List ℕ) (number : ℕ) : Type 0 where
  pub file : path ≡ file_of_node units node
  pub line : number ≡ line_of_node units node

-- a fault is told at this node, unless memory runs out
abbrev pub FaultOf : List SourceUnit → Node → CheckKind → CheckFault → Type 0
FaultOf units node kind (At file line n k) = StandsAt units n file line × ((n ≡ node) × (k ≡ kind))
FaultOf units node kind Memory = Unit {0}

-- the first fault of units
pub record FirstFault (units : List SourceUnit) (file : List ℕ) (line : ℕ) (node : Node) (kind : CheckKind) : Type 0 where
  pub first : checked_program units ≡ Err (record { node = node; kind = kind })
  pub place : StandsAt units node file line

-- The answer is the verdict on the units: the program that they mean, or their first fault with its file and line, unless
-- memory runs out.
abbrev pub Checks : Result ProgramForm CheckFault → List SourceUnit → Type 0
Checks (Ok p) units = checked_program units ≡ Ok p
Checks (Err (At file line node kind)) units = FirstFault units file line node kind
Checks (Err Memory) units = Unit {0}

-- all definitions of units are made, in some scope, or there is a first fault
abbrev pub ProgramDefined : Result (Unit {0}) ExprFault → Defined → List SourceUnit → Type 0
ProgramDefined (Ok done) d units = (s : ScopeForm) × (units_defined 0 units (record { made = library_definitions units; scope = library_scope }) ≡ Ok (record { made = d; scope = s }))
ProgramDefined (Err (fault.At node kind)) d units = checked_program units ≡ Err (record { node = node; kind = kind })
ProgramDefined (Err fault.Memory) d units = Unit {0}

-- whether a function of a module has a name, outside all namespaces
abbrev pub is_named : List ℕ → ℕ → Function → Bool
is_named name «module» f = bytes_eq f.name name && (f.node.«module» == «module» && is_unqualified f.name)
