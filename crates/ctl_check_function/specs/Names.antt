-- What the checker says at the names of what is declared: parameters and constants.
use Rattle.std.specs.Prelude.{ℕ, List, Option, Some, None, Result, Ok, Err, Bool, true, false, if◌then◌else◌}
use Rattle.ctl_types.specs.declared.shape.Base.{Base}
use Rattle.ctl_scope.specs.declared.kind.CheckKind.{CheckKind}
use Rattle.ctl_scope.specs.declared.kind.CheckKind.TheVariants.{Twice}
use Rattle.ctl_check_init.specs.declared.begun.Begun.{Begun}
use Rattle.ctl_check_init.specs.Initialisers.{begun_rule}

-- a name is new
abbrev pub new_rule : Bool → Result (Unit {0}) CheckKind
new_rule is_twice = if is_twice then Err Twice else Ok tt

-- a name with an initialiser is new, and the initialiser fits, where each struct has so many scalars
abbrev pub begun_new : List ℕ → Bool → Base → Option Begun → Result Begun CheckKind
begun_new counts is_twice base b = if is_twice then Err Twice else begun_rule counts base b
