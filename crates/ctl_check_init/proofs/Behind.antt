-- Parts of lists.
use Rattle.std.proofs.Common.{◌≡◌, List, [], ◌∷◌, refl}
use Rattle.ctl_types.specs.declared.program.Field.{Field}
use Rattle.ctl_check_expr.specs.Calls.{behind}
use Rattle.ctl_check_init.specs.Initialisers.{shapes_of}

-- the shapes of the fields behind the first
pub shapes_behind : (fields : List Field) → shapes_of (behind fields) ≡ behind (shapes_of fields)
shapes_behind [] = refl
shapes_behind (f ∷ fields) = refl
