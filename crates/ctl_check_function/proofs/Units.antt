-- The root of units.
use Rattle.std.proofs.Common.{◌≡◌, List, [], ◌∷◌, refl}
use Rattle.ctl_tree.specs.Units.{SourceUnit}
use Rattle.ctl_check_function.specs.Entry.{entry_token}

-- it stands behind the first unit, where there are more
pub root_behind : (u : SourceUnit) (units : List SourceUnit) → (units ≡ [] → ⊥) → entry_token (u ∷ units) ≡ entry_token units
root_behind u [] more = absurd (more refl)
root_behind u (v ∷ units) more = refl
