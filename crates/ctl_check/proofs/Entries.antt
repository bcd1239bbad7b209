-- The file of the root.
use Rattle.std.proofs.Common.{◌≡◌, List, [], ◌∷◌, refl}
use Rattle.ctl_tree.specs.Units.{SourceUnit}
use Rattle.ctl_types.specs.Definitions.{root_file}

-- it stands behind the first unit, where there are more
pub root_behind : (u : SourceUnit) (units : List SourceUnit) → (units ≡ [] → ⊥) → root_file (u ∷ units) ≡ root_file units
root_behind u [] more = absurd (more refl)
root_behind u (v ∷ units) more = refl
