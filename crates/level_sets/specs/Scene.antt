-- What stands around a form as the code has it, and what the rules find in a form there.
use Rattle.std.specs.Prelude.{◌≡◌, ℕ, List, Option, Some, None, Bool, Result, Ok, Err, refl}
use Rattle.std.specs.Coded.{Coded, code_by, coded×, coded_list, coded_ℕ, coded_bool}
use Rattle.ctl_types.specs.declared.statement.TypedStatement.{TypedStatement}
use Rattle.ctl_types.specs.declared.statement.Arm.{Arm}
use Rattle.ctl_types.specs.declared.statement.TypedStatement.TheFolds.{fold-Arm}
use Rattle.level_rules.specs.declared.found.Found.{Found}
use Rattle.level_rules.specs.Rules.{Known, Around, Seen, Walk, Walked, ArmWalk, both_found, walk_form, walk_arm, walk_statement}
use Rattle.level_rules.specs.Rows.{in_row, tells}

-- the rows of the functions before, what varies as a row, the open sizes, and which parameters are marked uniform
pub record SceneForm : Type 0 where
  pub rows : List (List (List Bool))
  pub row : List Bool
  pub opens : List ℕ
  pub uniforms : List (List Bool)

abbrev pub scene_code : Coded SceneForm
scene_code =
    code_by (List (List (List Bool)) × (List Bool × (List ℕ × List (List Bool)))) (coded× (coded_list (coded_list (coded_list coded_bool))) (coded× (coded_list coded_bool) (coded× (coded_list coded_ℕ) (coded_list (coded_list coded_bool)))))
    (λ s. (s.rows, (s.row, (s.opens, s.uniforms)))) (λ parts. record { rows = parts.0; row = parts.1.0; opens = parts.1.1.0; uniforms = parts.1.1.1 }) (λ s. refl)

-- what is known of other instances
abbrev pub known_of : SceneForm → Known
known_of s = tells s.rows

-- what stands around a form
abbrev pub around_of : SceneForm → Around
around_of s = record { set = in_row s.row; opens = s.opens; uniforms = s.uniforms }

-- An expression is looked at: it varies as is seen, and what is found in it is put behind what was found before.
abbrev pub Sees : Found → Found → Seen → {E : Type 0} → Result Bool E → Type 0
Sees old new seen (Ok varies) = (varies ≡ seen.varies) × (new ≡ both_found old seen.found)
Sees old new seen (Err e) = Unit {0}

-- A statement is walked through: it leaves as it does, and what is found in it is put behind what was found before.
abbrev pub Walks : Found → Found → Walked → {E : Type 0} → Result Bool E → Type 0
Walks old new walked (Ok leaves) = (leaves ≡ walked.leaves) × (new ≡ both_found old walked.found)
Walks old new walked (Err e) = Unit {0}

-- whether a statement leaves
abbrev pub Leaves : Bool → {E : Type 0} → Result Bool E → Type 0
Leaves does (Ok leaves) = leaves ≡ does
Leaves does (Err e) = Unit {0}

-- an arm, by what stands behind it
abbrev pub arm_walk : SceneForm → Arm → ArmWalk
arm_walk s = fold-Arm Walk ArmWalk (walk_form (known_of s)) (walk_arm (known_of s))

-- what stands after the last `else`, where there is something
abbrev pub otherwise_walk : SceneForm → Option TypedStatement → Option Walk
otherwise_walk s None = None
otherwise_walk s (Some statement) = Some (walk_statement (known_of s) statement)
