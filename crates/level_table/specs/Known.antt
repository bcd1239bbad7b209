-- What is known of the functions of a program: the rows that tell what varies in their instances.
use Rattle.std.specs.Prelude.{◌≤◌, ℕ, List, [], ◌∷◌, length, Option, Some, None, Bool, refl}
use Rattle.std.specs.Coded.{Coded, code_by, coded×, coded_list, coded_bool}
use Rattle.ctl_types.specs.contracts.program.Function as function_row
use Rattle.ctl_types.specs.declared.program.Function.{Function}
use Rattle.ctl_types.specs.declared.program.Parameter.{Parameter}
use Rattle.level_rules.specs.declared.found.Found.{Found}
use Rattle.level_rules.specs.Rules.{Known, Around, nothing_found, walk_statement}
use Rattle.level_rules.specs.Levels.{is_uniform}

pub record KnownForm : Type 0 where
  pub functions : List Function
  pub rows : List (List (List Bool))

-- they are stored as their lists
abbrev pub known_code : Coded KnownForm
known_code =
    code_by (List Function × List (List (List Bool))) (coded× (coded_list function_row.the_row.coded) (coded_list (coded_list (coded_list coded_bool))))
    (λ k. (k.functions, k.rows)) (λ parts. record { functions = parts.0; rows = parts.1 }) (λ k. refl)

-- a parameter is marked uniform
abbrev pub is_marked : Parameter → Bool
is_marked q = is_uniform q.level

-- what the rules find in the body of a function that is there
abbrev pub found_at : Known → Option Function → Around → Bool → Found
found_at known None s c = nothing_found
found_at known (Some f) s c = (walk_statement known f.body s c).found

-- none of these rows is longer
abbrev pub AllShort : ℕ → List (List Bool) → Type 0
AllShort n [] = Unit {0}
AllShort n (row ∷ rows) = (length row ≤ n) × AllShort n rows
