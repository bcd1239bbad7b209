-- The instances that an entry reaches: its own and, for each call in a reached one in source order, the one called, depth
-- first and each once.
use Rattle.std.specs.Prelude.{ℕ, zero, suc, ◌+◌, List, [], ◌∷◌, ◌++◌, Bool, true, false, ◌&&◌, ◌||◌, ◌==◌, if◌then◌else◌}
use Rattle.level_rules.specs.declared.instance.Instance.{Instance}

-- one level
abbrev pub same_level : Bool → Bool → Bool
same_level true b = b
same_level false true = false
same_level false false = true

-- the same levels
abbrev pub same_levels : List Bool → List Bool → Bool
same_levels [] [] = true
same_levels [] (b ∷ others) = false
same_levels (a ∷ levels) [] = false
same_levels (a ∷ levels) (b ∷ others) = same_level a b && same_levels levels others

-- the same sizes
abbrev pub same_sizes : List ℕ → List ℕ → Bool
same_sizes [] [] = true
same_sizes [] (n ∷ others) = false
same_sizes (m ∷ sizes) [] = false
same_sizes (m ∷ sizes) (n ∷ others) = m == n && same_sizes sizes others

-- one instance
abbrev pub same : Instance → Instance → Bool
same i j = (i.function == j.function && same_sizes i.sizes j.sizes) && (same_levels i.levels j.levels && same_level i.control j.control)

-- it is among these
abbrev pub is_among : List Instance → Instance → Bool
is_among [] i = false
is_among (j ∷ table) i = same j i || is_among table i

-- its number among these
abbrev pub number_in : List Instance → Instance → ℕ
number_in [] i = 0
number_in (j ∷ table) i = if same j i then 0 else number_in table i + 1

-- one after the other
abbrev pub each : (List Instance → Instance → List Instance) → List Instance → List Instance → List Instance
each visit table [] = table
each visit table (i ∷ instances) = each visit (visit table i) instances

-- An instance that is not listed is put last, and behind it what its calls reach, in source order. What is called stands
-- before its caller, so calls go no deeper than the number of the function, and this depth is no limit.
abbrev pub visit : (Instance → List Instance) → ℕ → List Instance → Instance → List Instance
visit calls zero table i = table
visit calls (suc depth) table i = if is_among table i then table else each (visit calls depth) (table ++ i ∷ []) (calls i)

-- the instances that an entry reaches
abbrev pub reached : (Instance → List Instance) → Instance → List Instance
reached calls entry = visit calls (entry.function + 1) [] entry
