-- What rows tell, by marks: that of the result is 0, and that of variable x is x + 1.
use Rattle.std.specs.Prelude.{ℕ, List, [], ◌∷◌, Bool, false, ◌&&◌, ◌||◌, get_or}
use Rattle.level_rules.specs.declared.instance.Instance.{Instance}

-- one of the rows that are picked has this mark
abbrev pub pick_mark : List Bool → List (List Bool) → ℕ → Bool
pick_mark [] rows m = false
pick_mark (b ∷ bits) [] m = false
pick_mark (b ∷ bits) (row ∷ rows) m = (b && get_or row m false) || pick_mark bits rows m

-- the holder of a mark varies in an instance
abbrev pub tells_mark : List (List (List Bool)) → Instance → ℕ → Bool
tells_mark rows i m = pick_mark (i.control ∷ i.levels) (get_or rows i.function []) m
