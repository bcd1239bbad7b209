-- Variables one by one.
use Rattle.std.proofs.Common.{◌≡◌, ◌<◌, ◌+◌, ◌-◌, ◌++◌, ℕ, zero, suc, List, [], ◌∷◌, map, Bool, false, get_or, slice_get, ap, sym, ◌∙◌, refl, arith}
use Rattle.std.proofs.lemmas.List.{append_assoc}
use Rattle.ctl_types.specs.declared.program.Function.{Function}
use Rattle.level_rules.specs.declared.instance.Instance.{Instance}
use Rattle.level_rules.specs.declared.instance.Holder.TheVariants.{Result as ResultHolder, Variable}
use Rattle.level_rules.specs.declared.found.Found.{Found}
use Rattle.level_rules.specs.Rules.{VaryingSet, Known}
use Rattle.level_rules.specs.Levels.{found_in}
use Rattle.level_rules.specs.Reached.{number_in}
use Rattle.level_rules.specs.Rows.{in_row}
use Rattle.level_table.specs.declared.told.InstanceLevels.{InstanceLevels}
use Rattle.level_table.specs.Told.{variables_from, variable_count, told}

from_suc : (set : VaryingSet) (x m n : ℕ) → m ≡ suc n → variables_from set x m ≡ set (Variable x) ∷ variables_from set (x + 1) n
from_suc set x m n e = ap (variables_from set x) e

pub variables_more : (row : List Bool) (x count : ℕ) (old new all : List Bool) (b : Bool) → x < count → old ++ variables_from (in_row row) x (count - x) ≡ all → b ≡ get_or row (x + 1) false → new ≡ old ++ b ∷ [] → new ++ variables_from (in_row row) (x + 1) (count - (x + 1)) ≡ all
variables_more row x count old new all b h i e n =
    ap (λ v. v ++ variables_from (in_row row) (x + 1) (count - (x + 1))) n
    ∙ append_assoc old (b ∷ []) _
    ∙ ap (λ b. old ++ b ∷ variables_from (in_row row) (x + 1) (count - (x + 1))) e
    ∙ ap (λ v. old ++ v) (sym (from_suc (in_row row) x (count - x) (count - (x + 1)) (omega arith)))
    ∙ i

abbrev levels_of : Instance → Bool → List Bool → List Bool → List ℕ → InstanceLevels
levels_of i r v p n = record { instance = i; result = r; variables = v; places = p; called = n }

pub told_is : (functions : List Function) (known : Known) (table : List Instance) (i own : Instance) (row : List Bool) (count : ℕ) (r : Bool) (v : List Bool) (found : Found) (n : List ℕ) → own ≡ i → r ≡ get_or row 0 false → v ≡ variables_from (in_row row) 0 count → count ≡ variable_count (slice_get functions i.function) → in_row row ≡ known i → found ≡ found_in functions known i → n ≡ map (number_in table) found.calls → levels_of own r v found.places n ≡ told functions known table i
told_is functions known table i own row count r v found n eo er ev ec es ef en =
    ap (λ (own : Instance). levels_of own r v found.places n) eo
    ∙ ap (λ (r : Bool). levels_of i r v found.places n) (er ∙ ap (λ (s : VaryingSet). s ResultHolder) es)
    ∙ ap (λ (v : List Bool). levels_of i (known i ResultHolder) v found.places n) (ev ∙ ap (λ (s : VaryingSet). variables_from s 0 count) es ∙ ap (variables_from (known i) 0) ec)
    ∙ ap (λ (n : List ℕ). levels_of i (known i ResultHolder) (variables_from (known i) 0 (variable_count (slice_get functions i.function))) found.places n) en
    ∙ ap (λ (f : Found). levels_of i (known i ResultHolder) (variables_from (known i) 0 (variable_count (slice_get functions i.function))) f.places (map (number_in table) f.calls)) ef
