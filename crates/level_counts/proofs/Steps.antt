-- The parts of steps into a value, and those of several forms.
use Rattle.std.proofs.Common.{◌≡◌, ◌<◌, ◌≤◌, ℕ, ◌+◌, List, [], ◌∷◌, map, drop, length, get_or, ap, sym, ◌∙◌, subst, refl}
use Rattle.std.proofs.lemmas.List.{drop_more, at_drop_all}
use Rattle.ctl_types.specs.declared.expression.TypedStep.{TypedStep}
use Rattle.level_counts.specs.declared.value.ValueShape.{ValueShape}
use Rattle.level_counts.specs.declared.measured.Measured.{Measured}
use Rattle.level_counts.specs.Told.{told, total}
use Rattle.level_counts.specs.Shapes.{DefinitionsForm}
use Rattle.level_counts.specs.Parts.{StepMeasure, all_parts, index_parts, after_steps, steps_parts, own_parts}
use Rattle.level_counts.proofs.Sums.{Adds, adds_more, adds_done, told_sum}

pub all_parts_are : {X : Type 0} (f : X → Measured) (xs : List X) → all_parts (map f xs) ≡ total (map (λ x. (f x).parts) xs)
all_parts_are f [] = refl
all_parts_are f (x ∷ xs) = ap (λ n. (f x).parts + n) (all_parts_are f xs)

pub index_parts_are : {X : Type 0} (f : X → StepMeasure) (xs : List X) → index_parts (map f xs) ≡ total (map (λ x. (f x).parts) xs)
index_parts_are f [] = refl
index_parts_are f (x ∷ xs) = ap (λ n. (f x).parts + n) (index_parts_are f xs)

pub steps_value_more : (f : TypedStep → StepMeasure) (xs : List TypedStep) (i : ℕ) (x : TypedStep) (v w all : ValueShape) → i < length xs → x ≡ get_or xs i x → after_steps (map f (drop i xs)) v ≡ all → w ≡ (f x).after v → after_steps (map f (drop (i + 1) xs)) w ≡ all
steps_value_more f xs i x v w all l e h k =
    ap (after_steps (map f (drop (i + 1) xs))) k
    ∙ sym (ap (λ ys. after_steps (map f ys) v) (drop_more xs i x l ∙ ap (λ y. y ∷ drop (i + 1) xs) (sym e))) ∙ h

pub steps_value_done : (f : TypedStep → StepMeasure) (xs : List TypedStep) (i : ℕ) (v all : ValueShape) → length xs ≤ i → after_steps (map f (drop i xs)) v ≡ all → v ≡ all
steps_value_done f xs i v all l h = sym (at_drop_all (λ ys. after_steps (map f ys) v) xs i l) ∙ h

pub steps_more : (d : DefinitionsForm) (f : TypedStep → StepMeasure) (xs : List TypedStep) (i : ℕ) (x : TypedStep) (v w : ValueShape) (sum n index own both all : ℕ) → i < length xs → x ≡ get_or xs i x → Adds sum (steps_parts d (map f (drop i xs)) v) all → w ≡ (f x).after v → index ≡ told (f x).parts → own ≡ told (own_parts d w) → both ≡ told (index + own) → n ≡ told (sum + both) → Adds n (steps_parts d (map f (drop (i + 1) xs)) w) all
steps_more d f xs i x v w sum n index own both all l e a k h o b s =
    let u = (f x).after v in
    subst (λ w. Adds n (steps_parts d (map f (drop (i + 1) xs)) w) all) (sym k)
    (adds_more sum n both ((f x).parts + own_parts d u) (steps_parts d (map f (drop (i + 1) xs)) u) all
    (told_sum (f x).parts (own_parts d u) index own both h (o ∙ ap (λ w. told (own_parts d w)) k) b) s
    (subst (λ ys. Adds sum (steps_parts d (map f ys) v) all) (drop_more xs i x l ∙ ap (λ y. y ∷ drop (i + 1) xs) (sym e)) a))

pub steps_done : (d : DefinitionsForm) (f : TypedStep → StepMeasure) (xs : List TypedStep) (i : ℕ) (v : ValueShape) (sum all : ℕ) → length xs ≤ i → Adds sum (steps_parts d (map f (drop i xs)) v) all → sum ≡ told all
steps_done d f xs i v sum all l a = adds_done sum all (subst (λ r. Adds sum r all) (at_drop_all (λ ys. steps_parts d (map f ys) v) xs i l) a)
