-- What rows tell by marks is what they tell.
use Rattle.std.proofs.Common.{◌≡◌, ℕ, ◌≤◌, List, [], ◌∷◌, drop, length, Bool, false, ◌&&◌, ◌||◌, get_or, ap, ◌∙◌, refl}
use Rattle.std.proofs.lemmas.List.{at_drop_all}
use Rattle.level_rules.specs.declared.instance.Instance.{Instance}
use Rattle.level_rules.specs.declared.instance.Holder.{Holder}
use Rattle.level_rules.specs.Rows.{mark_of, in_row, pick, tells}
use Rattle.level_sets.specs.Marks.{pick_mark, tells_mark}

pick_nil : (bits : List Bool) (m : ℕ) → pick_mark bits [] m ≡ false
pick_nil [] m = refl
pick_nil (b ∷ bits) m = refl

pub pick_past : (bits : List Bool) (rows : List (List Bool)) (i m : ℕ) → length rows ≤ i → pick_mark (drop i bits) (drop i rows) m ≡ false
pick_past bits rows i m h = at_drop_all (λ r. pick_mark (drop i bits) r m) rows i h ∙ pick_nil (drop i bits) m

pick_is : (bits : List Bool) (rows : List (List Bool)) (h : Holder) → pick_mark bits rows (mark_of h) ≡ pick bits rows h
pick_is [] rows h = refl
pick_is (b ∷ bits) [] h = refl
pick_is (b ∷ bits) (row ∷ rows) h = ap (λ p. (b && in_row row h) || p) (pick_is bits rows h)

pub tells_is : (rows : List (List (List Bool))) (i : Instance) (h : Holder) → tells_mark rows i (mark_of h) ≡ tells rows i h
tells_is rows i h = pick_is (i.control ∷ i.levels) (get_or rows i.function []) h
