-- Lists of levels and of sizes that are one.
use Rattle.std.proofs.Common.{◌≡◌, ◌≢◌, ◌≤◌, ℕ, List, [], ◌∷◌, Bool, true, false, ◌&&◌, ◌==◌, length, drop, ap, sym, ◌∙◌, refl, arith}
use Rattle.std.proofs.lemmas.List.{drop_all}
use Rattle.level_rules.specs.Reached.{same_level, same_levels, same_sizes}

and_false : (b : Bool) → (b && false) ≡ false
and_false true = refl
and_false false = refl

pub levels_differ : (a b : List Bool) → length a ≢ length b → false ≡ same_levels a b
levels_differ [] [] h = absurd (h refl)
levels_differ [] (y ∷ b) h = refl
levels_differ (x ∷ a) [] h = refl
levels_differ (x ∷ a) (y ∷ b) h = sym (and_false (same_level x y)) ∙ ap (λ v. same_level x y && v) (levels_differ a b (λ e. h (omega arith)))

pub levels_end : (a b : List Bool) (k : ℕ) → length a ≤ k → length b ≤ k → same_levels (drop k a) (drop k b) ≡ same_levels a b → true ≡ same_levels a b
levels_end a b k h i e = sym (ap (λ l. same_levels l (drop k b)) (drop_all k a h) ∙ ap (same_levels []) (drop_all k b i)) ∙ e

pub sizes_differ : (a b : List ℕ) → length a ≢ length b → false ≡ same_sizes a b
sizes_differ [] [] h = absurd (h refl)
sizes_differ [] (y ∷ b) h = refl
sizes_differ (x ∷ a) [] h = refl
sizes_differ (x ∷ a) (y ∷ b) h = sym (and_false (x == y)) ∙ ap (λ v. x == y && v) (sizes_differ a b (λ e. h (omega arith)))

pub sizes_end : (a b : List ℕ) (k : ℕ) → length a ≤ k → length b ≤ k → same_sizes (drop k a) (drop k b) ≡ same_sizes a b → true ≡ same_sizes a b
sizes_end a b k h i e = sym (ap (λ l. same_sizes l (drop k b)) (drop_all k a h) ∙ ap (same_sizes []) (drop_all k b i)) ∙ e
