-- What is made of a tally number by number.
use Rattle.std.proofs.Common.{◌≡◌, ℕ, ◌+◌, List, [], ◌∷◌, refl, ap, ◌∙◌}
use Rattle.line_watch.specs.Tally.{at_places}

-- one after another
pub at_places-twice : (f g h : ℕ → ℕ → ℕ) → ((i n : ℕ) → f i (g i n) ≡ h i n) → (i : ℕ) (ns : List ℕ) → at_places f i (at_places g i ns) ≡ at_places h i ns
at_places-twice f g h e i [] = refl
at_places-twice f g h e i (n ∷ ns) =
    ap (λ (m : ℕ). m ∷ at_places f (i + 1) (at_places g (i + 1) ns)) (e i n)
    ∙ ap (λ (ms : List ℕ). h i n ∷ ms) (at_places-twice f g h e (i + 1) ns)

-- what changes no number
pub at_places-same : (f : ℕ → ℕ → ℕ) → ((i n : ℕ) → f i n ≡ n) → (i : ℕ) (ns : List ℕ) → at_places f i ns ≡ ns
at_places-same f e i [] = refl
at_places-same f e i (n ∷ ns) =
    ap (λ (m : ℕ). m ∷ at_places f (i + 1) ns) (e i n)
    ∙ ap (λ (ms : List ℕ). n ∷ ms) (at_places-same f e (i + 1) ns)
