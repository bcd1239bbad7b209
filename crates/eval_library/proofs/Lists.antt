-- The element of a list that a loop is at.
use Rattle.std.proofs.Common.{◌≡◌, ℕ, zero, suc, ◌+◌, ◌<◌, List, [], ◌∷◌, length, get_or, drop, refl, ap, sym, ◌∙◌, arith}

pub next : {A : Type 0} (xs : List A) (i : ℕ) (a : A) → i < length xs → a ≡ get_or xs i a → drop i xs ≡ a ∷ drop (i + 1) xs
next [] i a h e = absurd (omega arith)
next (x ∷ xs) zero a h e = ap (λ y. y ∷ xs) (sym e)
next (x ∷ xs) (suc i) a h e = (let q : suc i + 1 ≡ suc (i + 1) = omega arith in next xs i a (omega arith) e ∙ ap (λ n. a ∷ drop n (x ∷ xs)) (sym q))

-- an element that is read with one default or another
pub get_same : {A : Type 0} (xs : List A) (i : ℕ) (d e : A) → i < length xs → get_or xs i d ≡ get_or xs i e
get_same [] i d e h = absurd (omega arith)
get_same (x ∷ xs) zero d e h = refl
get_same (x ∷ xs) (suc i) d e h = get_same xs i d e (omega arith)
