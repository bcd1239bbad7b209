-- The element of a list that a loop is at.
use Rattle.std.proofs.Common.{◌≡◌, ℕ, zero, suc, ◌+◌, ◌<◌, ◌≤◌, List, [], ◌∷◌, map, length, get_or, drop, refl, ap, sym, ◌∙◌, arith, Bool, true, false, nat_eq, eq-eqb, ◌-◌}
use Rattle.std.proofs.lemmas.List.{drop_all, length-drop}
use Rattle.std.proofs.lemmas.Bool.Decides.{nat_tests}
use Rattle.eval_values.specs.Size.{total}

pub at_most : {A : Type 0} (f : A → ℕ) (xs : List A) (i : ℕ) (a : A) → i < length xs → a ≡ get_or xs i a → f a ≤ total (map f xs)
at_most f [] i a h e = absurd (omega arith)
at_most f (x ∷ xs) zero a h e = let q = ap f e in omega arith
at_most f (x ∷ xs) (suc i) a h e = let q = at_most f xs i a (omega arith) e in omega arith

pub next : {A : Type 0} (xs : List A) (i : ℕ) (a : A) → i < length xs → a ≡ get_or xs i a → drop i xs ≡ a ∷ drop (i + 1) xs
next [] i a h e = absurd (omega arith)
next (x ∷ xs) zero a h e = ap (λ y. y ∷ xs) (sym e)
next (x ∷ xs) (suc i) a h e = (let q : suc i + 1 ≡ suc (i + 1) = omega arith in next xs i a (omega arith) e ∙ ap (λ n. a ∷ drop n (x ∷ xs)) (sym q))

-- a test of two lists side by side: the second ends first, or the first one
pub short : {A B : Type 0} (test : List A → List B → Bool) → ((x : A) (xs : List A) → test (x ∷ xs) [] ≡ false) → (xs : List A) (ys : List B) (i : ℕ) → i < length xs → length ys ≤ i → test (drop i xs) (drop i ys) ≡ false
short {A} {B} test none xs ys i h k = ap (λ l. test (drop i xs) l) (drop_all i ys k) ∙ by (drop i xs) (omega (arith, length-drop i xs)) where
  by : (l : List A) → 0 < length l → test l [] ≡ false
  by [] p = absurd (omega arith)
  by (x ∷ l) p = none x l

pub end : {A B : Type 0} (test : List A → List B → Bool) → test [] [] ≡ true → ((y : B) (ys : List B) → test [] (y ∷ ys) ≡ false) → (xs : List A) (ys : List B) (i : ℕ) → length xs ≤ i → i ≤ length ys → nat_eq i (length ys) ≡ test (drop i xs) (drop i ys)
end {A} {B} test full none xs ys i h k = by (drop i ys) (length-drop i ys) ∙ ap (λ l. test l (drop i ys)) (sym (drop_all i xs h)) where
  by : (l : List B) → length l ≡ length ys - i → nat_eq i (length ys) ≡ test [] l
  by [] p = eq-eqb i (length ys) (omega arith) ∙ sym full
  by (y ∷ l) p = grind (arith, nat_tests) ∙ sym (none y l)
