-- All of some lists.
use Rattle.std.proofs.Common.{◌≡◌, ℕ, zero, suc, ◌<◌, List, [], ◌∷◌, ◌++◌, arith, All}
use Rattle.std.proofs.lemmas.List.Elements.{All-head, All-tail}

pub all_left : {A : Type 0} (P : A → Type 0) (xs ys : List A) → All P (xs ++ ys) → All P xs
all_left P [] ys a k d l = absurd (omega arith)
all_left P (x ∷ xs) ys a zero d l = All-head P x (xs ++ ys) a
all_left P (x ∷ xs) ys a (suc k) d l = all_left P xs ys (All-tail P x (xs ++ ys) a) k d (omega arith)

pub all_right : {A : Type 0} (P : A → Type 0) (xs ys : List A) → All P (xs ++ ys) → All P ys
all_right P [] ys a = a
all_right P (x ∷ xs) ys a = all_right P xs ys (All-tail P x (xs ++ ys) a)
