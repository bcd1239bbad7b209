-- Lists that are made piece by piece.
use Rattle.std.proofs.Common.{◌≡◌, ℕ, zero, suc, ◌+◌, ◌*◌, ◌≤◌, List, [], ◌∷◌, ◌++◌, length, take, refl, sym, ap, ◌∙◌, append_assoc, length-append, arith}
use Rattle.std.proofs.Math.Nat.{zero-mul, suc-mul}
use Rattle.std.specs.List.{flat_map, range_with_len}
use Rattle.std.specs.Prelude.{set, All}
use Rattle.std.proofs.lemmas.List.Elements.{All-append, All-nil}
use Rattle.std.proofs.lemmas.List.{append-nil, take_more_set, length-set}
use Rattle.std.proofs.lemmas.List.Concat.{flat_map-append}

pub range_push : (a n : ℕ) → range_with_len a (n + 1) ≡ range_with_len a n ++ (a + n) ∷ []
range_push a zero = let e : a + 0 ≡ a = omega arith in rw e refl
range_push a (suc n) =
    let one : suc n + 1 ≡ suc (n + 1) = omega arith in
    let e : a + 1 + n ≡ a + suc n = omega arith in
    rw one (ap (λ (l : List ℕ). a ∷ l) (range_push (a + 1) n ∙ rw e refl))

-- one more piece
pub flat_range_next : {A : Type 0} (f : ℕ → List A) (a n : ℕ) → flat_map f (range_with_len a (n + 1)) ≡ flat_map f (range_with_len a n) ++ f (a + n)
flat_range_next f a n =
    ap (flat_map f) (range_push a n) ∙ flat_map-append f (range_with_len a n) ((a + n) ∷ []) ∙ ap (λ l. flat_map f (range_with_len a n) ++ l) (append-nil (f (a + n)))

-- three items in a row are written
pub take_three : (xs : List ℕ) (i a b c : ℕ) → i + 3 ≤ length xs → take (i + 3) (set (set (set xs i a) (i + 1) b) (i + 2) c) ≡ take i xs ++ a ∷ b ∷ c ∷ []
take_three xs i a b c room =
    let ys = set xs i a in
    let zs = set ys (i + 1) b in
    let ly = length-set xs i a in
    let lz = length-set ys (i + 1) b in
    let one : take (i + 1) ys ≡ take i xs ++ a ∷ [] = take_more_set xs i a (omega arith) in
    let two : take (i + 1 + 1) zs ≡ take (i + 1) ys ++ b ∷ [] = take_more_set ys (i + 1) b (omega arith) in
    let three : take (i + 2 + 1) (set zs (i + 2) c) ≡ take (i + 2) zs ++ c ∷ [] = take_more_set zs (i + 2) c (omega arith) in
    let e3 : i + 2 + 1 ≡ i + 3 = omega arith in
    let e2 : i + 1 + 1 ≡ i + 2 = omega arith in
    let two' : take (i + 2) zs ≡ take (i + 1) ys ++ b ∷ [] = rw e2 at two in
    rw (← e3, three, two', one) (append_assoc (take i xs ++ a ∷ []) (b ∷ []) (c ∷ []) ∙ append_assoc (take i xs) (a ∷ []) (b ∷ c ∷ []))

-- what holds in each piece holds in all
pub All-flat_map : {A B : Type 0} (P : B → Type 0) (f : A → List B) → ((x : A) → All P (f x)) → (xs : List A) → All P (flat_map f xs)
All-flat_map P f each [] = All-nil P
All-flat_map P f each (x ∷ xs) = All-append P (f x) (flat_map f xs) (each x) (All-flat_map P f each xs)

-- pieces of one length
pub length_flat_range : {A : Type 0} (f : ℕ → List A) (k a n : ℕ) → ((x : ℕ) → length (f x) ≡ k) → length (flat_map f (range_with_len a n)) ≡ n * k
length_flat_range f k a zero each = sym (zero-mul k)
length_flat_range f k a (suc n) each =
    let one = length-append (f a) (flat_map f (range_with_len (a + 1) n)) in
    let ih = length_flat_range f k (a + 1) n each in
    let here = each a in
    let e = suc-mul n k in
    omega arith
