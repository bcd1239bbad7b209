-- Pairs of a flat table, and the interval among them.
use Rattle.std.proofs.Common.{◌≡◌, ℕ, ℤ, pos, zero, suc, ◌<ℤ◌, ◌≤ℤ◌, ◌+◌, ◌*◌, ◌/◌, ◌<◌, true, false, List, [], ◌∷◌, length, get_or, add-one, refl, sym, arith}
use Rattle.std.proofs.lemmas.Int.{ints}
use Rattle.std.proofs.lemmas.List.Sums.{position_or_len_is}
use Rattle.std.specs.Prelude.{int_lt}
use Rattle.table_lookup.specs.Tables.{Pair, pairs, pair, interval}

-- the words of pair i
pub pair_x : (t : List ℤ) (i : ℕ) (d : ℤ) → 2 * i + 1 < length t → get_or t (2 * i) d ≡ (pair (pairs t) i).x
pair_x [] i d h = absurd (omega arith)
pair_x (x ∷ []) i d h = absurd (omega arith)
pair_x (x ∷ y ∷ t) zero d h = refl
pair_x (x ∷ y ∷ t) (suc i) d h = let e : 2 * suc i ≡ suc (suc (2 * i)) = omega arith in rw e (pair_x t i d (omega arith))

pub pair_y : (t : List ℤ) (i : ℕ) (d : ℤ) → 2 * i + 1 < length t → get_or t (2 * i + 1) d ≡ (pair (pairs t) i).y
pair_y [] i d h = absurd (omega arith)
pair_y (x ∷ []) i d h = absurd (omega arith)
pair_y (x ∷ y ∷ t) zero d h = refl
pair_y (x ∷ y ∷ t) (suc i) d h = let e : 2 * suc i + 1 ≡ suc (suc (2 * i + 1)) = omega arith in rw e (pair_y t i d (omega arith))

-- half as many pairs as words
pub length-pairs : (t : List ℤ) → length (pairs t) ≡ length t / 2
length-pairs [] = refl
length-pairs (x ∷ []) = refl
length-pairs (x ∷ y ∷ t) = let e : length (pairs t) ≡ length t / 2 = length-pairs t in omega arith

is_below : (a b : ℤ) → a <ℤ b → int_lt a b ≡ true
is_below a b h = grind (arith, ints)

at_or_below : (a b : ℤ) → int_lt a b ≡ false → b ≤ℤ a
at_or_below a b h = grind (arith, ints)

pub below_at : (a b : ℤ) → int_lt a b ≡ true → a <ℤ b
below_at a b h = grind (arith, ints)

-- the interval, from what lies before it and at it
pub interval_is : (es : List Pair) (p : ℤ) (i : ℕ) → i + 1 < length es → ((k : ℕ) → k < i → int_lt p (pair es (k + 1)).x ≡ false) → p <ℤ (pair es (i + 1)).x → i ≡ interval es p
unfolding interval
interval_is [] p i inside fails passes = absurd (omega arith)
interval_is (e ∷ es) p i inside fails passes =
    sym (position_or_len_is (λ (o : Pair). int_lt p o.x) es i (record { x = pos 0; y = pos 0 }) (omega arith)
    (λ k h. rw add-one at (fails k h))
    (λ h. is_below _ _ (rw add-one at passes)))

-- the pair before it lies at p or below
pub not_above : (es : List Pair) (p : ℤ) (i : ℕ) → (pair es 0).x <ℤ p → ((k : ℕ) → k < i → int_lt p (pair es (k + 1)).x ≡ false) → (pair es i).x ≤ℤ p
not_above es p zero first fails = omega (arith, ints)
not_above es p (suc i) first fails = at_or_below p (pair es (suc i)).x (rw add-one at (fails i (omega arith)))
