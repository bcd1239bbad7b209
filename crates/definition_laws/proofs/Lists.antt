-- Lists of variables, and of numbers that are used.
use Rattle.std.proofs.Common.{◌≡◌, ℕ, zero, suc, ◌+◌, ◌-◌, ◌≤◌, ◌<◌, List, [], ◌∷◌, ◌++◌, length, take, replicate, Option, Some, None, Bool, true, false, not, ◌==◌, ◌||◌, refl, sym, ap, subst, ◌∙◌, arith, slice_get, slice_set, length-append, nat_eq}
use Rattle.std.proofs.lemmas.List.{append_assoc, append-nil, replicate-append-replicate, length-replicate}
use Rattle.std.proofs.lemmas.Bool.{eqb-true}
use Rattle.ctl_types.specs.Typing.{Variable, Variables}
use Rattle.ctl_types.specs.Scoping.{is_free, is_among}

-- ---- variables

-- variables that are not declared yet
abbrev pub later : ℕ → Variables
later k = replicate k None

pub none_more : (k : ℕ) → length {A = Option Variable} [] + k ≡ k
none_more k = omega arith

pub later_both : (vs : Variables) (m k : ℕ) → vs ++ later (m + k) ≡ (vs ++ later m) ++ later k
later_both vs m k = ap (λ ws. vs ++ ws) (sym (replicate-append-replicate m k None)) ∙ sym (append_assoc vs (later m) (later k))

pub take_front : (vs ws : Variables) → take (length vs) (vs ++ ws) ≡ vs
take_front [] [] = refl
take_front [] (w ∷ ws) = refl
take_front (v ∷ vs) ws = ap (λ us. v ∷ us) (take_front vs ws)

pub free_at_end : (vs ws : Variables) → is_free (slice_get (vs ++ None ∷ ws) (length vs)) ≡ true
free_at_end [] ws = refl
free_at_end (v ∷ vs) ws = free_at_end vs ws

pub set_at_end : (vs ws : Variables) (v : Variable) → slice_set (vs ++ None ∷ ws) (length vs) (Some v) ≡ (vs ++ Some v ∷ []) ++ ws
set_at_end [] ws v = refl
set_at_end (u ∷ vs) ws v = ap (λ us. u ∷ us) (set_at_end vs ws v)

-- ---- numbers that are used

-- each of these is below a number
abbrev pub AreBelow : ℕ → List ℕ → Type 0
AreBelow n [] = Unit {0}
AreBelow n (x ∷ xs) = (x < n) × AreBelow n xs

pub below_more : (m n : ℕ) (xs : List ℕ) → m ≤ n → AreBelow m xs → AreBelow n xs
below_more m n [] l h = tt
below_more m n (x ∷ xs) l h = let a = h.0 in (omega arith, below_more m n xs l h.1)

other : (n x : ℕ) → x < n → (n == x) ≡ false
other n x l = by (n == x) refl where
  by : (b : Bool) → (n == x) ≡ b → (n == x) ≡ false
  by false e = e
  by true e = let q : n ≡ x = eqb-true n x e in absurd (omega arith)

-- a number that is above all of them is not among them
pub not_among : (n : ℕ) (xs : List ℕ) → AreBelow n xs → not (is_among n xs) ≡ true
not_among n [] h = refl
not_among n (x ∷ xs) h = rw (other n x h.0) (not_among n xs h.1)
