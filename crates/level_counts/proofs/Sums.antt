-- Sums and products that stop at the greatest number, and sums over lists.
use Rattle.std.proofs.Common.{◌≡◌, ◌<◌, ◌≤◌, ◌^◌, ◌-◌, ℕ, zero, suc, ◌+◌, ◌*◌, min, List, ◌∷◌, map, drop, length, get_or, ap, sym, ◌∙◌, subst, refl, arith}
use Rattle.std.proofs.lemmas.List.{drop_more, at_drop_all}
use Rattle.std.proofs.Math.Nat.{mul_assoc, mul_comm}
use Rattle.ctl_types.specs.Shapes.{product}
use Rattle.level_counts.specs.Told.{told, total}

-- the greatest number
abbrev pub top : ℕ
top = 2 ^ 64 - 1

-- with any limit
sum_again : (m a b x y : ℕ) → x ≡ min a m → y ≡ min b m → min (x + y) m ≡ min (a + b) m
sum_again m a b x y h k = grind arith

sum_right : (m a b x : ℕ) → x ≡ min b m → min (a + x) m ≡ min (a + b) m
sum_right m a b x h = grind arith

same_again : (m a x : ℕ) → x ≡ min a m → min x m ≡ x
same_again m a x h = grind arith

sum_more : (m acc n v f r t : ℕ) → v ≡ min f m → n ≡ min (acc + v) m → min (acc + (f + r)) m ≡ t → min (n + r) m ≡ t
sum_more m acc n v f r t h k e = grind arith

sum_none : (m a t : ℕ) → min a m ≡ a → min (a + 0) m ≡ t → a ≡ t
sum_none m a t h k = grind arith

sum_zero : (a : ℕ) → 0 + a ≡ a
sum_zero a = omega arith

product_again : (m a b : ℕ) → min (min a m * b) m ≡ min (a * b) m
product_again m a zero = grind arith
product_again m a (suc b) =
    let h : a * suc b ≡ suc b * a = grind arith in
    let k : min a m * suc b ≡ suc b * min a m = grind arith in
    let l : min a m ≤ min a m * suc b = grind arith in
    let n : a ≤ a * suc b = grind arith in
    grind (arith, l, n)

-- ---- told

pub told_sum : (a b x y n : ℕ) → x ≡ told a → y ≡ told b → n ≡ told (x + y) → n ≡ told (a + b)
told_sum a b x y n h k e = e ∙ sum_again top a b x y h k

pub told_right : (a b x n : ℕ) → x ≡ told b → n ≡ told (a + x) → n ≡ told (a + b)
told_right a b x n h e = e ∙ sum_right top a b x h

pub told_once : (a x : ℕ) → x ≡ told a → told x ≡ x
told_once a x h = same_again top a x h

-- the sum so far, and what is left of it
pub record Adds (sum rest all : ℕ) : Type 0 where
  pub fits : told sum ≡ sum
  pub adds : told (sum + rest) ≡ told all

pub adds_all : (all : ℕ) → Adds 0 all all
adds_all all = record { fits = refl; adds = ap told (sum_zero all) }

pub adds_more : (sum n v f rest all : ℕ) → v ≡ told f → n ≡ told (sum + v) → Adds sum (f + rest) all → Adds n rest all
adds_more sum n v f rest all h k a = record { fits = told_once (sum + v) n k; adds = sum_more top sum n v f rest (told all) h k a.adds }

pub adds_done : (sum all : ℕ) → Adds sum 0 all → sum ≡ told all
adds_done sum all a = sum_none top sum (told all) a.fits a.adds

-- over a list
pub list_more : {X : Type 0} (f : X → ℕ) (xs : List X) (i : ℕ) (x : X) (sum n v all : ℕ) → i < length xs → x ≡ get_or xs i x → Adds sum (total (map f (drop i xs))) all → v ≡ told (f x) → n ≡ told (sum + v) → Adds n (total (map f (drop (i + 1) xs))) all
list_more f xs i x sum n v all l e a h k =
    adds_more sum n v (f x) (total (map f (drop (i + 1) xs))) all h k
    (subst (λ ys. Adds sum (total (map f ys)) all) (drop_more xs i x l ∙ ap (λ y. y ∷ drop (i + 1) xs) (sym e)) a)

pub list_done : {X : Type 0} (f : X → ℕ) (xs : List X) (i : ℕ) (sum all : ℕ) → length xs ≤ i → Adds sum (total (map f (drop i xs))) all → sum ≡ told all
list_done f xs i sum all l a = adds_done sum all (subst (λ r. Adds sum r all) (at_drop_all (λ ys. total (map f ys)) xs i l) a)

-- ---- products

-- the product so far, and what is left of it
pub record Multiplies (product rest all : ℕ) : Type 0 where
  pub fits : told product ≡ product
  pub times : told (product * rest) ≡ told all

one_times : (a : ℕ) → 1 * a ≡ a
one_times a = omega arith

times_one : (a : ℕ) → a * 1 ≡ a
times_one a = omega arith

pub multiplies_all : (all : ℕ) → Multiplies 1 all all
multiplies_all all = record { fits = refl; times = ap told (one_times all) }

-- a factor of which no more is told
pub told_times : (a b x n : ℕ) → x ≡ told b → n ≡ told (a * x) → n ≡ told (a * b)
told_times a b x n h e = e ∙ ap (λ x. told (a * x)) h ∙ ap told (mul_comm a (told b)) ∙ product_again top b a ∙ ap told (mul_comm b a)

pub product_more : (xs : List ℕ) (i acc n all : ℕ) → i < length xs → Multiplies acc (product (drop i xs)) all → n ≡ told (acc * get_or xs i 0) → Multiplies n (product (drop (i + 1) xs)) all
product_more xs i acc n all l a e =
    let x = get_or xs i 0 in
    let r = product (drop (i + 1) xs) in
    record {
      fits = told_once (acc * x) n e;
      times = ap (λ n. told (n * r)) e ∙ product_again top (acc * x) r ∙ ap told (mul_assoc acc x r) ∙ sym (ap (λ ys. told (acc * product ys)) (drop_more xs i 0 l)) ∙ a.times;
    }

pub product_done : (xs : List ℕ) (i acc all : ℕ) → length xs ≤ i → Multiplies acc (product (drop i xs)) all → acc ≡ told all
product_done xs i acc all l a = sym a.fits ∙ sym (ap told (times_one acc)) ∙ sym (ap (λ p. told (acc * p)) (at_drop_all product xs i l)) ∙ a.times
