-- Arguments one after the other, each with the open sizes that are left for it.
use Rattle.std.proofs.Common.{◌≡◌, ℕ, zero, suc, ◌+◌, ◌-◌, ◌<◌, ◌≤◌, List, [], ◌∷◌, ◌++◌, map, drop, length, get_or, Option, Some, None, Bool, true, false, ◌&&◌, ◌==◌, refl, sym, ap, ◌∙◌, arith, nat_eq, nat_le, eq-eqb}
use Rattle.std.proofs.lemmas.List.{drop_all, length-append}
use Rattle.std.proofs.lemmas.List.Sums.{sum_by-cons}
use Rattle.std.proofs.lemmas.Bool.Decides.{nat_tests}
use Rattle.ctl_base.specs.declared.limits.TheConstants.{SCALARS}
use Rattle.ctl_types.specs.declared.shape.Extent.{Extent}
use Rattle.ctl_types.specs.declared.shape.Extent.TheVariants as extent
use Rattle.ctl_types.specs.declared.shape.Shape.{Shape}
use Rattle.ctl_types.specs.declared.shape.Shape.TheVariants as variant
use Rattle.ctl_types.specs.declared.value.Value.{Value}
use Rattle.ctl_types.specs.declared.program.Struct.{Struct}
use Rattle.ctl_types.specs.Shapes.{numbered, size_in, extents, base_of, local, locals, open_count, open_sizes_of}
use Rattle.ctl_types.specs.Values.{Env, fits, flat, flat_all, scalars, argument_fits, arguments_fit}
use Rattle.eval_values.specs.Sizes.{sizes_of, left, less, given_fits}
use Rattle.eval_values.proofs.Lists.{next}
use Rattle.eval_values.proofs.Alike.{extents_array}

-- ---- differences

pub less_some : (n k m : ℕ) → less n k ≡ Some m → n ≡ m + k
less_some n zero m e = let q : n ≡ m = cc in omega arith
less_some zero (suc k) m e = absurd (cc)
less_some (suc n) (suc k) m e = let q = less_some n k m e in omega arith

pub less_none : (n k : ℕ) → less n k ≡ None → n < k
less_none n zero e = absurd (cc)
less_none zero (suc k) e = omega arith
less_none (suc n) (suc k) e = let q = less_none n k e in omega arith

pub less_is : (n k : ℕ) → k ≤ n → less n k ≡ Some (n - k)
less_is n zero h = let q : n - zero ≡ n = omega arith in ap Some (sym q)
less_is zero (suc k) h = absurd (omega arith)
less_is (suc n) (suc k) h = let q : suc n - suc k ≡ n - k = omega arith in less_is n k (omega arith) ∙ ap Some (sym q)

pub less_short : (n k : ℕ) → n < k → less n k ≡ None
less_short n zero h = absurd (omega arith)
less_short zero (suc k) h = refl
less_short (suc n) (suc k) h = less_short n k (omega arith)

-- less one number and then another
pub less_sum : (n k l m : ℕ) → less n k ≡ Some m → less n (k + l) ≡ less m l
less_sum n zero l m e = let q : n ≡ m = cc in let z : zero + l ≡ l = omega arith in ap (less n) z ∙ ap (λ n. less n l) q
less_sum zero (suc k) l m e = absurd (cc)
less_sum (suc n) (suc k) l m e = let z : suc k + l ≡ suc (k + l) = omega arith in ap (less (suc n)) z ∙ less_sum n k l m e

pub less_fails : (n k l : ℕ) → less n k ≡ None → less n (k + l) ≡ None
less_fails n zero l e = absurd (cc)
less_fails zero (suc k) l e = let z : suc k + l ≡ suc (k + l) = omega arith in ap (less zero) z
less_fails (suc n) (suc k) l e = let z : suc k + l ≡ suc (k + l) = omega arith in ap (less (suc n)) z ∙ less_fails n k l e

-- an open extent takes one
pub none_left : (n k : ℕ) → n ≡ 0 → None ≡ less n (1 + k)
none_left n k e = sym (less_short n (1 + k) (omega arith))

pub one_fewer : (n k : ℕ) (r : Option ℕ) → (n ≡ 0 → ⊥) → r ≡ less (n - 1) k → r ≡ less n (1 + k)
one_fewer zero k r n e = absurd (n refl)
one_fewer (suc n) k r h e = let q : suc n - 1 ≡ n = omega arith in let z : 1 + k ≡ suc k = omega arith in e ∙ ap (λ n. less n k) q ∙ sym (ap (less (suc n)) z)

pub within_yes : (n k m : ℕ) → less n k ≡ Some m → true ≡ nat_le k n
within_yes n k m e = let q = less_some n k m e in grind (arith, nat_tests)

pub within_no : (n k : ℕ) → less n k ≡ None → false ≡ nat_le k n
within_no n k e = let q = less_none n k e in grind (arith, nat_tests)

-- the words of values one after the other
words_next : (parts : List Value) (i : ℕ) (a : Value) → i < length parts → a ≡ get_or parts i a → length (flat_all (drop i parts)) ≡ scalars a + length (flat_all (drop (i + 1) parts))
words_next parts i a h k = ap (λ l. length (flat_all l)) (next parts i a h k) ∙ length-append (flat a) (flat_all (drop (i + 1) parts))

pub words_fail : (parts : List Value) (i : ℕ) (a : Value) (n : ℕ) (all : Option ℕ) → i < length parts → a ≡ get_or parts i a → less n (length (flat_all (drop i parts))) ≡ all → less n (scalars a) ≡ None → None ≡ all
words_fail parts i a n all h k so e = sym (ap (less n) (words_next parts i a h k) ∙ less_fails n (scalars a) (length (flat_all (drop (i + 1) parts))) e) ∙ so

pub words_more : (parts : List Value) (i : ℕ) (a : Value) (n m : ℕ) (all : Option ℕ) → i < length parts → a ≡ get_or parts i a → less n (length (flat_all (drop i parts))) ≡ all → less n (scalars a) ≡ Some m → less m (length (flat_all (drop (i + 1) parts))) ≡ all
words_more parts i a n m all h k so e = sym (ap (less n) (words_next parts i a h k) ∙ less_sum n (scalars a) (length (flat_all (drop (i + 1) parts))) m e) ∙ so

-- ---- open sizes

get_behind : (opens : List ℕ) (k j : ℕ) → get_or opens (k + j) 0 ≡ get_or (drop k opens) j 0
get_behind opens zero j = let z : zero + j ≡ j = omega arith in ap (λ j. get_or opens j 0) z
get_behind [] (suc k) j = refl
get_behind (n ∷ opens) (suc k) j = let z : suc k + j ≡ suc (k + j) = omega arith in ap (λ j. get_or (n ∷ opens) j 0) z ∙ get_behind opens k j

sizes_behind : (opens : List ℕ) (k j : ℕ) (xs : List Extent) → map (size_in opens) (numbered (k + j) xs) ≡ map (size_in (drop k opens)) (numbered j xs)
sizes_behind opens k j [] = refl
sizes_behind opens k j (extent.Stated n ∷ xs) = ap (λ l. n ∷ l) (sizes_behind opens k j xs)
sizes_behind opens k j (extent.Unstated ∷ xs) =
    let q : k + j + 1 ≡ k + (j + 1) = omega arith in
    ap (λ m. m ∷ map (size_in opens) (numbered (k + j + 1) xs)) (get_behind opens k j) ∙ ap (λ l. get_or (drop k opens) j 0 ∷ l) (ap (λ m. map (size_in opens) (numbered m xs)) q ∙ sizes_behind opens k (j + 1) xs)

sizes_at_zero : (opens : List ℕ) (k : ℕ) (xs : List Extent) → map (size_in opens) (numbered k xs) ≡ sizes_of (drop k opens) xs
sizes_at_zero opens k xs = let q : k ≡ k + 0 = omega arith in ap (λ m. map (size_in opens) (numbered m xs)) q ∙ sizes_behind opens k 0 xs

drop_none : (k : ℕ) → drop {A = ℕ} k [] ≡ []
drop_none zero = refl
drop_none (suc k) = refl

drop_more : (opens : List ℕ) (k j : ℕ) → drop (k + j) opens ≡ drop j (drop k opens)
drop_more opens zero j = let z : zero + j ≡ j = omega arith in ap (λ j. drop j opens) z
drop_more [] k j = drop_none (k + j) ∙ sym (drop_none j) ∙ ap (drop j) (sym (drop_none k))
drop_more (n ∷ opens) (suc k) j = let z : suc k + j ≡ suc (k + j) = omega arith in ap (λ j. drop j (n ∷ opens)) z ∙ drop_more opens k j

-- the open sizes behind an array's
pub behind_is : (s elements : Shape) (x : Extent) (opens : List ℕ) → s ≡ variant.Array elements x → drop (open_count (extents s)) opens ≡ drop (open_count (extents elements)) (left x opens)
behind_is s elements x opens is = ap (λ xs. drop (open_count xs) opens) (extents_array s elements x is) ∙ by x where
  by : (x : Extent) → drop (open_count (x ∷ extents elements)) opens ≡ drop (open_count (extents elements)) (left x opens)
  by (extent.Stated n) = refl
  by extent.Unstated = drop_more opens 1 (open_count (extents elements))

pub open_unstated : (s elements : Shape) (x : Extent) → s ≡ variant.Array elements x → x ≡ extent.Unstated → open_count (extents s) ≡ 1 + open_count (extents elements)
open_unstated s elements x is e = ap open_count (extents_array s elements x is) ∙ ap (λ x. open_count (x ∷ extents elements)) e

same_argument : (structs : List Struct) (opens : List ℕ) (k : ℕ) (s : Shape) (v : Value) → argument_fits structs opens (local k s) v ≡ argument_fits structs (drop k opens) (local 0 s) v
same_argument structs opens k s v = ap (λ l. fits structs v l (Some (base_of s)) && nat_le (scalars v) SCALARS) (sizes_at_zero opens k (extents s))

pub shifted : (structs : List Struct) (opens : List ℕ) (k : ℕ) (shapes : List Shape) (frame : Env) → arguments_fit structs opens (locals k shapes) frame ≡ arguments_fit structs (drop k opens) (locals 0 shapes) frame
shifted structs opens k [] [] = refl
shifted structs opens k [] (v ∷ frame) = refl
shifted structs opens k (s ∷ shapes) [] = refl
shifted structs opens k (s ∷ shapes) (None ∷ frame) = refl
shifted structs opens k (s ∷ shapes) (Some v ∷ frame) =
    let c = open_count (extents s) in
    let z : 0 + open_count (extents s) ≡ open_count (extents s) = omega arith in
    ap (λ b. b && arguments_fit structs opens (locals (k + c) shapes) frame) (same_argument structs opens k s v)
    ∙ ap (λ b. argument_fits structs (drop k opens) (local 0 s) v && b) (shifted structs opens (k + c) shapes frame ∙ ap (λ l. arguments_fit structs l (locals 0 shapes) frame) (drop_more opens k c) ∙ sym (shifted structs (drop k opens) c shapes frame) ∙ sym (ap (λ c. arguments_fit structs (drop k opens) (locals c shapes) frame) z))

-- ---- one argument after the other

module _ {A : Type 0} (f : A → Shape) (structs : List Struct) (opens : List ℕ) (xs : List A) (frame : Env) (i : ℕ) (x : A) (o : Option Value) (all : Bool) (h : i < length xs) (k : x ≡ get_or xs i x) (l : i < length frame) (m : o ≡ get_or frame i o) (so : arguments_fit structs opens (locals 0 (map f (drop i xs))) (drop i frame) ≡ all) where
  one_more : arguments_fit structs opens (locals 0 (f x ∷ map f (drop (i + 1) xs))) (o ∷ drop (i + 1) frame) ≡ all
  one_more = sym (ap (λ l. arguments_fit structs opens (locals 0 (map f l)) (drop i frame)) (next xs i x h k) ∙ ap (λ l. arguments_fit structs opens (locals 0 (f x ∷ map f (drop (i + 1) xs))) l) (next frame i o l m)) ∙ so

  split : (o : Option Value) → arguments_fit structs opens (locals 0 (f x ∷ map f (drop (i + 1) xs))) (o ∷ drop (i + 1) frame) ≡ (given_fits structs opens (extents (f x)) (base_of (f x)) o && arguments_fit structs (drop (open_count (extents (f x))) opens) (locals 0 (map f (drop (i + 1) xs))) (drop (i + 1) frame))
  split None = refl
  split (Some v) =
      let z : 0 + open_count (extents (f x)) ≡ open_count (extents (f x)) = omega arith in
      ap (λ b. argument_fits structs opens (local 0 (f x)) v && b) (ap (λ c. arguments_fit structs opens (locals c (map f (drop (i + 1) xs))) (drop (i + 1) frame)) z ∙ shifted structs opens (open_count (extents (f x))) (map f (drop (i + 1) xs)) (drop (i + 1) frame))

  pub fits_next : (b : Bool) → b ≡ given_fits structs opens (extents (f x)) (base_of (f x)) o → b ≡ true → arguments_fit structs (drop (open_count (extents (f x))) opens) (locals 0 (map f (drop (i + 1) xs))) (drop (i + 1) frame) ≡ all
  fits_next b q e = sym (ap (λ b. b && arguments_fit structs (drop (open_count (extents (f x))) opens) (locals 0 (map f (drop (i + 1) xs))) (drop (i + 1) frame)) (sym q ∙ e)) ∙ sym (split o) ∙ one_more

  pub fits_not : (b : Bool) → b ≡ given_fits structs opens (extents (f x)) (base_of (f x)) o → b ≡ false → all ≡ false
  fits_not b q e = sym one_more ∙ split o ∙ ap (λ b. b && arguments_fit structs (drop (open_count (extents (f x))) opens) (locals 0 (map f (drop (i + 1) xs))) (drop (i + 1) frame)) (sym q ∙ e)

-- the arguments end before the parameters
pub fits_short : {A : Type 0} (f : A → Shape) (structs : List Struct) (opens : List ℕ) (xs : List A) (frame : Env) (i : ℕ) → i < length xs → length frame ≤ i → arguments_fit structs opens (locals 0 (map f (drop i xs))) (drop i frame) ≡ false
fits_short {A} f structs opens [] frame i h l = absurd (omega arith)
fits_short {A} f structs opens (x ∷ xs) [] zero h l = refl
fits_short {A} f structs opens (x ∷ xs) (o ∷ frame) zero h l = absurd (omega arith)
fits_short {A} f structs opens (x ∷ xs) [] (suc i) h l = by (drop i xs) (more xs i (omega arith)) where
  by : (ys : List A) → 0 < length ys → arguments_fit structs opens (locals 0 (map f ys)) [] ≡ false
  by [] p = absurd (omega arith)
  by (y ∷ ys) p = refl

  more : {B : Type 0} (ys : List B) (j : ℕ) → j < length ys → 0 < length (drop j ys)
  more [] j p = absurd (omega arith)
  more (y ∷ ys) zero p = omega arith
  more (y ∷ ys) (suc j) p = more ys j (omega arith)
fits_short {A} f structs opens (x ∷ xs) (o ∷ frame) (suc i) h l = fits_short f structs opens xs frame i (omega arith) (omega arith)

same : (a b : ℕ) → nat_eq (suc a) (suc b) ≡ nat_eq a b
same a b = grind (arith, nat_tests)

-- the parameters end, and the arguments must too
pub fits_end : {A : Type 0} (f : A → Shape) (structs : List Struct) (opens : List ℕ) (xs : List A) (frame : Env) (i : ℕ) → length xs ≤ i → i ≤ length frame → nat_eq i (length frame) ≡ arguments_fit structs opens (locals 0 (map f (drop i xs))) (drop i frame)
fits_end f structs opens xs frame i h l = by frame i l ∙ sym (ap (λ l. arguments_fit structs opens (locals 0 (map f l)) (drop i frame)) (drop_all i xs h)) where
  by : (frame : Env) (i : ℕ) → i ≤ length frame → nat_eq i (length frame) ≡ arguments_fit structs opens [] (drop i frame)
  by [] zero l = refl
  by [] (suc i) l = absurd (omega arith)
  by (o ∷ frame) zero l = grind (arith, nat_tests)
  by (o ∷ frame) (suc i) l = same i (length frame) ∙ by frame i (omega arith)

-- ---- how many are open

module _ {A : Type 0} (f : A → Shape) (xs : List A) (i : ℕ) (x : A) (h : i < length xs) (k : x ≡ get_or xs i x) where
  opens_next : open_sizes_of (map f (drop i xs)) ≡ open_count (extents (f x)) + open_sizes_of (map f (drop (i + 1) xs))
  opens_next = ap (λ l. open_sizes_of (map f l)) (next xs i x h k) ∙ sum_by-cons (λ s. open_count (extents s)) (f x) (map f (drop (i + 1) xs))

  pub open_more : (n m : ℕ) (all : Bool) → (n == open_sizes_of (map f (drop i xs))) ≡ all → n ≡ m + open_count (extents (f x)) → (m == open_sizes_of (map f (drop (i + 1) xs))) ≡ all
  open_more n m all so e = let q = opens_next in same ∙ so where
    same : (m == open_sizes_of (map f (drop (i + 1) xs))) ≡ (n == open_sizes_of (map f (drop i xs)))
    same = let q = opens_next in grind (arith, nat_tests)

  pub open_none : (n : ℕ) (all : Bool) → (n == open_sizes_of (map f (drop i xs))) ≡ all → n < open_count (extents (f x)) → all ≡ false
  open_none n all so e = sym so ∙ (let q = opens_next in grind (arith, nat_tests))
