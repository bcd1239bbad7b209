-- Arguments one after the other, each with the open sizes that are left for it.
use Rattle.std.proofs.Common.{◌≡◌, ℕ, zero, suc, ◌+◌, ◌<◌, ◌≤◌, List, [], ◌∷◌, map, drop, length, get_or, Option, Some, None, Bool, true, false, ◌&&◌, ◌==◌, refl, sym, ap, ◌∙◌, arith, nat_eq, nat_le}
use Rattle.std.proofs.lemmas.List.{drop_all}
use Rattle.std.proofs.lemmas.List.Sums.{sum_by-cons}
use Rattle.std.proofs.lemmas.Bool.Decides.{nat_tests}
use Rattle.ctl_base.specs.declared.limits.TheConstants.{SCALARS}
use Rattle.ctl_types.specs.declared.shape.Extent.{Extent}
use Rattle.ctl_types.specs.declared.shape.Extent.TheVariants as extent
use Rattle.ctl_types.specs.declared.shape.Shape.{Shape}
use Rattle.ctl_types.specs.declared.value.Value.{Value}
use Rattle.ctl_types.specs.declared.program.Struct.{Struct}
use Rattle.ctl_types.specs.Shapes.{numbered, size_in, extents, base_of, local, locals, open_count, open_sizes_of}
use Rattle.ctl_types.specs.Values.{Env, fits, scalars, argument_fits, arguments_fit}
use Rattle.eval_values.specs.Sizes.{sizes_of, given_fits}
use Rattle.eval_library.proofs.Lists.{next}

-- ---- open sizes

get_behind : (opens : List ℕ) (k j : ℕ) → get_or opens (k + j) 0 ≡ get_or (drop k opens) j 0
get_behind opens zero j = let z : zero + j ≡ j = omega arith in ap (λ j. get_or opens j 0) z
get_behind [] (suc k) j = refl
get_behind (n ∷ opens) (suc k) j = let z : suc k + j ≡ suc (k + j) = omega arith in ap (λ j. get_or (n ∷ opens) j 0) z ∙ get_behind opens k j

sizes_behind : (opens : List ℕ) (k j : ℕ) (xs : List Extent) → map (size_in opens) (numbered (k + j) xs) ≡ map (size_in (drop k opens)) (numbered j xs)
sizes_behind opens k j [] = refl
sizes_behind opens k j (extent.Stated n ∷ xs) = ap (λ l. n ∷ l) (sizes_behind opens k j xs)
sizes_behind opens k j (extent.Unstated ∷ xs) =
    let q : k + j + 1 ≡ k + (j + 1) = omega arith in
    ap (λ m. m ∷ map (size_in opens) (numbered (k + j + 1) xs)) (get_behind opens k j) ∙ ap (λ l. get_or (drop k opens) j 0 ∷ l) (ap (λ m. map (size_in opens) (numbered m xs)) q ∙ sizes_behind opens k (j + 1) xs)

sizes_at_zero : (opens : List ℕ) (k : ℕ) (xs : List Extent) → map (size_in opens) (numbered k xs) ≡ sizes_of (drop k opens) xs
sizes_at_zero opens k xs = let q : k ≡ k + 0 = omega arith in ap (λ m. map (size_in opens) (numbered m xs)) q ∙ sizes_behind opens k 0 xs

drop_none : (k : ℕ) → drop {A = ℕ} k [] ≡ []
drop_none zero = refl
drop_none (suc k) = refl

drop_more : (opens : List ℕ) (k j : ℕ) → drop (k + j) opens ≡ drop j (drop k opens)
drop_more opens zero j = let z : zero + j ≡ j = omega arith in ap (λ j. drop j opens) z
drop_more [] k j = drop_none (k + j) ∙ sym (drop_none j) ∙ ap (drop j) (sym (drop_none k))
drop_more (n ∷ opens) (suc k) j = let z : suc k + j ≡ suc (k + j) = omega arith in ap (λ j. drop j (n ∷ opens)) z ∙ drop_more opens k j

same_argument : (structs : List Struct) (opens : List ℕ) (k : ℕ) (s : Shape) (v : Value) → argument_fits structs opens (local k s) v ≡ argument_fits structs (drop k opens) (local 0 s) v
same_argument structs opens k s v = ap (λ l. fits structs v l (Some (base_of s)) && nat_le (scalars v) SCALARS) (sizes_at_zero opens k (extents s))

pub shifted : (structs : List Struct) (opens : List ℕ) (k : ℕ) (shapes : List Shape) (frame : Env) → arguments_fit structs opens (locals k shapes) frame ≡ arguments_fit structs (drop k opens) (locals 0 shapes) frame
shifted structs opens k [] [] = refl
shifted structs opens k [] (v ∷ frame) = refl
shifted structs opens k (s ∷ shapes) [] = refl
shifted structs opens k (s ∷ shapes) (None ∷ frame) = refl
shifted structs opens k (s ∷ shapes) (Some v ∷ frame) =
    let c = open_count (extents s) in
    let z : 0 + open_count (extents s) ≡ open_count (extents s) = omega arith in
    ap (λ b. b && arguments_fit structs opens (locals (k + c) shapes) frame) (same_argument structs opens k s v)
    ∙ ap (λ b. argument_fits structs (drop k opens) (local 0 s) v && b) (shifted structs opens (k + c) shapes frame ∙ ap (λ l. arguments_fit structs l (locals 0 shapes) frame) (drop_more opens k c) ∙ sym (shifted structs (drop k opens) c shapes frame) ∙ sym (ap (λ c. arguments_fit structs (drop k opens) (locals c shapes) frame) z))

-- ---- one argument after the other

module _ {A : Type 0} (f : A → Shape) (structs : List Struct) (opens : List ℕ) (xs : List A) (frame : Env) (i : ℕ) (x : A) (o : Option Value) (all : Bool) (h : i < length xs) (k : x ≡ get_or xs i x) (l : i < length frame) (m : o ≡ get_or frame i o) (so : arguments_fit structs opens (locals 0 (map f (drop i xs))) (drop i frame) ≡ all) where
  one_more : arguments_fit structs opens (locals 0 (f x ∷ map f (drop (i + 1) xs))) (o ∷ drop (i + 1) frame) ≡ all
  one_more = sym (ap (λ l. arguments_fit structs opens (locals 0 (map f l)) (drop i frame)) (next xs i x h k) ∙ ap (λ l. arguments_fit structs opens (locals 0 (f x ∷ map f (drop (i + 1) xs))) l) (next frame i o l m)) ∙ so

  split : (o : Option Value) → arguments_fit structs opens (locals 0 (f x ∷ map f (drop (i + 1) xs))) (o ∷ drop (i + 1) frame) ≡ (given_fits structs opens (extents (f x)) (base_of (f x)) o && arguments_fit structs (drop (open_count (extents (f x))) opens) (locals 0 (map f (drop (i + 1) xs))) (drop (i + 1) frame))
  split None = refl
  split (Some v) =
      let z : 0 + open_count (extents (f x)) ≡ open_count (extents (f x)) = omega arith in
      ap (λ b. argument_fits structs opens (local 0 (f x)) v && b) (ap (λ c. arguments_fit structs opens (locals c (map f (drop (i + 1) xs))) (drop (i + 1) frame)) z ∙ shifted structs opens (open_count (extents (f x))) (map f (drop (i + 1) xs)) (drop (i + 1) frame))

  pub fits_next : (b : Bool) → b ≡ given_fits structs opens (extents (f x)) (base_of (f x)) o → b ≡ true → arguments_fit structs (drop (open_count (extents (f x))) opens) (locals 0 (map f (drop (i + 1) xs))) (drop (i + 1) frame) ≡ all
  fits_next b q e = sym (ap (λ b. b && arguments_fit structs (drop (open_count (extents (f x))) opens) (locals 0 (map f (drop (i + 1) xs))) (drop (i + 1) frame)) (sym q ∙ e)) ∙ sym (split o) ∙ one_more

  pub fits_not : (b : Bool) → b ≡ given_fits structs opens (extents (f x)) (base_of (f x)) o → b ≡ false → all ≡ false
  fits_not b q e = sym one_more ∙ split o ∙ ap (λ b. b && arguments_fit structs (drop (open_count (extents (f x))) opens) (locals 0 (map f (drop (i + 1) xs))) (drop (i + 1) frame)) (sym q ∙ e)

-- the arguments end before the parameters
pub fits_short : {A : Type 0} (f : A → Shape) (structs : List Struct) (opens : List ℕ) (xs : List A) (frame : Env) (i : ℕ) → i < length xs → length frame ≤ i → arguments_fit structs opens (locals 0 (map f (drop i xs))) (drop i frame) ≡ false
fits_short {A} f structs opens [] frame i h l = absurd (omega arith)
fits_short {A} f structs opens (x ∷ xs) [] zero h l = refl
fits_short {A} f structs opens (x ∷ xs) (o ∷ frame) zero h l = absurd (omega arith)
fits_short {A} f structs opens (x ∷ xs) [] (suc i) h l = by (drop i xs) (more xs i (omega arith)) where
  by : (ys : List A) → 0 < length ys → arguments_fit structs opens (locals 0 (map f ys)) [] ≡ false
  by [] p = absurd (omega arith)
  by (y ∷ ys) p = refl

  more : {B : Type 0} (ys : List B) (j : ℕ) → j < length ys → 0 < length (drop j ys)
  more [] j p = absurd (omega arith)
  more (y ∷ ys) zero p = omega arith
  more (y ∷ ys) (suc j) p = more ys j (omega arith)
fits_short {A} f structs opens (x ∷ xs) (o ∷ frame) (suc i) h l = fits_short f structs opens xs frame i (omega arith) (omega arith)

same : (a b : ℕ) → nat_eq (suc a) (suc b) ≡ nat_eq a b
same a b = grind (arith, nat_tests)

-- the parameters end, and the arguments must too
pub fits_end : {A : Type 0} (f : A → Shape) (structs : List Struct) (opens : List ℕ) (xs : List A) (frame : Env) (i : ℕ) → length xs ≤ i → i ≤ length frame → nat_eq i (length frame) ≡ arguments_fit structs opens (locals 0 (map f (drop i xs))) (drop i frame)
fits_end f structs opens xs frame i h l = by frame i l ∙ sym (ap (λ l. arguments_fit structs opens (locals 0 (map f l)) (drop i frame)) (drop_all i xs h)) where
  by : (frame : Env) (i : ℕ) → i ≤ length frame → nat_eq i (length frame) ≡ arguments_fit structs opens [] (drop i frame)
  by [] zero l = refl
  by [] (suc i) l = absurd (omega arith)
  by (o ∷ frame) zero l = grind (arith, nat_tests)
  by (o ∷ frame) (suc i) l = same i (length frame) ∙ by frame i (omega arith)

-- ---- how many are open

module _ {A : Type 0} (f : A → Shape) (xs : List A) (i : ℕ) (x : A) (h : i < length xs) (k : x ≡ get_or xs i x) where
  opens_next : open_sizes_of (map f (drop i xs)) ≡ open_count (extents (f x)) + open_sizes_of (map f (drop (i + 1) xs))
  opens_next = ap (λ l. open_sizes_of (map f l)) (next xs i x h k) ∙ sum_by-cons (λ s. open_count (extents s)) (f x) (map f (drop (i + 1) xs))

  pub open_more : (n m : ℕ) (all : Bool) → (n == open_sizes_of (map f (drop i xs))) ≡ all → n ≡ m + open_count (extents (f x)) → (m == open_sizes_of (map f (drop (i + 1) xs))) ≡ all
  open_more n m all so e = let q = opens_next in same ∙ so where
    same : (m == open_sizes_of (map f (drop (i + 1) xs))) ≡ (n == open_sizes_of (map f (drop i xs)))
    same = let q = opens_next in grind (arith, nat_tests)

  pub open_none : (n : ℕ) (all : Bool) → (n == open_sizes_of (map f (drop i xs))) ≡ all → n < open_count (extents (f x)) → all ≡ false
  open_none n all so e = sym so ∙ (let q = opens_next in grind (arith, nat_tests))
