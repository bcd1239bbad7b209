-- Parameters of an entry, one after the other.
use Rattle.std.proofs.Common.{◌≡◌, ℕ, zero, suc, ◌+◌, ◌<◌, ◌≤◌, List, [], ◌∷◌, ◌++◌, drop, length, get_or, Option, None, Bool, true, false, ◌&&◌, nat_le, refl, ap, sym, ◌∙◌, arith}
use Rattle.std.proofs.lemmas.Bool.{false≢true}
use Rattle.std.proofs.lemmas.List.{drop_all, append-nil}
use Rattle.ctl_base.specs.declared.limits.TheConstants.{ARRAY_SIZE}
use Rattle.ctl_types.specs.declared.value.Value.{Value}
use Rattle.ctl_types.specs.declared.program.Struct.{Struct}
use Rattle.ctl_types.specs.declared.program.Parameter.{Parameter}
use Rattle.ctl_types.specs.Shapes.{extents}
use Rattle.ctl_types.specs.Values.{Env, sizes_at, sizes_fit, open_sizes}
use Rattle.ctl_types.specs.Run.{first_frame, outputs_of}
use Rattle.ctl_eval.specs.Means.{behind, shapes_of}

next : {A : Type 0} (xs : List A) (i : ℕ) (a : A) → i < length xs → a ≡ get_or xs i a → drop i xs ≡ a ∷ drop (i + 1) xs
next [] i a h e = absurd (omega arith)
next (x ∷ xs) zero a h e = ap (λ y. y ∷ xs) (sym e)
next (x ∷ xs) (suc i) a h e = (let q : suc i + 1 ≡ suc (i + 1) = omega arith in next xs i a (omega arith) e ∙ ap (λ n. a ∷ drop n (x ∷ xs)) (sym q))

-- ---- the inputs of an entry

too_many : (structs : List Struct) (vs : List Value) → 0 < length vs → first_frame structs [] vs ≡ None
too_many structs [] h = absurd (omega arith)
too_many structs (v ∷ vs) h = refl

length_left : {A : Type 0} (xs : List A) (n : ℕ) → n < length xs → 0 < length (drop n xs)
length_left [] n h = absurd (omega arith)
length_left (x ∷ xs) zero h = omega arith
length_left (x ∷ xs) (suc n) h = length_left xs n (omega arith)

pub inputs_left : (structs : List Struct) (parameters : List Parameter) (inputs : List Value) (done : Env) (i n : ℕ) → length parameters ≤ i → n < length inputs → behind done (first_frame structs (drop i parameters) (drop n inputs)) ≡ None
inputs_left structs parameters inputs done i n h k =
    ap (λ ps. behind done (first_frame structs ps (drop n inputs))) (drop_all i parameters h)
    ∙ ap (behind done) (too_many structs (drop n inputs) (length_left inputs n k))

-- ---- open sizes

and_left : (a b : Bool) → (a && b) ≡ true → a ≡ true
and_left true b e = refl
and_left false b e = absurd (false≢true e)

and_right : (a b : Bool) → (a && b) ≡ true → b ≡ true
and_right true b e = e
and_right false b e = absurd (false≢true e)

fits_left : (a b : List ℕ) → sizes_fit (a ++ b) ≡ true → sizes_fit a ≡ true
fits_left [] b e = refl
fits_left (n ∷ a) b e =
    ap (λ t. t && sizes_fit a) (and_left (nat_le 1 n && nat_le n ARRAY_SIZE) (sizes_fit (a ++ b)) e) ∙ fits_left a b (and_right (nat_le 1 n && nat_le n ARRAY_SIZE) (sizes_fit (a ++ b)) e)

fits_right : (a b : List ℕ) → sizes_fit (a ++ b) ≡ true → sizes_fit b ≡ true
fits_right [] b e = e
fits_right (n ∷ a) b e = fits_right a b (and_right (nat_le 1 n && nat_le n ARRAY_SIZE) (sizes_fit (a ++ b)) e)

module _ (parameters : List Parameter) (frame : Env) (i : ℕ) (q : Parameter) (v : Option Value) (h : i < length parameters) (e : q ≡ get_or parameters i q) (k : i < length frame) (f : v ≡ get_or frame i v) where
  sizes_next : open_sizes (shapes_of (drop i parameters)) (drop i frame) ≡ sizes_at (extents q.shape) v ++ open_sizes (shapes_of (drop (i + 1) parameters)) (drop (i + 1) frame)
  sizes_next =
      ap (λ ps. open_sizes (shapes_of ps) (drop i frame)) (next parameters i q h e)
      ∙ ap (λ vs. open_sizes (shapes_of (q ∷ drop (i + 1) parameters)) vs) (next frame i v k f)

  pub size_fits : (done whole : List ℕ) → done ++ open_sizes (shapes_of (drop i parameters)) (drop i frame) ≡ whole → sizes_fit whole ≡ true → sizes_fit (sizes_at (extents q.shape) v) ≡ true
  size_fits done whole so w =
      fits_left (sizes_at (extents q.shape) v) (open_sizes (shapes_of (drop (i + 1) parameters)) (drop (i + 1) frame))
      (ap sizes_fit (sym sizes_next) ∙ fits_right done (open_sizes (shapes_of (drop i parameters)) (drop i frame)) (ap sizes_fit so ∙ w))

no_frame_sizes : (parameters : List Parameter) → open_sizes (shapes_of parameters) [] ≡ []
no_frame_sizes [] = refl
no_frame_sizes (q ∷ parameters) = refl

pub sizes_done : (parameters : List Parameter) (frame : Env) (done : List ℕ) (i : ℕ) → length parameters ≤ i → done ++ open_sizes (shapes_of (drop i parameters)) (drop i frame) ≡ done
sizes_done parameters frame done i h = ap (λ ps. done ++ open_sizes (shapes_of ps) (drop i frame)) (drop_all i parameters h) ∙ append-nil done

pub sizes_short : (parameters : List Parameter) (frame : Env) (done : List ℕ) (i : ℕ) → length frame ≤ i → done ++ open_sizes (shapes_of (drop i parameters)) (drop i frame) ≡ done
sizes_short parameters frame done i h =
    ap (λ vs. done ++ open_sizes (shapes_of (drop i parameters)) vs) (drop_all i frame h) ∙ ap (λ l. done ++ l) (no_frame_sizes (drop i parameters)) ∙ append-nil done

-- ---- outputs

some_parameters : (ps : List Parameter) → 0 < length ps → outputs_of ps [] ≡ None
some_parameters [] h = absurd (omega arith)
some_parameters (q ∷ ps) h = refl

pub frame_over : (parameters : List Parameter) (frame : Env) (done : List Value) (i : ℕ) → i < length parameters → length frame ≤ i → behind done (outputs_of (drop i parameters) (drop i frame)) ≡ None
frame_over parameters frame done i h k = ap (λ l. behind done (outputs_of (drop i parameters) l)) (drop_all i frame k) ∙ ap (behind done) (some_parameters (drop i parameters) (length_left parameters i h))
