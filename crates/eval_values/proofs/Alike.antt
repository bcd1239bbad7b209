-- Values of a shape, and shapes.
use Rattle.std.proofs.Common.{◌≡◌, ℕ, zero, suc, ◌+◌, ◌<◌, ◌≤◌, List, [], ◌∷◌, map, length, get_or, drop, refl, ap, sym, ◌∙◌, arith, Bool, true, false, ◌&&◌, ◌==◌, Option, Some, None, nat_eq}
use Rattle.ctl_types.specs.declared.shape.Base.{Base}
use Rattle.ctl_types.specs.declared.shape.Extent.{Extent}
use Rattle.ctl_types.specs.declared.shape.Extent.TheVariants as extent
use Rattle.ctl_types.specs.declared.shape.Shape.{Shape, roll-Shape}
use Rattle.ctl_types.specs.declared.shape.Shape.TheVariants as variant
use Rattle.ctl_types.specs.declared.shape.Shape.TheOpen as layer
use Rattle.ctl_types.specs.declared.shape.Shape.TheFolds.{fold-roll-Shape}
use Rattle.ctl_types.specs.declared.program.Struct.{Struct}
use Rattle.ctl_types.specs.declared.value.Value.{Value}
use Rattle.ctl_types.specs.declared.value.Value.TheVariants as value_variant
use Rattle.ctl_types.specs.declared.value.Value.TheOpen as value_layer
use Rattle.ctl_types.specs.declared.value.Value.TheFolds.{fold-roll-Value}
use Rattle.ctl_types.specs.Values.{Fit, alike, all_alike, fits, fit_step, all_fit, each_fit}
use Rattle.ctl_types.specs.Shapes.{numbered, size_in, extents, extents_step, base_of, base_step}
use Rattle.eval_values.specs.Sizes.{sizes_of, own, left}

pub extents_array : (s elements : Shape) (x : Extent) → s ≡ variant.Array elements x → extents s ≡ x ∷ extents elements
extents_array s elements x is = ap extents (is ∙ sym (variant.rolls-Array elements x)) ∙ fold-roll-Shape (List Extent) extents_step (layer.Array elements x)

base_array : (s elements : Shape) (x : Extent) → s ≡ variant.Array elements x → base_of s ≡ base_of elements
base_array s elements x is = ap base_of (is ∙ sym (variant.rolls-Array elements x)) ∙ fold-roll-Shape Base base_step (layer.Array elements x)

fits_list : (structs : List Struct) (v : Value) (vs : List Value) (n : ℕ) (sizes : List ℕ) (b : Option Base) → v ≡ value_variant.List vs → fits structs v (n ∷ sizes) b ≡ (length (map (fits structs) vs) == n && all_fit (map (fits structs) vs) sizes b)
fits_list structs v vs n sizes b is = ap (λ v. fits structs v (n ∷ sizes) b) (is ∙ sym (value_variant.rolls-List vs)) ∙ ap (λ (f : Fit). f (n ∷ sizes) b) (fold-roll-Value Fit (fit_step structs) (value_layer.List vs))

-- the open sizes behind the first
get_rest : (opens : List ℕ) (k : ℕ) → get_or opens (k + 1) 0 ≡ get_or (drop 1 opens) k 0
get_rest [] k = let q : k + 1 ≡ suc k = omega arith in ap (λ n. get_or [] n 0) q
get_rest (n ∷ opens) k = let q : k + 1 ≡ suc k = omega arith in ap (λ m. get_or (n ∷ opens) m 0) q

moved : (opens : List ℕ) (xs : List Extent) (k : ℕ) → map (size_in opens) (numbered (k + 1) xs) ≡ map (size_in (drop 1 opens)) (numbered k xs)
moved opens [] k = refl
moved opens (extent.Stated n ∷ xs) k = ap (λ l. n ∷ l) (moved opens xs k)
moved opens (extent.Unstated ∷ xs) k = ap (λ m. m ∷ map (size_in opens) (numbered (k + 1 + 1) xs)) (get_rest opens k) ∙ ap (λ l. get_or (drop 1 opens) k 0 ∷ l) (moved opens xs (k + 1))

sizes_next : (opens : List ℕ) (x : Extent) (xs : List Extent) → sizes_of opens (x ∷ xs) ≡ size_in opens (own x) ∷ sizes_of (left x opens) xs
sizes_next opens (extent.Stated n) xs = refl
sizes_next opens extent.Unstated xs = ap (λ l. get_or opens 0 0 ∷ l) (moved opens xs 0)

long : {A B : Type 0} (f : A → B) (xs : List A) → length (map f xs) ≡ length xs
long f [] = refl
long f (x ∷ xs) = ap suc (long f xs)

pub fits_array : (structs : List Struct) (v : Value) (vs : List Value) (s elements : Shape) (x : Extent) (opens : List ℕ) → v ≡ value_variant.List vs → s ≡ variant.Array elements x → fits structs v (sizes_of opens (extents s)) (Some (base_of s)) ≡ (nat_eq (length vs) (size_in opens (own x)) && all_fit (map (fits structs) vs) (sizes_of (left x opens) (extents elements)) (Some (base_of elements)))
fits_array structs v vs s elements x opens is shape =
    ap (λ b. fits structs v (sizes_of opens (extents s)) (Some b)) (base_array s elements x shape)
    ∙ ap (λ l. fits structs v l (Some (base_of elements))) (ap (sizes_of opens) (extents_array s elements x shape) ∙ sizes_next opens x (extents elements))
    ∙ fits_list structs v vs _ _ _ is
    ∙ ap (λ n. nat_eq n (size_in opens (own x)) && all_fit (map (fits structs) vs) (sizes_of (left x opens) (extents elements)) (Some (base_of elements))) (long (fits structs) vs)

pub array_yes : (a b t r : Bool) → a ≡ true → b ≡ r → t ≡ (a && b) → r ≡ t
array_yes a b t r h e q = sym (q ∙ ap (λ a. a && b) h ∙ e)

pub array_no : (a b t : Bool) → a ≡ false → t ≡ (a && b) → a ≡ t
array_no a b t h q = h ∙ sym (q ∙ ap (λ a. a && b) h)
