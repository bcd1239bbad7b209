-- Products and sums of which no more is told than that they are above a limit.
use Rattle.std.proofs.Common.{◌≡◌, ◌≤◌, ℕ, zero, suc, ◌+◌, ◌*◌, min, List, [], ◌∷◌, map, Bool, true, false, Result, Ok, Err, refl, ap, sym, ◌∙◌, arith}
use Rattle.std.specs.Prelude.{nat_le, nat_lt, ◌&&◌, if◌then◌else◌}
use Rattle.std.proofs.Math.Nat.{mul_assoc}
use Rattle.ctl_base.specs.declared.limits.TheConstants.{SCALARS}
use Rattle.ctl_types.specs.declared.shape.Extent.{Extent}
use Rattle.ctl_types.specs.declared.shape.Extent.TheVariants as extent
use Rattle.ctl_types.specs.declared.shape.Shape.{Shape}
use Rattle.ctl_types.specs.declared.shape.Shape.TheVariants as variant
use Rattle.ctl_types.specs.declared.shape.Shape.TheOpen as layer
use Rattle.ctl_types.specs.declared.shape.Shape.TheFolds.{fold-roll-Shape}
use Rattle.ctl_types.specs.declared.shape.Base.{Base}
use Rattle.ctl_types.specs.Shapes.{extents, extents_step, base_of, base_step, numbered, size_in, whole_of, product, base_scalars, scalars_of}
use Rattle.ctl_scope.specs.declared.kind.CheckKind.{CheckKind}
use Rattle.ctl_scope.specs.declared.kind.CheckKind.TheVariants.{BadSize}
use Rattle.ctl_check_rules.specs.Shapes.{stated_size}
use Rattle.ctl_check_function.specs.Structs.{struct_rule}

-- one factor may be told no closer
capped_again : (a b c : ℕ) → min (a * min b c) c ≡ min (a * b) c
capped_again zero b c = grind arith
capped_again (suc a) b c =
    let h : b * suc a ≡ suc a * b = grind arith in
    let l : min b c ≤ suc a * min b c = grind arith in
    let m : b ≤ suc a * b = grind arith in
    grind (arith, l, m)

-- an array around elements whose scalars are told no closer
capped_around : (n p inner c : ℕ) → min (n * min (p * inner) c) c ≡ min (n * p * inner) c
capped_around n p inner c = capped_again n (p * inner) c ∙ ap (λ x. min x c) (sym (mul_assoc n p inner))

-- what is told so is above the limit where it is
capped_within : (t c : ℕ) → nat_le (min t (c + 1)) c ≡ nat_le t c
capped_within t c = grind arith

uncapped : (t c : ℕ) → nat_le t c ≡ true → min t (c + 1) ≡ t
uncapped t c e = grind arith

-- so the rule of a struct is the same
pub capped_rule : (is_twice : Bool) (fields t : ℕ) → struct_rule is_twice fields (min t (SCALARS + 1)) ≡ struct_rule is_twice fields t
capped_rule true fields t = refl
capped_rule false fields t = ap (λ b. if nat_lt 0 fields && b then Ok tt else Err BadSize) (capped_within t SCALARS)

-- and where it is kept, all is told
pub rule_tells : (is_twice : Bool) (fields t : ℕ) → struct_rule is_twice fields t ≡ Ok tt → min t (SCALARS + 1) ≡ t
rule_tells is_twice fields t e = grind (arith, uncapped)

-- the extents of an array, and what it holds in the end
extents_array : (s elements : Shape) (x : Extent) → s ≡ variant.Array elements x → extents s ≡ x ∷ extents elements
extents_array s elements x is = ap extents (is ∙ sym (variant.rolls-Array elements x)) ∙ fold-roll-Shape (List Extent) extents_step (layer.Array elements x)

base_array : (s elements : Shape) (x : Extent) → s ≡ variant.Array elements x → base_of s ≡ base_of elements
base_array s elements x is = ap base_of (is ∙ sym (variant.rolls-Array elements x)) ∙ fold-roll-Shape Base base_step (layer.Array elements x)

-- an open size counts as none
first_counted : (x : Extent) (xs : List Extent) → product (map (size_in []) (numbered 0 (x ∷ xs))) ≡ size_in [] (stated_size x) * product (map (size_in []) (numbered 0 xs))
first_counted (extent.Stated n) xs = refl
first_counted extent.Unstated xs = grind arith

-- its scalars
pub array_scalars : (counts : List ℕ) (s elements got : Shape) (x : Extent) (n r t c : ℕ) → s ≡ variant.Array elements x → n ≡ size_in [] (stated_size x) → got ≡ elements → r ≡ min (scalars_of counts (whole_of got).sizes (base_of got)) c → t ≡ min (n * r) c → t ≡ min (scalars_of counts (whole_of s).sizes (base_of s)) c
array_scalars counts s elements got x n r t c is counted same around told =
    told
    ∙ ap (λ r. min (n * r) c) (around ∙ ap (λ g. min (scalars_of counts (whole_of g).sizes (base_of g)) c) same)
    ∙ capped_around n (product (whole_of elements).sizes) (base_scalars counts (base_of elements)) c
    ∙ sym (ap (λ xs. min (scalars_of counts (map (size_in []) (numbered 0 xs)) (base_of s)) c) (extents_array s elements x is)
    ∙ ap (λ b. min (scalars_of counts (map (size_in []) (numbered 0 (x ∷ extents elements))) b) c) (base_array s elements x is)
    ∙ ap (λ p. min (p * base_scalars counts (base_of elements)) c) (first_counted x (extents elements) ∙ ap (λ k. k * product (whole_of elements).sizes) (sym counted)))
