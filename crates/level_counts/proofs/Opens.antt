-- Open sizes beyond those that there are, all of which are 0.
use Rattle.std.proofs.Common.{◌≡◌, ◌≤◌, ◌<◌, ℕ, zero, suc, ◌+◌, min, List, [], ◌∷◌, ◌++◌, map, drop, length, get_or, Some, ap, sym, ◌∙◌, refl, arith}
use Rattle.std.proofs.lemmas.List.{drop_more, get_or_past, append_assoc}
use Rattle.ctl_types.specs.declared.shape.Extent.{Extent}
use Rattle.ctl_types.specs.declared.shape.Extent.TheVariants as extent
use Rattle.ctl_types.specs.declared.shape.Shape.{Shape}
use Rattle.ctl_types.specs.declared.shape.Shape.TheVariants as variant
use Rattle.ctl_types.specs.declared.shape.Shape.TheOpen as layer
use Rattle.ctl_types.specs.declared.shape.Shape.TheFolds.{fold-roll-Shape}
use Rattle.ctl_types.specs.declared.program.Parameter.{Parameter}
use Rattle.ctl_types.specs.Shapes.{extents, extents_step, numbered, size_in, local, open_count}
use Rattle.level_counts.specs.declared.value.ValueShape.{ValueShape}
use Rattle.level_counts.specs.Shapes.{Table, value_shape, parameter_table}

beyond : (opens : List ℕ) (k j : ℕ) (xs : List Extent) → length opens ≤ k → length opens ≤ j → map (size_in opens) (numbered k xs) ≡ map (size_in opens) (numbered j xs)
beyond opens k j [] h i = refl
beyond opens k j (extent.Stated n ∷ xs) h i = ap (λ l. n ∷ l) (beyond opens k j xs h i)
beyond opens k j (extent.Unstated ∷ xs) h i =
    ap (λ n. n ∷ map (size_in opens) (numbered (k + 1) xs)) (get_or_past opens k 0 h ∙ sym (get_or_past opens j 0 i))
    ∙ ap (λ l. get_or opens j 0 ∷ l) (beyond opens (k + 1) (j + 1) xs (omega arith) (omega arith))

-- the lesser of two numbers
lesser : {A : Type 0} (k n : ℕ) → (min k n ≡ k → A) → (n ≤ k → min k n ≡ n → A) → A
lesser zero n f g = f (omega arith)
lesser (suc k) zero f g = g (omega arith) (omega arith)
lesser (suc k) (suc n) f g = lesser k n (λ e. f (omega arith)) (λ h e. g (omega arith) (omega arith))

-- no more are counted than there are
pub clamped : (opens : List ℕ) (k : ℕ) (xs : List Extent) → map (size_in opens) (numbered (min k (length opens)) xs) ≡ map (size_in opens) (numbered k xs)
clamped opens k xs = lesser k (length opens) (λ e. ap (λ k. map (size_in opens) (numbered k xs)) e) (λ h e. beyond opens (min k (length opens)) k xs (omega arith) h)

value_beyond : (opens : List ℕ) (k j : ℕ) (s : Shape) → length opens ≤ k → length opens ≤ j → value_shape opens (local k s) ≡ value_shape opens (local j s)
value_beyond opens k j s h i = ap (λ sizes. record { sizes = sizes; item = (value_shape opens (local k s)).item }) (beyond opens k j (extents s) h i)

table_beyond : (opens : List ℕ) (k j : ℕ) (qs : List Parameter) → length opens ≤ k → length opens ≤ j → parameter_table opens k qs ≡ parameter_table opens j qs
table_beyond opens k j [] h i = refl
table_beyond opens k j (q ∷ qs) h i =
    ap (λ (v : ValueShape). Some v ∷ parameter_table opens (k + open_count (extents q.shape)) qs) (value_beyond opens k j q.shape h i)
    ∙ ap (λ (t : Table). Some (value_shape opens (local j q.shape)) ∷ t) (table_beyond opens (k + open_count (extents q.shape)) (j + open_count (extents q.shape)) qs (omega arith) (omega arith))

pub table_clamped : (opens : List ℕ) (k : ℕ) (qs : List Parameter) → parameter_table opens (min k (length opens)) qs ≡ parameter_table opens k qs
table_clamped opens k qs = lesser k (length opens) (λ e. ap (λ k. parameter_table opens k qs) e) (λ h e. table_beyond opens (min k (length opens)) k qs (omega arith) h)

-- the step of the loop over parameters
pub table_more : (opens : List ℕ) (qs : List Parameter) (i : ℕ) (q : Parameter) (k n : ℕ) (t u all : Table) (v : ValueShape) → i < length qs → q ≡ get_or qs i q → t ++ parameter_table opens k (drop i qs) ≡ all → v ≡ value_shape opens (local k q.shape) → n ≡ min (k + open_count (extents q.shape)) (length opens) → u ≡ t ++ Some v ∷ [] → u ++ parameter_table opens n (drop (i + 1) qs) ≡ all
table_more opens qs i q k n t u all v l e h a b d =
    let rest = drop (i + 1) qs in
    ap (λ u. u ++ parameter_table opens n rest) d
    ∙ append_assoc t (Some v ∷ []) (parameter_table opens n rest)
    ∙ ap (λ p. t ++ (Some v ∷ p)) (ap (λ n. parameter_table opens n rest) b ∙ table_clamped opens (k + open_count (extents q.shape)) rest)
    ∙ ap (λ v. t ++ (Some v ∷ parameter_table opens (k + open_count (extents q.shape)) rest)) a
    ∙ sym (ap (λ qs. t ++ parameter_table opens k qs) (drop_more qs i q l ∙ ap (λ y. y ∷ rest) (sym e))) ∙ h

-- the extents of an array
extents_array : (s elements : Shape) (x : Extent) → s ≡ variant.Array elements x → extents s ≡ x ∷ extents elements
extents_array s elements x is = ap extents (is ∙ sym (variant.rolls-Array elements x)) ∙ fold-roll-Shape (List Extent) extents_step (layer.Array elements x)

-- the sizes of an array of open size
pub open_sizes : (opens : List ℕ) (s elements got : Shape) (x : Extent) (k n size : ℕ) (old mid new : List ℕ) → s ≡ variant.Array elements x → x ≡ extent.Unstated → got ≡ elements → size ≡ get_or opens k 0 → n ≡ min (k + 1) (length opens) → mid ≡ old ++ size ∷ [] → new ≡ mid ++ map (size_in opens) (numbered n (extents got)) → new ≡ old ++ map (size_in opens) (numbered k (extents s))
open_sizes opens s elements got x k n size old mid new is u g z b d e =
    e ∙ ap (λ m. m ++ map (size_in opens) (numbered n (extents got))) d
    ∙ append_assoc old (size ∷ []) (map (size_in opens) (numbered n (extents got)))
    ∙ ap (λ n. old ++ (size ∷ map (size_in opens) (numbered n (extents got)))) b
    ∙ ap (λ l. old ++ (size ∷ l)) (clamped opens (k + 1) (extents got))
    ∙ ap (λ g. old ++ (size ∷ map (size_in opens) (numbered (k + 1) (extents g)))) g
    ∙ ap (λ z. old ++ (z ∷ map (size_in opens) (numbered (k + 1) (extents elements)))) z
    ∙ sym (ap (λ xs. old ++ map (size_in opens) (numbered k xs)) (extents_array s elements extent.Unstated (is ∙ ap (λ x. variant.Array elements x) u)))
