-- The scalars of a value, form by form.
use Rattle.std.proofs.Common.{◌≡◌, ℤ, List, [], ◌∷◌, ap, sym, ◌∙◌}
use Rattle.std.proofs.lemmas.List.Folds.{flat_map-map}
use Rattle.ctl_types.specs.declared.value.Value.{Value}
use Rattle.ctl_types.specs.declared.value.Value.TheOpen.{One, List as ListForm, Fields}
use Rattle.ctl_types.specs.declared.value.Value.TheVariants as variant
use Rattle.ctl_types.specs.declared.value.Value.TheFolds.{fold-roll-Value}
use Rattle.ctl_types.specs.Values.{flat, flat_step, flat_all, one, list, fields}
use Rattle.ctl_types.specs.declared.scalar.Scalar.{Scalar}
use Rattle.ctl_types.specs.Scalars.{word_of}

pub flat_one : (s : Scalar) → flat (one s) ≡ word_of s ∷ []
flat_one s = fold-roll-Value (List ℤ) flat_step (One s)

pub flat_list : (vs : List Value) → flat (list vs) ≡ flat_all vs
flat_list vs = fold-roll-Value (List ℤ) flat_step (ListForm vs) ∙ flat_map-map (λ w. w) flat vs

pub flat_fields : (vs : List Value) → flat (fields vs) ≡ flat_all vs
flat_fields vs = fold-roll-Value (List ℤ) flat_step (Fields vs) ∙ flat_map-map (λ w. w) flat vs

-- by the case that a match found
pub flat_is_list : (v : Value) (vs ws : List Value) → v ≡ variant.List vs → ws ≡ vs → flat v ≡ flat_all ws
flat_is_list v vs ws is same = ap flat (is ∙ sym (variant.rolls-List vs)) ∙ flat_list vs ∙ ap flat_all (sym same)

pub flat_is_fields : (v : Value) (vs ws : List Value) → v ≡ variant.Fields vs → ws ≡ vs → flat v ≡ flat_all ws
flat_is_fields v vs ws is same = ap flat (is ∙ sym (variant.rolls-Fields vs)) ∙ flat_fields vs ∙ ap flat_all (sym same)
