-- The result and the outputs of a call, from the words that it filled.
use Rattle.std.proofs.Common.{◌≡◌, ℕ, zero, suc, pos, ℤ, ◌+◌, ◌<◌, ◌≤◌, List, [], ◌∷◌, ◌++◌, map, replicate, take, drop, length, get_or, slice_set, Option, Some, None, Bool, true, false, if◌then◌else◌, refl, sym, ap, subst, ◌∙◌, arith, append-nil, append_assoc}
use Rattle.std.proofs.lemmas.List.{drop_all, take_all, take_more_set, drop-set-lt}
use Rattle.ctl_base.specs.declared.kind.ScalarKind.{ScalarKind}
use Rattle.ctl_stdlib.specs.declared.row.Param.{Param}
use Rattle.ctl_types.specs.declared.scalar.Scalar.{Scalar}
use Rattle.ctl_types.specs.declared.shape.Base.TheVariants.{Scalar as ScalarBase}
use Rattle.ctl_types.specs.declared.value.Value.{Value}
use Rattle.ctl_types.specs.declared.value.Value.TheVariants as variant
use Rattle.ctl_types.specs.declared.value.Value.TheOpen as layer
use Rattle.ctl_types.specs.declared.value.Value.TheFolds.{fold-roll-Value}
use Rattle.ctl_types.specs.Scalars.{scalar}
use Rattle.ctl_types.specs.Values.{Env, Filled, Filling, one, list, nothing, fill_one, fill_all, fill_step, filled, zero_of}
use Rattle.ctl_types.specs.Library.{outputs_from}
use Rattle.eval_library.specs.Means.{output_from, OutputsAreFloats}
use Rattle.eval_library.proofs.Lists.{next, get_same}

pub filled_one : (s : Scalar) (words : List ℤ) → filled (one s) words ≡ fill_one s words
filled_one s words = ap (λ (f : Filling). f words) (fold-roll-Value Filling fill_step (layer.One s))

filled_list : (vs : List Value) (words : List ℤ) → filled (list vs) words ≡ record { value = list (fill_all (map filled vs) words).value; rest = (fill_all (map filled vs) words).rest }
filled_list vs words = ap (λ (f : Filling). f words) (fold-roll-Value Filling fill_step (layer.List vs))

pub filled_nothing : (words : List ℤ) → filled nothing words ≡ record { value = nothing; rest = words }
filled_nothing words = ap (λ (f : Filling). f words) (fold-roll-Value Filling fill_step (layer.Fields []))

each : (n : ℕ) (v : Value) → map filled (replicate n v) ≡ replicate n (filled v)
each zero v = refl
each (suc n) v = ap (λ l. filled v ∷ l) (each n v)

-- a scalar of a result
pub shaped_one : (sizes : List ℕ) (k : ScalarKind) (words rest : List ℤ) (s : Scalar) → sizes ≡ [] → fill_one (scalar k (pos 0)) words ≡ record { value = one s; rest = rest } → filled (zero_of [] sizes (ScalarBase k)) words ≡ record { value = variant.One s; rest = rest }
shaped_one sizes k words rest s e h = ap (λ sizes. filled (zero_of [] sizes (ScalarBase k)) words) e ∙ filled_one (scalar k (pos 0)) words ∙ h ∙ ap (λ v. record { value = v; rest = rest }) (variant.rolls-One s)

-- an array of a result
pub shaped_list : (sizes : List ℕ) (n : ℕ) (inner : List ℕ) (k : ScalarKind) (words rest : List ℤ) (vs : List Value) → sizes ≡ n ∷ inner → fill_all (replicate n (filled (zero_of [] inner (ScalarBase k)))) words ≡ record { value = vs; rest = rest } → filled (zero_of [] sizes (ScalarBase k)) words ≡ record { value = variant.List vs; rest = rest }
shaped_list sizes n inner k words rest vs e h =
    ap (λ sizes. filled (zero_of [] sizes (ScalarBase k)) words) e
    ∙ filled_list (replicate n (zero_of [] inner (ScalarBase k))) words
    ∙ ap (λ (f : Filled (List Value)). record { value = list f.value; rest = f.rest }) (ap (λ fs. fill_all fs words) (each n (zero_of [] inner (ScalarBase k))) ∙ h)
    ∙ ap (λ v. record { value = v; rest = rest }) (variant.rolls-List vs)

-- what is made of the first words, put behind what is made already
abbrev pub behind : List Value → Filled (List Value) → Filled (List Value)
behind parts f = record { value = parts ++ f.value; rest = f.rest }

-- ---- outputs

one_output : (p : Param) (o : Option Value) (params : List Param) (frame : Env) (words : List ℤ) → outputs_from (p ∷ params) (o ∷ frame) words ≡ (output_from p o words).value ∷ outputs_from params frame (output_from p o words).rest
one_output p None params frame words = refl
one_output p (Some v) params frame words = by p.is_output where
  by : (b : Bool) → (if b then Some (filled v words).value ∷ outputs_from params frame (filled v words).rest else Some v ∷ outputs_from params frame words) ≡ (if◌then◌else◌ {A = Filled (Option Value)} b (record { value = Some (filled v words).value; rest = (filled v words).rest }) (record { value = Some v; rest = words })).value ∷ outputs_from params frame (if◌then◌else◌ {A = Filled (Option Value)} b (record { value = Some (filled v words).value; rest = (filled v words).rest }) (record { value = Some v; rest = words })).rest
  by true = refl
  by false = refl

module _ (params : List Param) (frame : Env) (i : ℕ) (d : Param) (o : Option Value) (h : i < length params) (l : i < length frame) (m : o ≡ get_or frame i o) where
  pub outputs_next : (new : Option Value) (words rest : List ℤ) → output_from (get_or params i d) o words ≡ record { value = new; rest = rest } → take (i + 1) (slice_set frame i new) ++ outputs_from (drop (i + 1) params) (drop (i + 1) (slice_set frame i new)) rest ≡ take i frame ++ outputs_from (drop i params) (drop i frame) words
  outputs_next new words rest e =
      let p = get_or params i d in
      let tail = outputs_from (drop (i + 1) params) (drop (i + 1) frame) rest in
      let same : drop (i + 1) (slice_set frame i new) ≡ drop (i + 1) frame = drop-set-lt (i + 1) frame i new (omega arith) in
      ap (λ f. take (i + 1) (slice_set frame i new) ++ outputs_from (drop (i + 1) params) f rest) same
      ∙ ap (λ f. f ++ tail) (take_more_set frame i new l)
      ∙ append_assoc (take i frame) (new ∷ []) tail
      ∙ ap (λ f. take i frame ++ f) (sym (
      ap (λ l. outputs_from l (drop i frame) words) (next params i p h (get_same params i d p h))
      ∙ ap (λ l. outputs_from (p ∷ drop (i + 1) params) l words) (next frame i o l m)
      ∙ one_output p o (drop (i + 1) params) (drop (i + 1) frame) words
      ∙ ap (λ (f : Filled (Option Value)). f.value ∷ outputs_from (drop (i + 1) params) (drop (i + 1) frame) f.rest) e))

  pub floats_next : (new : Option Value) → OutputsAreFloats (drop i params) (drop i frame) → OutputsAreFloats (drop (i + 1) params) (drop (i + 1) (slice_set frame i new))
  floats_next new floats =
      let p = get_or params i d in
      let same : drop (i + 1) (slice_set frame i new) ≡ drop (i + 1) frame = drop-set-lt (i + 1) frame i new (omega arith) in
      let all : OutputsAreFloats (p ∷ drop (i + 1) params) (o ∷ drop (i + 1) frame) = subst (λ f. OutputsAreFloats (p ∷ drop (i + 1) params) f) (next frame i o l m) (subst (λ f. OutputsAreFloats f (drop i frame)) (next params i p h (get_same params i d p h)) floats) in
      subst (OutputsAreFloats (drop (i + 1) params)) (sym same) all.1

pub outputs_short : (params : List Param) (frame : Env) (i : ℕ) (words : List ℤ) → length frame ≤ i → take i frame ++ outputs_from (drop i params) (drop i frame) words ≡ frame
outputs_short params frame i words h = ap (λ f. take i frame ++ outputs_from (drop i params) f words) (drop_all i frame h) ∙ ap (λ f. take i frame ++ f) (by (drop i params)) ∙ append-nil (take i frame) ∙ take_all i frame h where
  by : (params : List Param) → outputs_from params [] words ≡ []
  by [] = refl
  by (p ∷ params) = refl
