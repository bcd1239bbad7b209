-- Expressions, places and initialisers that are well typed have the same types where there is a struct or a constant more.
use Rattle.std.proofs.Common.{◌≡◌, ℕ, List, [], ◌∷◌, map, length, Option, Some, None, Bool, true, false, ◌&&◌, ◌||◌, ◌==◌, not, nat_lt, refl, sym, ap, ◌∙◌, slice_get, suc}
use Rattle.std.specs.Prelude.{max}
use Rattle.ctl_base.specs.declared.kind.ScalarKind.{ScalarKind}
use Rattle.ctl_base.specs.declared.kind.ScalarKind.TheVariants as kind
use Rattle.ctl_types.specs.declared.shape.Size.{Size}
use Rattle.ctl_types.specs.declared.shape.Base.{Base}
use Rattle.ctl_types.specs.declared.shape.Base.TheVariants.{Scalar, Struct}
use Rattle.ctl_types.specs.declared.shape.Shape.{Shape}
use Rattle.ctl_types.specs.declared.program.Struct.{Struct as StructForm}
use Rattle.ctl_types.specs.declared.expression.Conversion.{Conversion}
use Rattle.ctl_types.specs.declared.expression.Conversion.TheVariants.{Same, Between}
use Rattle.ctl_types.specs.declared.expression.Callee.{Callee}
use Rattle.ctl_types.specs.declared.expression.Callee.TheVariants as callee
use Rattle.ctl_types.specs.declared.expression.TypedExpr.{TypedExpr}
use Rattle.ctl_types.specs.declared.expression.Operand.{Operand}
use Rattle.ctl_types.specs.declared.expression.TypedCall.{TypedCall}
use Rattle.ctl_types.specs.declared.expression.TypedPlace.{TypedPlace}
use Rattle.ctl_types.specs.declared.expression.Argument.TheOpen as form
use Rattle.ctl_types.specs.declared.expression.Argument.TheOpen.{Argument-F, TypedExpr-F, TypedStep-F, Operand-F, TypedCall-F, TypedLink-F, TypedPlace-F}
use Rattle.ctl_types.specs.declared.expression.Argument.TheFolds.{map-Argument, map-TypedExpr, map-TypedStep, map-Operand, map-TypedCall, map-TypedLink, map-TypedPlace}
use Rattle.ctl_types.specs.declared.statement.Initialiser.{Initialiser}
use Rattle.ctl_types.specs.declared.statement.Initialiser.TheOpen as initial
use Rattle.ctl_types.specs.Shapes.{through, local, field_shapes}
use Rattle.ctl_types.specs.Typing.{Typed, has, is_scalar, besides, scalar_type, same_sizes, same_bases, are_stated, depth_of, Formal, Signature, signature_in, Variables, Scene, node_stands, size_stands, sizes_stand, constant_type, variable_type, as_converted, is_same, OperandType, taken, works, works_alone, is_kind_between, is_kind_alone, is_index, element_in, element_type, shape_type, field_in, steps_type, links_type, all_scalars, first_is, PlaceType, Passing, In, Out, Absent, passings_depth, argument_suits, may_precede, arguments_suit, call_type, link_type, unary_type, chain_type, logic_type, place_assignable, all_have, each_has, type_argument, type_step, type_operand, type_call, type_link, type_place, type_form, type_fold, expr_type, operand_type, call_form_type, place_type, type_initialiser, initialiser_type}
use Rattle.ctl_types.specs.Pairs.{Pair, KeepsExprs, expr_pair, operand_pair, call_pair, place_pair, KeepsInitialiser, initialiser_pair}
use Rattle.program_laws.proofs.Verdicts.{both, and_true}
use Rattle.program_laws.proofs.Grown.{field_range, grown, Grown, size_grown, sizes_grown}

-- ---- what is well typed in what is

pub has_well : (t : Typed) (sizes : List Size) (base : Option Base) → has t sizes base ≡ true → t.well ≡ true
has_well t sizes base h = (both t.well _ h).0

converted_well : (c : Conversion) (t : Typed) → (as_converted c t).well ≡ true → t.well ≡ true
converted_well Same t w = w
converted_well (Between a b) t w = has_well t [] (Some (Scalar a)) (both (is_scalar a t) _ w).0

index_at : (w x y z : Bool) → (w && x || (w && y || w && z)) ≡ true → w ≡ true
index_at true x y z h = refl
index_at false x y z h = absurd (cc)

index_well : (t : Typed) → is_index t ≡ true → t.well ≡ true
index_well t h = index_at t.well (same_sizes t.sizes [] && same_bases t.base (Some (Scalar kind.Bool))) (same_sizes t.sizes [] && same_bases t.base (Some (Scalar kind.Int))) (same_sizes t.sizes [] && same_bases t.base (Some (Scalar kind.Unsigned))) h

element_well : (w : Bool) (sizes : List Size) (base : Option Base) (depth : ℕ) → (element_in w sizes base depth).well ≡ true → w ≡ true
element_well w [] base depth h = absurd (cc)
element_well w (s ∷ sizes) base depth h = h

same_well : (o : OperandType) → is_same o.conversion ≡ true → o.value.well ≡ true → (taken o).well ≡ true
same_well o e w = by o.conversion e where
  by : (c : Conversion) → is_same c ≡ true → (as_converted c o.value).well ≡ true
  by Same e = w
  by (Between a b) e = absurd (cc)

abbrev passing_well : Passing → Bool
passing_well (In t) = t.well
passing_well (Out t assignable) = t.well
passing_well Absent = true

suits_well : (sizes : List Size) (q : Formal) (a : Passing) → argument_suits sizes q a ≡ true → passing_well a ≡ true
suits_well sizes q (In t) h = has_well t _ _ (both (not q.is_output) _ h).1
suits_well sizes q (Out t assignable) h = has_well t _ _ (both assignable _ (both q.is_output _ h).1).1
suits_well sizes q Absent h = refl

module _ (structs : List StructForm) (counts : List ℕ) (constants : List Shape) (s : Scene) (g : Grown structs counts constants s) where
  -- the scene with more
  abbrev more : Scene
  more = grown structs counts constants s

  -- ---- what is well typed has the same type

  abbrev Alike : Typed → Typed → Type 0
  Alike a b = a.well ≡ true → b ≡ a

  abbrev StepAlike : (Typed → Typed) → (Typed → Typed) → Type 0
  StepAlike f h = (t : Typed) → (f t).well ≡ true → (t.well ≡ true) × (h t ≡ f t)

  abbrev OperandAlike : OperandType → OperandType → Type 0
  OperandAlike a b = (taken a).well ≡ true → b ≡ a

  abbrev PassedAlike : Passing → Passing → Type 0
  PassedAlike a b = passing_well a ≡ true → b ≡ a

  abbrev PlaceAlike : PlaceType → PlaceType → Type 0
  PlaceAlike a b = a.type.well ≡ true → b ≡ a

  long : {A B : Type 0} (R : A → B → Type 0) (e : List (Pair R)) → length (map (λ (e : Pair R). e.1) e) ≡ length (map (λ (e : Pair R). e.0) e)
  long R [] = refl
  long R (e ∷ es) = ap suc (long R es)

  steps_alike : (steps : List (Pair StepAlike)) (t : Typed) → (steps_type (map (λ (e : Pair StepAlike). e.0) steps) t).well ≡ true → (t.well ≡ true) × (steps_type (map (λ (e : Pair StepAlike). e.1) steps) t ≡ steps_type (map (λ (e : Pair StepAlike). e.0) steps) t)
  steps_alike [] t w = (w, refl)
  steps_alike (e ∷ steps) t w =
      let rest = steps_alike steps (e.0 t) w in
      let one = e.2 t rest.0 in
      (one.0, ap (λ u. steps_type (map (λ (e : Pair StepAlike). e.1) steps) u) one.1 ∙ rest.1)

  links_alike : (links : List (Pair StepAlike)) (t : Typed) → (links_type (map (λ (e : Pair StepAlike). e.0) links) t).well ≡ true → (t.well ≡ true) × (links_type (map (λ (e : Pair StepAlike). e.1) links) t ≡ links_type (map (λ (e : Pair StepAlike). e.0) links) t)
  links_alike [] t w = (w, refl)
  links_alike (e ∷ links) t w =
      let rest = links_alike links (e.0 t) w in
      let one = e.2 t rest.0 in
      (one.0, ap (λ u. links_type (map (λ (e : Pair StepAlike). e.1) links) u) one.1 ∙ rest.1)

  scalars_alike : (k : ScalarKind) (os : List (Pair OperandAlike)) → all_scalars k (map taken (map (λ (e : Pair OperandAlike). e.0) os)) ≡ true → map (λ (e : Pair OperandAlike). e.1) os ≡ map (λ (e : Pair OperandAlike). e.0) os
  scalars_alike k [] h = refl
  scalars_alike k (o ∷ os) h =
      let b = both (is_scalar k (taken o.0)) _ h in
      ap (λ q. q ∷ map (λ (e : Pair OperandAlike). e.1) os) (o.2 (has_well (taken o.0) _ _ b.0)) ∙ ap (λ qs. o.0 ∷ qs) (scalars_alike k os b.1)

  arguments_alike : (sizes : List Size) (formals : List Formal) (sent : List (Pair PassedAlike)) → arguments_suit sizes formals (map (λ (e : Pair PassedAlike). e.0) sent) ≡ true → map (λ (e : Pair PassedAlike). e.1) sent ≡ map (λ (e : Pair PassedAlike). e.0) sent
  arguments_alike sizes formals [] h = refl
  arguments_alike sizes [] (a ∷ sent) h = absurd (cc)
  arguments_alike sizes (q ∷ formals) (a ∷ sent) h =
      let b = both (argument_suits sizes q a.0 && may_precede a.0 (map (λ (e : Pair PassedAlike). e.0) sent)) _ h in
      let c = both (argument_suits sizes q a.0) _ b.0 in
      ap (λ p. p ∷ map (λ (e : Pair PassedAlike). e.1) sent) (a.2 (suits_well sizes q a.0 c.0)) ∙ ap (λ ps. a.0 ∷ ps) (arguments_alike sizes formals sent b.1)

  -- ---- form by form

  constant_alike : (n : ℕ) (o : Option Shape) → slice_get s.constants n ≡ o → (constant_type o).well ≡ true → slice_get constants n ≡ o
  constant_alike n None e w = absurd (cc)
  constant_alike n (Some m) e w = g.constant n m e

  field_of_struct : (w : Bool) (depth m n : ℕ) (o : Option Shape) → slice_get (field_shapes s.structs m) n ≡ o → (shape_type w depth o).well ≡ true → (w ≡ true) × (slice_get (field_shapes structs m) n ≡ o)
  field_of_struct w depth m n None e h = absurd (cc)
  field_of_struct w depth m n (Some shape) e h = ((both w _ h).0, ap (λ (ms : List Shape). slice_get ms n) (g.fields m (field_range s.structs m n shape e)) ∙ e)

  field_alike : (w : Bool) (sizes : List Size) (base : Option Base) (depth n : ℕ) → (field_in s w sizes base depth n).well ≡ true → (w ≡ true) × (field_in more w sizes base depth n ≡ field_in s w sizes base depth n)
  field_alike w [] None depth n h = absurd (cc)
  field_alike w [] (Some (Scalar k)) depth n h = absurd (cc)
  field_alike w [] (Some (Struct m)) depth n h =
      let f = field_of_struct w depth m n (slice_get (field_shapes s.structs m) n) refl h in
      (f.0, ap (λ o. shape_type w depth o) f.1)
  field_alike w (size ∷ sizes) base depth n h = absurd (cc)

  callee_alike : (c : Callee) → signature_in more c ≡ signature_in s c
  callee_alike (callee.Program k) = refl
  callee_alike (callee.Library id) = refl

  call_alike : (o : Option Signature) (sizes : List Size) (sent : List (Pair PassedAlike)) → (call_type s o sizes (map (λ (e : Pair PassedAlike). e.0) sent)).well ≡ true → call_type more o sizes (map (λ (e : Pair PassedAlike). e.1) sent) ≡ call_type s o sizes (map (λ (e : Pair PassedAlike). e.0) sent)
  call_alike None sizes sent w = absurd (cc)
  call_alike (Some f) sizes sent w =
      let given = map (λ (e : Pair PassedAlike). e.0) sent in
      let b = both (nat_lt f.depth s.too_deep && (length sizes == f.opens && sizes_stand s sizes)) _ w in
      ap (λ ps. call_type more (Some f) sizes ps) (arguments_alike sizes f.formals sent b.1)
      ∙ ap (λ b. record { well = (nat_lt f.depth s.too_deep && (length sizes == f.opens && b)) && arguments_suit sizes f.formals given; sizes = map (through sizes) f.result.sizes; base = f.result.base; depth = max f.depth (passings_depth given) }) (sizes_grown structs counts constants s sizes)

  module _ (scope : Variables) where
    argument_case : (y : Argument-F (Pair PassedAlike) (Pair Alike) (Pair StepAlike) (Pair OperandAlike) (Pair Alike) (Pair StepAlike) (Pair PlaceAlike)) → PassedAlike (type_argument s scope (map-Argument (Pair PassedAlike) (Pair Alike) (Pair StepAlike) (Pair OperandAlike) (Pair Alike) (Pair StepAlike) (Pair PlaceAlike) Passing Typed (Typed → Typed) OperandType Typed (Typed → Typed) PlaceType (λ e. e.0) (λ e. e.0) (λ e. e.0) (λ e. e.0) (λ e. e.0) (λ e. e.0) (λ e. e.0) y)) (type_argument more scope (map-Argument (Pair PassedAlike) (Pair Alike) (Pair StepAlike) (Pair OperandAlike) (Pair Alike) (Pair StepAlike) (Pair PlaceAlike) Passing Typed (Typed → Typed) OperandType Typed (Typed → Typed) PlaceType (λ e. e.1) (λ e. e.1) (λ e. e.1) (λ e. e.1) (λ e. e.1) (λ e. e.1) (λ e. e.1) y))
    argument_case (form.Input o node) = λ w. ap (λ q. In (besides (node_stands s node) 0 (taken q))) (o.2 (both (node_stands s node) _ w).1)
    argument_case (form.Output place c node) = λ w. ap (λ q. Out (besides (node_stands s node) 0 (as_converted c q.type)) q.is_assignable) (place.2 (converted_well c place.0.type (both (node_stands s node) _ w).1))
    argument_case form.Missing = λ w. refl

    step_case : (y : TypedStep-F (Pair PassedAlike) (Pair Alike) (Pair StepAlike) (Pair OperandAlike) (Pair Alike) (Pair StepAlike) (Pair PlaceAlike)) → StepAlike (type_step s scope (map-TypedStep (Pair PassedAlike) (Pair Alike) (Pair StepAlike) (Pair OperandAlike) (Pair Alike) (Pair StepAlike) (Pair PlaceAlike) Passing Typed (Typed → Typed) OperandType Typed (Typed → Typed) PlaceType (λ e. e.0) (λ e. e.0) (λ e. e.0) (λ e. e.0) (λ e. e.0) (λ e. e.0) (λ e. e.0) y)) (type_step more scope (map-TypedStep (Pair PassedAlike) (Pair Alike) (Pair StepAlike) (Pair OperandAlike) (Pair Alike) (Pair StepAlike) (Pair PlaceAlike) Passing Typed (Typed → Typed) OperandType Typed (Typed → Typed) PlaceType (λ e. e.1) (λ e. e.1) (λ e. e.1) (λ e. e.1) (λ e. e.1) (λ e. e.1) (λ e. e.1) y))
    step_case (form.Index e node) = λ t w.
        let b = both (is_index e.0 && node_stands s node) _ w in
        let i = both (is_index e.0) _ b.0 in
        (element_well t.well t.sizes t.base t.depth b.1, ap (λ e. besides (is_index e && node_stands s node) e.depth (element_type t)) (e.2 (index_well e.0 i.0)))
    step_case (form.Field n) = λ t w. field_alike t.well t.sizes t.base t.depth n w

    operand_case : (y : Operand-F (Pair PassedAlike) (Pair Alike) (Pair StepAlike) (Pair OperandAlike) (Pair Alike) (Pair StepAlike) (Pair PlaceAlike)) → OperandAlike (type_operand s scope (map-Operand (Pair PassedAlike) (Pair Alike) (Pair StepAlike) (Pair OperandAlike) (Pair Alike) (Pair StepAlike) (Pair PlaceAlike) Passing Typed (Typed → Typed) OperandType Typed (Typed → Typed) PlaceType (λ e. e.0) (λ e. e.0) (λ e. e.0) (λ e. e.0) (λ e. e.0) (λ e. e.0) (λ e. e.0) y)) (type_operand more scope (map-Operand (Pair PassedAlike) (Pair Alike) (Pair StepAlike) (Pair OperandAlike) (Pair Alike) (Pair StepAlike) (Pair PlaceAlike) Passing Typed (Typed → Typed) OperandType Typed (Typed → Typed) PlaceType (λ e. e.1) (λ e. e.1) (λ e. e.1) (λ e. e.1) (λ e. e.1) (λ e. e.1) (λ e. e.1) y))
    operand_case y = λ w. ap (λ v. record { value = v; conversion = y.conversion }) (y.value.2 (converted_well y.conversion y.value.0 w))

    call_case : (y : TypedCall-F (Pair PassedAlike) (Pair Alike) (Pair StepAlike) (Pair OperandAlike) (Pair Alike) (Pair StepAlike) (Pair PlaceAlike)) → Alike (type_call s scope (map-TypedCall (Pair PassedAlike) (Pair Alike) (Pair StepAlike) (Pair OperandAlike) (Pair Alike) (Pair StepAlike) (Pair PlaceAlike) Passing Typed (Typed → Typed) OperandType Typed (Typed → Typed) PlaceType (λ e. e.0) (λ e. e.0) (λ e. e.0) (λ e. e.0) (λ e. e.0) (λ e. e.0) (λ e. e.0) y)) (type_call more scope (map-TypedCall (Pair PassedAlike) (Pair Alike) (Pair StepAlike) (Pair OperandAlike) (Pair Alike) (Pair StepAlike) (Pair PlaceAlike) Passing Typed (Typed → Typed) OperandType Typed (Typed → Typed) PlaceType (λ e. e.1) (λ e. e.1) (λ e. e.1) (λ e. e.1) (λ e. e.1) (λ e. e.1) (λ e. e.1) y))
    call_case y = λ w.
        let b = both (node_stands s y.node) _ w in
        ap (λ o. besides (node_stands s y.node) 0 (call_type more o y.sizes (map (λ (e : Pair PassedAlike). e.1) y.arguments))) (callee_alike y.callee) ∙ ap (λ t. besides (node_stands s y.node) 0 t) (call_alike (signature_in s y.callee) y.sizes y.arguments b.1)

    link_case : (y : TypedLink-F (Pair PassedAlike) (Pair Alike) (Pair StepAlike) (Pair OperandAlike) (Pair Alike) (Pair StepAlike) (Pair PlaceAlike)) → StepAlike (type_link s scope (map-TypedLink (Pair PassedAlike) (Pair Alike) (Pair StepAlike) (Pair OperandAlike) (Pair Alike) (Pair StepAlike) (Pair PlaceAlike) Passing Typed (Typed → Typed) OperandType Typed (Typed → Typed) PlaceType (λ e. e.0) (λ e. e.0) (λ e. e.0) (λ e. e.0) (λ e. e.0) (λ e. e.0) (λ e. e.0) y)) (type_link more scope (map-TypedLink (Pair PassedAlike) (Pair Alike) (Pair StepAlike) (Pair OperandAlike) (Pair Alike) (Pair StepAlike) (Pair PlaceAlike) Passing Typed (Typed → Typed) OperandType Typed (Typed → Typed) PlaceType (λ e. e.1) (λ e. e.1) (λ e. e.1) (λ e. e.1) (λ e. e.1) (λ e. e.1) (λ e. e.1) y))
    link_case y = λ t w.
        let left : OperandType = record { value = t; conversion = y.left } in
        let a = both (works y.operator y.kind && is_kind_between y.kind t.base y.right.0.value.base) _ w in
        let b = both (is_scalar y.kind (taken left)) _ a.1 in
        (converted_well y.left t (has_well (taken left) _ _ b.0), ap (λ r. link_type y.operator y.kind left r) (y.right.2 (has_well (taken y.right.0) _ _ b.1)))

    place_case : (y : TypedPlace-F (Pair PassedAlike) (Pair Alike) (Pair StepAlike) (Pair OperandAlike) (Pair Alike) (Pair StepAlike) (Pair PlaceAlike)) → PlaceAlike (type_place s scope (map-TypedPlace (Pair PassedAlike) (Pair Alike) (Pair StepAlike) (Pair OperandAlike) (Pair Alike) (Pair StepAlike) (Pair PlaceAlike) Passing Typed (Typed → Typed) OperandType Typed (Typed → Typed) PlaceType (λ e. e.0) (λ e. e.0) (λ e. e.0) (λ e. e.0) (λ e. e.0) (λ e. e.0) (λ e. e.0) y)) (type_place more scope (map-TypedPlace (Pair PassedAlike) (Pair Alike) (Pair StepAlike) (Pair OperandAlike) (Pair Alike) (Pair StepAlike) (Pair PlaceAlike) Passing Typed (Typed → Typed) OperandType Typed (Typed → Typed) PlaceType (λ e. e.1) (λ e. e.1) (λ e. e.1) (λ e. e.1) (λ e. e.1) (λ e. e.1) (λ e. e.1) y))
    place_case y = λ w. ap (λ t. record { type = t; is_assignable = place_assignable (slice_get scope y.variable) }) (steps_alike y.steps (variable_type (slice_get scope y.variable)) w).1

    expr_case : (y : TypedExpr-F (Pair PassedAlike) (Pair Alike) (Pair StepAlike) (Pair OperandAlike) (Pair Alike) (Pair StepAlike) (Pair PlaceAlike)) → Alike (type_form s scope (map-TypedExpr (Pair PassedAlike) (Pair Alike) (Pair StepAlike) (Pair OperandAlike) (Pair Alike) (Pair StepAlike) (Pair PlaceAlike) Passing Typed (Typed → Typed) OperandType Typed (Typed → Typed) PlaceType (λ e. e.0) (λ e. e.0) (λ e. e.0) (λ e. e.0) (λ e. e.0) (λ e. e.0) (λ e. e.0) y)) (type_form more scope (map-TypedExpr (Pair PassedAlike) (Pair Alike) (Pair StepAlike) (Pair OperandAlike) (Pair Alike) (Pair StepAlike) (Pair PlaceAlike) Passing Typed (Typed → Typed) OperandType Typed (Typed → Typed) PlaceType (λ e. e.1) (λ e. e.1) (λ e. e.1) (λ e. e.1) (λ e. e.1) (λ e. e.1) (λ e. e.1) y))
    expr_case (form.Literal x) = λ w. refl
    expr_case (form.Constant n) = λ w. ap (λ o. constant_type o) (constant_alike n (slice_get s.constants n) refl w)
    expr_case (form.Variable x) = λ w. refl
    expr_case (form.Unary op k o) = λ w. ap (λ q. unary_type op k q) (o.2 (has_well (taken o.0) _ _ (both (works_alone op k && is_kind_alone op k o.0.value.base) _ w).1))
    expr_case (form.Chain o links) = λ w.
        let b = both (is_same o.0.conversion && nat_lt 0 (length (map (λ (e : Pair StepAlike). e.0) links))) _ w in
        let l = links_alike links o.0.value b.1 in
        let e = o.2 (same_well o.0 (both (is_same o.0.conversion) _ b.0).0 l.0) in
        ap (λ q. chain_type q (map (λ (e : Pair StepAlike). e.1) links)) e ∙ ap (λ n. besides (is_same o.0.conversion && nat_lt 0 n) 0 (links_type (map (λ (e : Pair StepAlike). e.1) links) o.0.value)) (long StepAlike links) ∙ ap (λ t. besides (is_same o.0.conversion && nat_lt 0 (length (map (λ (e : Pair StepAlike). e.0) links))) 0 t) l.1
    expr_case (form.Logic l os) = λ w. ap (λ qs. logic_type (map taken qs)) (scalars_alike kind.Bool os (both (nat_lt 1 (length (map taken (map (λ (e : Pair OperandAlike). e.0) os)))) _ w).1)
    expr_case (form.Path e steps) = λ w.
        let b = both (nat_lt 0 (length (map (λ (e : Pair StepAlike). e.0) steps))) _ w in
        let l = steps_alike steps e.0 b.1 in
        ap (λ t. besides (nat_lt 0 (length (map (λ (e : Pair StepAlike). e.1) steps))) 0 (steps_type (map (λ (e : Pair StepAlike). e.1) steps) t)) (e.2 l.0) ∙ ap (λ n. besides (nat_lt 0 n) 0 (steps_type (map (λ (e : Pair StepAlike). e.1) steps) e.0)) (long StepAlike steps) ∙ ap (λ t. besides (nat_lt 0 (length (map (λ (e : Pair StepAlike). e.0) steps))) 0 t) l.1
    expr_case (form.Size e size) = λ w.
        let b = both (e.0.well && first_is size e.0.sizes) _ w in
        ap (λ t. scalar_type ((t.well && first_is size t.sizes) && size_stands more size) kind.Int t.depth) (e.2 (both e.0.well _ b.0).0) ∙ ap (λ b. scalar_type ((e.0.well && first_is size e.0.sizes) && b) kind.Int e.0.depth) (size_grown structs counts constants s size)
    expr_case (form.Call c) = λ w. c.2 w

    cases : KeepsExprs PassedAlike Alike StepAlike OperandAlike Alike StepAlike PlaceAlike (type_fold s scope) (type_fold more scope)
    cases = record { argument = argument_case; expr = expr_case; step = step_case; operand = operand_case; call = call_case; link = link_case; place = place_case }

    pub expr_grown : (e : TypedExpr) → (expr_type s scope e).well ≡ true → expr_type more scope e ≡ expr_type s scope e
    expr_grown e w = expr_pair PassedAlike Alike StepAlike OperandAlike Alike StepAlike PlaceAlike (type_fold s scope) (type_fold more scope) cases e w

    pub operand_grown : (e : Operand) → (operand_type s scope e).well ≡ true → operand_type more scope e ≡ operand_type s scope e
    operand_grown e w = ap (λ o. taken o) (operand_pair PassedAlike Alike StepAlike OperandAlike Alike StepAlike PlaceAlike (type_fold s scope) (type_fold more scope) cases e w)

    pub call_grown : (e : TypedCall) → (call_form_type s scope e).well ≡ true → call_form_type more scope e ≡ call_form_type s scope e
    call_grown e w = call_pair PassedAlike Alike StepAlike OperandAlike Alike StepAlike PlaceAlike (type_fold s scope) (type_fold more scope) cases e w

    pub place_grown : (e : TypedPlace) → (place_type s scope e).type.well ≡ true → place_type more scope e ≡ place_type s scope e
    place_grown e w = place_pair PassedAlike Alike StepAlike OperandAlike Alike StepAlike PlaceAlike (type_fold s scope) (type_fold more scope) cases e w

    -- ---- initialisers

    elements_alike : (es : List (Pair Alike)) (sizes : List Size) (base : Option Base) → all_have (map (λ (e : Pair Alike). e.0) es) sizes base ≡ true → map (λ (e : Pair Alike). e.1) es ≡ map (λ (e : Pair Alike). e.0) es
    elements_alike [] sizes base h = refl
    elements_alike (e ∷ es) sizes base h =
        let b = both (has e.0 sizes base) _ h in
        ap (λ t. t ∷ map (λ (e : Pair Alike). e.1) es) (e.2 (has_well e.0 sizes base b.0)) ∙ ap (λ ts. e.0 ∷ ts) (elements_alike es sizes base b.1)

    parts_alike : (es : List (Pair Alike)) (ms : List Shape) → each_has (map (λ (e : Pair Alike). e.0) es) ms ≡ true → map (λ (e : Pair Alike). e.1) es ≡ map (λ (e : Pair Alike). e.0) es
    parts_alike [] ms h = refl
    parts_alike (e ∷ es) [] h = absurd (cc)
    parts_alike (e ∷ es) (m ∷ ms) h =
        let b = both (has e.0 (local 0 m).sizes (Some (local 0 m).base)) _ h in
        ap (λ t. t ∷ map (λ (e : Pair Alike). e.1) es) (e.2 (has_well e.0 _ _ b.0)) ∙ ap (λ ts. e.0 ∷ ts) (parts_alike es ms b.1)

    initialiser_case : KeepsInitialiser Alike (type_initialiser s scope) (type_initialiser more scope)
    initialiser_case (initial.Value o) = λ w. operand_grown o w
    initialiser_case (initial.Elements shape es) = λ w.
        let b = both (nat_lt 0 (length (map (λ (e : Pair Alike). e.0) es))) _ w in
        ap (λ ts. type_initialiser s scope (initial.Elements shape ts)) (elements_alike es (local 0 shape).sizes (Some (local 0 shape).base) (both (are_stated (local 0 shape).sizes) _ b.1).1)
    initialiser_case (initial.Fields n es) = λ w.
        let b = both (nat_lt n (length s.structs)) _ w in
        let parts = map (λ (e : Pair Alike). e.0) es in
        let stand : (nat_lt n (length structs) && each_has parts (field_shapes structs n)) ≡ true = and_true (nat_lt n (length structs)) _ (g.longer n b.0) (ap (λ ms. each_has parts ms) (g.fields n b.0) ∙ b.1) in
        ap (λ ts. type_initialiser more scope (initial.Fields n ts)) (parts_alike es (field_shapes s.structs n) b.1) ∙ ap (λ t. record { well = t; sizes = []; base = Some (Struct n); depth = depth_of parts }) (stand ∙ sym w)

    pub initialiser_grown : (i : Initialiser) → (initialiser_type s scope i).well ≡ true → initialiser_type more scope i ≡ initialiser_type s scope i
    initialiser_grown i w = initialiser_pair Alike (type_initialiser s scope) (type_initialiser more scope) initialiser_case i w
