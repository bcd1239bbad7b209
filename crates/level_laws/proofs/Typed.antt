-- Well typed expressions at a place of uniform control.
use Rattle.std.proofs.Common.{◌≡◌, ℕ, List, [], ◌∷◌, map, Option, Some, None, Bool, true, false, true≢false, not, ◌&&◌, ◌||◌, slice_get, ap, sym, subst, ◌∙◌, refl}
use Rattle.ctl_base.specs.declared.kind.ScalarKind.{ScalarKind}
use Rattle.ctl_base.specs.declared.kind.ScalarKind.TheVariants as kind
use Rattle.ctl_base.specs.declared.kind.Node.{Node}
use Rattle.ctl_stdlib.specs.declared.row.Param.{Param}
use Rattle.ctl_stdlib.specs.Rows.{row}
use Rattle.ctl_types.specs.declared.shape.Base.{Base}
use Rattle.ctl_types.specs.declared.shape.Base.TheVariants.{Scalar, Struct}
use Rattle.ctl_types.specs.declared.shape.Shape.{Shape}
use Rattle.ctl_types.specs.declared.shape.Size.{Size}
use Rattle.ctl_types.specs.declared.value.Value.{Value}
use Rattle.ctl_types.specs.declared.expression.Conversion.{Conversion}
use Rattle.ctl_types.specs.declared.expression.Conversion.TheVariants.{Same, Between}
use Rattle.ctl_types.specs.declared.expression.Callee.{Callee}
use Rattle.ctl_types.specs.declared.expression.Callee.TheVariants as callee
use Rattle.ctl_types.specs.declared.expression.TypedExpr.{TypedExpr}
use Rattle.ctl_types.specs.declared.expression.Operand.{Operand}
use Rattle.ctl_types.specs.declared.expression.TypedCall.{TypedCall}
use Rattle.ctl_types.specs.declared.expression.TypedPlace.{TypedPlace}
use Rattle.ctl_types.specs.declared.expression.Argument.TheOpen as form
use Rattle.ctl_types.specs.declared.expression.Argument.TheOpen.{Argument-F, TypedExpr-F, TypedStep-F}
use Rattle.ctl_types.specs.declared.expression.Argument.TheFolds.{map-Argument, map-TypedExpr, map-TypedStep}
use Rattle.ctl_types.specs.Shapes.{size_in, field_shapes}
use Rattle.ctl_types.specs.Values.{var_of}
use Rattle.ctl_types.specs.Library.{param_of}
use Rattle.ctl_types.specs.Pairs.{Pair, KeepsExprs, expr_pair, operand_pair, call_pair, place_pair}
use Rattle.ctl_types.specs.Typing.{Typed, OperandType, PlaceType, Passing, In, Out, Absent, Scene, Variables, Formal, Signature, has, is_scalar, as_converted, taken, is_index, element_in, shape_type, field_in, steps_type, links_type, all_scalars, argument_suits, arguments_suit, default_fits, call_type, signature_in, row_formals_from, type_fold, expr_type, operand_type, call_form_type, place_type}
use Rattle.ctl_types.specs.Run.{Run, give, sized, Setting, StepRun, LinkRun, PlaceRun, ArgumentRun, decider, run_fold, run_expr, run_operand, run_call, run_place}
use Rattle.level_rules.specs.declared.instance.Holder.TheVariants.{Variable}
use Rattle.level_rules.specs.Rules.{VaryingSet, Known, Around, Look, PlaceLook, ArgumentLook, look_argument, look_step, look_form, look_fold, look_expr, look_operand, look_call, look_place, seen_callee}
use Rattle.level_rules.specs.Levels.{AllIn}
use Rattle.level_laws.proofs.Envs.{all_left, all_right}
use Rattle.level_laws.proofs.Runs.{anything, SameIf, Even, still_then, still_give, still_held, still_evaluated, even_then, even_give, even_held, even_found, even_evaluated}
use Rattle.level_laws.proofs.Likes.{even_like, like_alone, like_sized}
use Rattle.level_laws.proofs.Stills.{Each, StillOf, StillStep, StillLink, StillPlace, StillArgument, steps_still, place_still, linked_still, decided_still, call_still, converted_still, index_still, field_still, link_still, input_still, output_still}
use Rattle.level_laws.proofs.Evens.{some_same, EvenOf, EvenStep, EvenLink, EvenArgument, SoundOf, PassedAlike, steps_even, place_even, linked_even, decided_even, converted_even, index_even, field_even, link_even, input_even, output_even}
use Rattle.level_laws.proofs.Calls.{Served, program_even}
use Rattle.level_laws.proofs.LibraryCalls.{has_output, Matches, library_even}
use Rattle.level_laws.proofs.Products.{both_folds, expr_first, expr_second, operand_first, operand_second, call_first, call_second, place_first, place_second}

pub both : (a b : Bool) → (a && b) ≡ true → (a ≡ true) × (b ≡ true)
both true b h = (refl, h)
both false b h = absurd (true≢false (sym h))

-- ---- what is well typed has parts that are

pub has_well : (t : Typed) (sizes : List Size) (base : Option Base) → has t sizes base ≡ true → t.well ≡ true
has_well t sizes base h = (both t.well _ h).0

pub scalar_well : (k : ScalarKind) (t : Typed) → is_scalar k t ≡ true → t.well ≡ true
scalar_well k t h = has_well t [] (Some (Scalar k)) h

pub converted_well : (c : Conversion) (t : Typed) → (as_converted c t).well ≡ true → t.well ≡ true
converted_well Same t h = h
converted_well (Between a b) t h = scalar_well a t (both (is_scalar a t) _ h).0

pub taken_well : (o : OperandType) → (taken o).well ≡ true → o.value.well ≡ true
taken_well o h = converted_well o.conversion o.value h

pub index_well : (t : Typed) → is_index t ≡ true → t.well ≡ true
index_well t h = one (is_scalar kind.Bool t) (is_scalar kind.Int t) (is_scalar kind.Unsigned t) (scalar_well kind.Bool t) (scalar_well kind.Int t) (scalar_well kind.Unsigned t) h where
  one : (a b c : Bool) → (a ≡ true → t.well ≡ true) → (b ≡ true → t.well ≡ true) → (c ≡ true → t.well ≡ true) → (a || (b || c)) ≡ true → t.well ≡ true
  one true b c f g k h = f refl
  one false true c f g k h = g refl
  one false false c f g k h = k h

pub element_well : (well : Bool) (sizes : List Size) (base : Option Base) (depth : ℕ) → (element_in well sizes base depth).well ≡ true → well ≡ true
element_well well [] base depth h = absurd (true≢false (sym h))
element_well well (s ∷ sizes) base depth h = h

shape_well : (well : Bool) (depth : ℕ) (o : Option Shape) → (shape_type well depth o).well ≡ true → well ≡ true
shape_well well depth None h = absurd (true≢false (sym h))
shape_well well depth (Some shape) h = (both well true h).0

pub field_well : (sc : Scene) (well : Bool) (sizes : List Size) (base : Option Base) (depth n : ℕ) → (field_in sc well sizes base depth n).well ≡ true → well ≡ true
field_well sc well [] None depth n h = absurd (true≢false (sym h))
field_well sc well [] (Some (Scalar k)) depth n h = absurd (true≢false (sym h))
field_well sc well [] (Some (Struct m)) depth n h = shape_well well depth (slice_get (field_shapes sc.structs m) n) h
field_well sc well (size ∷ sizes) base depth n h = absurd (true≢false (sym h))

-- an argument is well typed
abbrev pub passing_well : Passing → Bool
passing_well (In t) = t.well
passing_well (Out t assignable) = t.well
passing_well Absent = true

-- an argument is that of an output
abbrev pub is_out : Passing → Bool
is_out (In t) = false
is_out (Out t assignable) = true
is_out Absent = false

pub suit_well : (sizes : List Size) (q : Formal) (p : Passing) → argument_suits sizes q p ≡ true → passing_well p ≡ true
suit_well sizes q (In t) h = has_well t _ _ (both (not q.is_output) _ h).1
suit_well sizes q (Out t assignable) h = has_well t _ _ (both assignable _ (both q.is_output _ h).1).1
suit_well sizes q Absent h = refl

suit_out : (sizes : List Size) (q : Formal) (p : Passing) → q.default ≡ None → argument_suits sizes q p ≡ true → q.is_output ≡ is_out p
suit_out sizes q (In t) d h = none q.is_output (both (not q.is_output) _ h).0 where
  none : (b : Bool) → not b ≡ true → b ≡ false
  none true e = absurd (true≢false (sym e))
  none false e = refl
suit_out sizes q (Out t assignable) d h = (both q.is_output _ h).0
suit_out sizes q Absent d h = absurd (true≢false (sym (ap (default_fits sizes q) (sym d) ∙ h)))

module _ (C : Type 0) (pay : ℕ → C → C) (known : Known) (a : Around) (s : Setting C pay) (sc : Scene) (vars : Variables) where
  abbrev w : VaryingSet
  w = a.set

  abbrev BA : Type 0
  BA = ArgumentRun C pay × Passing

  abbrev BE : Type 0
  BE = Run C pay Value × Typed

  abbrev BS : Type 0
  BS = StepRun C pay × (Typed → Typed)

  abbrev BO : Type 0
  BO = Run C pay Value × OperandType

  abbrev BC : Type 0
  BC = Run C pay Value × Typed

  abbrev BL : Type 0
  BL = LinkRun C pay × (Typed → Typed)

  abbrev BP : Type 0
  BP = PlaceRun C pay × PlaceType

  abbrev TE : Look → BE → Type 0
  TE look x = StillOf C pay a look x.0 × (x.1.well ≡ true → EvenOf C pay a look x.0)

  abbrev TS : Look → BS → Type 0
  TS look x = StillStep C pay a look x.0 × ((t : Typed) → (x.1 t).well ≡ true → (t.well ≡ true) × EvenStep C pay a look x.0)

  abbrev TO : Look → BO → Type 0
  TO look x = StillOf C pay a look x.0 × (x.1.value.well ≡ true → EvenOf C pay a look x.0)

  abbrev TC : Look → BC → Type 0
  TC look x = StillOf C pay a look x.0 × (x.1.well ≡ true → EvenOf C pay a look x.0)

  abbrev TL : Look → BL → Type 0
  TL look x = StillLink C pay a look x.0 × ((t : Typed) → (x.1 t).well ≡ true → (t.well ≡ true) × EvenLink C pay a look x.0)

  abbrev TP : PlaceLook → BP → Type 0
  TP look x = StillPlace C pay a look x.0 × (x.1.type.well ≡ true → EvenOf C pay a look.indices x.0.path)

  abbrev TA : ArgumentLook → BA → Type 0
  TA look x = StillArgument C pay a look x.0 × ((passing_well x.1 ≡ true → AllIn a.set (look.look a false).found.puts → Even C pay a.set (PassedAlike C pay a look) x.0.run x.0.run) × (has_output look.output ≡ is_out x.1))

  -- ---- lists

  stills : {X Y Z : Type 0} (R : X → Y → Type 0) (T : X → Y × Z → Type 0) → ((x : X) (y : Y × Z) → T x y → R x y.0) → (ps : List (Pair T)) → Each R (map (λ (p : Pair T). p.0) ps) (map (λ (y : Y × Z). y.0) (map (λ (p : Pair T). p.1) ps))
  stills R T f [] = tt
  stills R T f (p ∷ ps) = (f p.0 p.1 p.2, stills R T f ps)

  steps_well : (ps : List (Pair TS)) (t : Typed) → (steps_type (map (λ (y : BS). y.1) (map (λ (p : Pair TS). p.1) ps)) t).well ≡ true → (t.well ≡ true) × Each (EvenStep C pay a) (map (λ (p : Pair TS). p.0) ps) (map (λ (y : BS). y.0) (map (λ (p : Pair TS). p.1) ps))
  steps_well [] t h = (h, tt)
  steps_well (p ∷ ps) t h = let r = steps_well ps (p.1.1 t) h in let k = p.2.1 t r.0 in (k.0, (k.1, r.1))

  links_well : (ps : List (Pair TL)) (t : Typed) → (links_type (map (λ (y : BL). y.1) (map (λ (p : Pair TL). p.1) ps)) t).well ≡ true → (t.well ≡ true) × Each (EvenLink C pay a) (map (λ (p : Pair TL). p.0) ps) (map (λ (y : BL). y.0) (map (λ (p : Pair TL). p.1) ps))
  links_well [] t h = (h, tt)
  links_well (p ∷ ps) t h = let r = links_well ps (p.1.1 t) h in let k = p.2.1 t r.0 in (k.0, (k.1, r.1))

  operands_well : (ps : List (Pair TO)) → all_scalars kind.Bool (map taken (map (λ (y : BO). y.1) (map (λ (p : Pair TO). p.1) ps))) ≡ true → Each (SoundOf C pay a) (map (λ (p : Pair TO). p.0) ps) (map (λ (y : BO). y.0) (map (λ (p : Pair TO). p.1) ps))
  operands_well [] h = tt
  operands_well (p ∷ ps) h = let k = both _ _ h in ((p.2.0, p.2.1 (taken_well p.1.1 (scalar_well kind.Bool (taken p.1.1) k.0))), operands_well ps k.1)

  suits_well : (sizes : List Size) (formals : List Formal) (ps : List (Pair TA)) → arguments_suit sizes formals (map (λ (y : BA). y.1) (map (λ (p : Pair TA). p.1) ps)) ≡ true → Each (EvenArgument C pay a) (map (λ (p : Pair TA). p.0) ps) (map (λ (y : BA). y.0) (map (λ (p : Pair TA). p.1) ps))
  suits_well sizes [] [] h = tt
  suits_well sizes [] (p ∷ ps) h = absurd (true≢false (sym h))
  suits_well sizes (q ∷ formals) [] h = absurd (true≢false (sym h))
  suits_well sizes (q ∷ formals) (p ∷ ps) h = let k = both _ _ h in ((p.2.0.0, p.2.1.0 (suit_well sizes q p.1.1 (both _ _ k.0).0)), suits_well sizes formals ps k.1)

  suits_match : (sizes : List Size) (params : List Param) (k : ℕ) (ps : List (Pair TA)) → arguments_suit sizes (row_formals_from k (map param_of params)) (map (λ (y : BA). y.1) (map (λ (p : Pair TA). p.1) ps)) ≡ true → Matches params (map (λ (p : Pair TA). p.0) ps)
  suits_match sizes [] k [] h = tt
  suits_match sizes [] k (p ∷ ps) h = absurd (true≢false (sym h))
  suits_match sizes (q ∷ params) k [] h = absurd (true≢false (sym h))
  suits_match sizes (q ∷ params) k (p ∷ ps) h = let i = both _ _ h in (suit_out sizes _ p.1.1 refl (both _ _ i.0).0 ∙ sym p.2.1.1, suits_match sizes params _ ps i.1)

  module _ (o : s.opens ≡ a.opens) (serves : Served C pay a known s.functions) where
    in_argument : (y : Argument-F (Pair TA) (Pair TE) (Pair TS) (Pair TO) (Pair TC) (Pair TL) (Pair TP)) → TA (look_argument (map-Argument (Pair TA) (Pair TE) (Pair TS) (Pair TO) (Pair TC) (Pair TL) (Pair TP) ArgumentLook Look Look Look Look Look PlaceLook (λ e. e.0) (λ e. e.0) (λ e. e.0) (λ e. e.0) (λ e. e.0) (λ e. e.0) (λ e. e.0) y)) ((both_folds (run_fold C pay s) (type_fold sc vars)).argument (map-Argument (Pair TA) (Pair TE) (Pair TS) (Pair TO) (Pair TC) (Pair TL) (Pair TP) BA BE BS BO BC BL BP (λ e. e.1) (λ e. e.1) (λ e. e.1) (λ e. e.1) (λ e. e.1) (λ e. e.1) (λ e. e.1) y))
    in_argument (form.Input o node) = ((tt, input_still C pay a o.0 o.1.0 o.2.0), (λ p. input_even C pay a o.0 o.1.0 (Some node) (o.2.1 (taken_well o.1.1 (both _ _ p).1)), refl))
    in_argument (form.Output place c node) = ((place.2.0.0, output_still C pay a place.0.indices place.1.0 c place.2.0.1), (λ p. output_even C pay a place.0.variable place.0.indices place.1.0 c (Some node) place.2.0.0 (place.2.1 (converted_well c place.1.1.type (both _ _ p).1)), refl))
    in_argument form.Missing = ((tt, λ h. still_give C pay w anything _ tt), (λ p h. even_give C pay w _ _ _ (λ q. refl, λ q. refl), refl))

    in_step : (y : TypedStep-F (Pair TA) (Pair TE) (Pair TS) (Pair TO) (Pair TC) (Pair TL) (Pair TP)) → TS (look_step (map-TypedStep (Pair TA) (Pair TE) (Pair TS) (Pair TO) (Pair TC) (Pair TL) (Pair TP) ArgumentLook Look Look Look Look Look PlaceLook (λ e. e.0) (λ e. e.0) (λ e. e.0) (λ e. e.0) (λ e. e.0) (λ e. e.0) (λ e. e.0) y)) ((both_folds (run_fold C pay s) (type_fold sc vars)).step (map-TypedStep (Pair TA) (Pair TE) (Pair TS) (Pair TO) (Pair TC) (Pair TL) (Pair TP) BA BE BS BO BC BL BP (λ e. e.1) (λ e. e.1) (λ e. e.1) (λ e. e.1) (λ e. e.1) (λ e. e.1) (λ e. e.1) y))
    in_step (form.Index e node) = (index_still C pay a e.0 e.1.0 node e.2.0, λ t h. let k = both _ _ h in (element_well t.well t.sizes t.base t.depth k.1, index_even C pay a e.0 e.1.0 node (e.2.1 (index_well e.1.1 (both _ _ k.0).0))))
    in_step (form.Field n) = (field_still C pay a n, λ t h. (field_well sc t.well t.sizes t.base t.depth n h, field_even C pay a n))

    in_expr : (y : TypedExpr-F (Pair TA) (Pair TE) (Pair TS) (Pair TO) (Pair TC) (Pair TL) (Pair TP)) → TE (look_form known (map-TypedExpr (Pair TA) (Pair TE) (Pair TS) (Pair TO) (Pair TC) (Pair TL) (Pair TP) ArgumentLook Look Look Look Look Look PlaceLook (λ e. e.0) (λ e. e.0) (λ e. e.0) (λ e. e.0) (λ e. e.0) (λ e. e.0) (λ e. e.0) y)) ((both_folds (run_fold C pay s) (type_fold sc vars)).expr (map-TypedExpr (Pair TA) (Pair TE) (Pair TS) (Pair TO) (Pair TC) (Pair TL) (Pair TP) BA BE BS BO BC BL BP (λ e. e.1) (λ e. e.1) (λ e. e.1) (λ e. e.1) (λ e. e.1) (λ e. e.1) (λ e. e.1) y))
    in_expr (form.Literal x) = (λ h. still_evaluated C pay w anything _ (still_give C pay w anything _ tt), λ p h. even_evaluated C pay w _ _ _ (even_give C pay w _ _ _ (λ q. refl)))
    in_expr (form.Constant n) = (
      λ h. still_evaluated C pay w anything _ (still_held C pay w anything _ _ (λ v e. still_give C pay w anything v tt)),
      λ p h. even_evaluated C pay w (SameIf false) _ _ (even_held C pay w (SameIf false) (slice_get s.constants n) (slice_get s.constants n) (give C pay) (give C pay) (λ u v e f. even_give C pay w (SameIf false) u v (λ q. some_same (sym e ∙ f)))),
    )
    in_expr (form.Variable x) = (
      λ h. still_evaluated C pay w anything _ (record { by = λ p. (still_held C pay w anything _ (give C pay) (λ v e. still_give C pay w anything v tt)).by p }),
      λ p h. even_evaluated C pay w (SameIf (w (Variable x))) _ _ (even_found C pay w (SameIf (w (Variable x))) (λ env. var_of env x) (λ env. var_of env x) (give C pay) (give C pay) (λ env more u v z e f. even_give C pay w (SameIf (w (Variable x))) u v (λ q. some_same (sym e ∙ z.at x q ∙ f)))),
    )
    in_expr (form.Unary op k o) = (
      λ h. still_evaluated C pay w anything _ (still_then C pay w anything anything o.1.0 _ (o.2.0 h) (λ v g. (like_alone C pay w op k v).left)),
      λ p h. even_evaluated C pay w (SameIf (o.0 a false).varies) _ _ (even_then C pay w (SameIf (o.0 a false).varies) (SameIf (o.0 a false).varies) o.1.0 o.1.0 _ _ (o.2.1 (taken_well o.1.1 (scalar_well k (taken o.1.1) (both _ _ p).1)) h) (λ u v g. even_like C pay w (o.0 a false).varies _ _ u v g (like_alone C pay w op k))),
    )
    in_expr (form.Chain o links) = (
      λ h. still_evaluated C pay w anything _ (still_then C pay w anything anything o.1.0 _ (o.2.0 (all_left w _ _ h)) (λ v g. linked_still C pay a _ _ (stills (StillLink C pay a) TL (λ x y h. h.0) links) v (all_right w (o.0 a true).found.puts _ h))),
      λ p h. let k = links_well links o.1.1.value (both _ _ p).1 in
          even_evaluated C pay w _ _ _ (even_then C pay w (SameIf (o.0 a false).varies) _ o.1.0 o.1.0 _ _ (o.2.1 k.0 (all_left w _ _ h)) (λ u v g. linked_even C pay a _ _ k.1 (o.0 a false).varies u v (all_right w (o.0 a false).found.puts _ h) g)),
    )
    in_expr (form.Logic l os) = (
      λ h. still_evaluated C pay w anything _ (decided_still C pay a (decider l) _ _ (stills (StillOf C pay a) TO (λ x y h. h.0) os) h),
      λ p h. even_evaluated C pay w _ _ _ (decided_even C pay a (decider l) _ _ (operands_well os (both _ _ p).1) h),
    )
    in_expr (form.Path e steps) = (
      λ h. still_then C pay w anything anything e.1.0 _ (e.2.0 (all_left w _ _ h)) (λ v g. steps_still C pay a _ _ (stills (StillStep C pay a) TS (λ x y h. h.0) steps) v (all_right w (e.0 a true).found.puts _ h)),
      λ p h. let k = steps_well steps e.1.1 (both _ _ p).1 in
          even_then C pay w (SameIf (e.0 a false).varies) _ e.1.0 e.1.0 _ _ (e.2.1 k.0 (all_left w _ _ h)) (λ u v g. steps_even C pay a _ _ k.1 (e.0 a false).varies u v (all_right w (e.0 a false).found.puts _ h) g),
    )
    in_expr (form.Size e size) = (
      λ h. still_evaluated C pay w anything _ (still_then C pay w anything anything e.1.0 _ (e.2.0 h) (λ v g. (like_sized C pay w _).left)),
      λ p h. even_evaluated C pay w (SameIf false) _ _ (even_then C pay w (SameIf (e.0 a false).varies) (SameIf false) e.1.0 e.1.0 _ _ (e.2.1 (both _ _ (both _ _ p).0).0 h) (λ u v g. even_like C pay w false (λ (u : Unit {0}). sized C pay (size_in s.opens size)) (λ (u : Unit {0}). sized C pay (size_in s.opens size)) tt tt (λ q. refl) (λ u. like_sized C pay w (size_in s.opens size)))),
    )
    in_expr (form.Call c) = c.2

    called_well : (c : Callee) (sizes : List Size) (node : Node) (ps : List (Pair TA)) → (call_type sc (signature_in sc c) sizes (map (λ (y : BA). y.1) (map (λ (p : Pair TA). p.1) ps))).well ≡ true → EvenOf C pay a (seen_callee known c sizes (map (λ (p : Pair TA). p.0) ps)) ((run_fold C pay s).call (record { callee = c; sizes = sizes; arguments = map (λ (y : BA). y.0) (map (λ (p : Pair TA). p.1) ps); node = node }))
    called_well (callee.Program n) sizes node ps h = at (slice_get sc.functions n) h where
      at : (f : Option Signature) → (call_type sc f sizes (map (λ (y : BA). y.1) (map (λ (p : Pair TA). p.1) ps))).well ≡ true → EvenOf C pay a (seen_callee known (callee.Program n) sizes (map (λ (p : Pair TA). p.0) ps)) ((run_fold C pay s).call (record { callee = callee.Program n; sizes = sizes; arguments = map (λ (y : BA). y.0) (map (λ (p : Pair TA). p.1) ps); node = node }))
      at None h = absurd (true≢false (sym h))
      at (Some f) h = program_even C pay a known s o serves n sizes node _ _ (suits_well sizes f.formals ps (both _ _ h).1)
    called_well (callee.Library id) sizes node ps h =
        let k = (both _ _ h).1 in
        library_even C pay a known s id sizes node _ _ (suits_well sizes (row_formals_from 0 (map param_of (row id).params)) ps k) (suits_match sizes (row id).params 0 ps k)

    in_exprs : KeepsExprs TA TE TS TO TC TL TP (look_fold known) (both_folds (run_fold C pay s) (type_fold sc vars))
    in_exprs = record {
      argument = in_argument;
      expr = in_expr;
      step = in_step;
      operand = λ o. (converted_still C pay a o.conversion o.value.0 o.value.1.0 o.value.2.0, λ p. converted_even C pay a o.conversion o.value.0 o.value.1.0 (o.value.2.1 p));
      call = λ c. (call_still C pay a known s c.callee c.sizes c.node _ _ (stills (StillArgument C pay a) TA (λ x y h. h.0) c.arguments), λ p. called_well c.callee c.sizes c.node c.arguments (both _ _ p).1);
      link = λ l. (
        link_still C pay a l.operator l.kind l.left l.right.0 l.right.1.0 l.right.2.0,
        λ t p. let k = both _ _ (both _ _ p).1 in
            (converted_well l.left t (scalar_well l.kind (as_converted l.left t) k.0), link_even C pay a l.operator l.kind l.left l.right.0 l.right.1.0 (l.right.2.1 (taken_well l.right.1.1 (scalar_well l.kind (taken l.right.1.1) k.1)))),
      );
      place = λ p. ((refl, λ h. place_still C pay a _ _ (stills (StillStep C pay a) TS (λ x y h. h.0) p.steps) p.variable h), λ q. place_even C pay a _ _ (steps_well p.steps _ q).1 p.variable);
    }

    pub even_expr : (e : TypedExpr) → (expr_type sc vars e).well ≡ true → EvenOf C pay a (look_expr known e) (run_expr C pay s e)
    even_expr e p =
        let t = expr_pair TA TE TS TO TC TL TP (look_fold known) (both_folds (run_fold C pay s) (type_fold sc vars)) in_exprs e in
        subst (λ r. EvenOf C pay a (look_expr known e) r) (expr_first (run_fold C pay s) (type_fold sc vars) e) (t.1 (ap (λ (t : Typed). t.well) (expr_second (run_fold C pay s) (type_fold sc vars) e) ∙ p))

    pub even_operand : (e : Operand) → (operand_type sc vars e).well ≡ true → EvenOf C pay a (look_operand known e) (run_operand C pay s e)
    even_operand e p =
        let t = operand_pair TA TE TS TO TC TL TP (look_fold known) (both_folds (run_fold C pay s) (type_fold sc vars)) in_exprs e in
        subst (λ r. EvenOf C pay a (look_operand known e) r) (operand_first (run_fold C pay s) (type_fold sc vars) e) (t.1 (taken_well _ (ap (λ (t : OperandType). (taken t).well) (operand_second (run_fold C pay s) (type_fold sc vars) e) ∙ p)))

    pub even_call : (e : TypedCall) → (call_form_type sc vars e).well ≡ true → EvenOf C pay a (look_call known e) (run_call C pay s e)
    even_call e p =
        let t = call_pair TA TE TS TO TC TL TP (look_fold known) (both_folds (run_fold C pay s) (type_fold sc vars)) in_exprs e in
        subst (λ r. EvenOf C pay a (look_call known e) r) (call_first (run_fold C pay s) (type_fold sc vars) e) (t.1 (ap (λ (t : Typed). t.well) (call_second (run_fold C pay s) (type_fold sc vars) e) ∙ p))

    pub even_place : (e : TypedPlace) → (place_type sc vars e).type.well ≡ true → EvenOf C pay a (look_place known e).indices (run_place C pay s e).path
    even_place e p =
        let t = place_pair TA TE TS TO TC TL TP (look_fold known) (both_folds (run_fold C pay s) (type_fold sc vars)) in_exprs e in
        subst (λ (r : PlaceRun C pay). EvenOf C pay a (look_place known e).indices r.path) (place_first (run_fold C pay s) (type_fold sc vars) e) (t.1 (ap (λ (t : PlaceType). t.type.well) (place_second (run_fold C pay s) (type_fold sc vars) e) ∙ p))
