-- Steps, places, conversions, links and arguments.
use Rattle.std.proofs.Common.{◌≡◌, ℕ, ℤ, ◌≤◌, List, [], ◌∷◌, ◌++◌, map, Option, Some, None, true, ◌&&◌, refl, sym, ap, subst, ◌∙◌, arith, slice_get, slice_set, ◌+◌}
use Rattle.fix_num.specs.declared.TheConstants.{FRACTION}
use Rattle.ctl_base.specs.declared.limits.TheConstants.{SCALARS}
use Rattle.ctl_base.specs.declared.kind.ScalarKind.{ScalarKind}
use Rattle.ctl_types.specs.declared.shape.Base.TheVariants.{Scalar, Struct}
use Rattle.ctl_types.specs.declared.value.Value.{Value, out-Value}
use Rattle.ctl_types.specs.declared.expression.Conversion.{Conversion}
use Rattle.ctl_types.specs.declared.expression.Conversion.TheVariants.{Same, Between}
use Rattle.ctl_types.specs.declared.expression.LinkOperator.{LinkOperator}
use Rattle.ctl_types.specs.declared.expression.Argument.TheOpen as form
use Rattle.ctl_types.specs.declared.expression.Argument.TheOpen.{Argument-F, TypedExpr-F, TypedStep-F, Operand-F, TypedCall-F, TypedLink-F, TypedPlace-F}
use Rattle.ctl_types.specs.declared.expression.Argument.TheFolds.{map-Argument, map-TypedExpr, map-TypedStep, map-Operand, map-TypedCall, map-TypedLink, map-TypedPlace}
use Rattle.ctl_types.specs.Scalars.{scalar, in_range, operate, operator_kind, converted}
use Rattle.ctl_types.specs.Shapes.{Whole}
use Rattle.ctl_types.specs.Values.{Env, one, part_of, part_at, var_of, put_at, stored, Fits, scalars}
use Rattle.ctl_types.specs.Typing.{Typed, is_scalar, is_index, node_stands, element_type, field_type, variable_type, Variable, Variables, steps_type, as_converted, OperandType, taken, is_kind_between, works, Passing, In, Out, Absent, PlaceType, type_argument, type_step, type_link}
use Rattle.ctl_types.specs.Run.{Pixel, Run, give, held, go_on, convert, operated, index_in, field_in, StepRun, LinkRun, PlaceRun, Passed, Target, ArgumentRun, steps_run, found, path_run, place_path, put_back, converted_back, word_as, pass_value, argument_step, step_step, link_step, stepped, paid}
use Rattle.ctl_types.specs.Pairs.{Pair}
use Rattle.ctl_laws.specs.Sound.{Of, variable_shape, Stands}
use Rattle.ctl_laws.proofs.Values.{both, shape, Leads, array_leads, struct_leads, part_few, PathTo, path_snoc, path_at, path_put, scalars_one}
use Rattle.ctl_laws.proofs.Ranges.{operate_gives, converted_range, scalar_fits}
use Rattle.ctl_laws.proofs.Runs.{Good, good_then, good_more, good_held, good_word, good_number, good_index, good_field, word_as_range}
use Rattle.ctl_laws.proofs.Shapes.{full, has_full, index_full, element_full, field_full, type_some, stand_at, stand_set}
use Rattle.ctl_laws.proofs.Around.{Around, Sound}

module _ {C : Type 0} {pay : ℕ → C → C} (x : Around C pay) (h : Sound x) (scope : Variables) where
  -- the variables stand
  abbrev pub On : Pixel C pay → Type 0
  On p = Stands x.scene.structs x.opens scope p.env

  abbrev pub Be : Whole → Value → Pixel C pay → Type 0
  Be w v p = On p × Of x.scene.structs w v

  abbrev pub whole_type : Typed → Whole
  whole_type t = full x.opens t

  abbrev pub Right : Typed → Run C pay Value → Type 0
  Right t run = (p : Pixel C pay) → On p → t.well ≡ true → Good (Be (whole_type t)) (run p)

  abbrev pub RightOperand : OperandType → Run C pay Value → Type 0
  RightOperand o run = Right (taken o) run

  -- a number that leads from one shape to another, whatever the value
  abbrev pub LeadsAll : Whole → ℕ → Whole → Type 0
  LeadsAll a i b = (v : Value) → Fits x.scene.structs a v → Leads x.scene.structs a (out-Value v) i b

  abbrev pub Finds : Whole → (Env → Option Value) → Type 0
  Finds w find = (env : Env) → Stands x.scene.structs x.opens scope env → (v : Value) × (find env ≡ Some v) × Fits x.scene.structs w v

  abbrev pub RightStep : (Typed → Typed) → StepRun C pay → Type 0
  RightStep g run = (t : Typed) → (g t).well ≡ true → (t.well ≡ true) × ((find : Env → Option Value) (p : Pixel C pay) → On p → Finds (whole_type t) find → Good (λ i p. On p × LeadsAll (whole_type t) i (whole_type (g t))) (run find p))

  abbrev pub RightLink : (Typed → Typed) → LinkRun C pay → Type 0
  RightLink g run = (t : Typed) → (g t).well ≡ true → (t.well ≡ true) × ((v : Value) (p : Pixel C pay) → Of x.scene.structs (whole_type t) v → On p → Good (Be (whole_type (g t))) (run v p))

  -- a path from a variable to a part of this shape
  abbrev pub IsPlace : ℕ → Whole → List ℕ → Type 0
  IsPlace y w path = (v : Variable) × (slice_get scope y ≡ Some (Some v)) × PathTo x.scene.structs path (variable_shape x.opens v) w

  abbrev pub RightPlace : PlaceType → PlaceRun C pay → Type 0
  RightPlace t run = t.type.well ≡ true → (p : Pixel C pay) → On p → Good (λ path p. On p × IsPlace run.variable (whole_type t.type) path) (run.path p)

  -- what is passed is of the shape, and what is may be put back
  abbrev pub PassedAs : Option Target → Whole → Passed → Type 0
  PassedAs t w q = (v : Value) × (q.value ≡ Some v) × Of x.scene.structs w v × ((u : Value) (p : Pixel C pay) → Of x.scene.structs w u → On p → On (put_back C pay t q.path u p))

  abbrev pub RightArgument : Passing → ArgumentRun C pay → Type 0
  RightArgument (In t) run = t.well ≡ true → (p : Pixel C pay) → On p → Good (λ q p. On p × PassedAs run.target (whole_type t) q) (run.run p)
  RightArgument (Out t assignable) run = t.well ≡ true → (p : Pixel C pay) → On p → Good (λ q p. On p × PassedAs run.target (whole_type t) q) (run.run p)
  RightArgument Absent run = (run.target ≡ None) × ((p : Pixel C pay) → On p → Good (λ q p. On p × (q.value ≡ None)) (run.run p))

  -- the types of a form's parts, and their runs
  abbrev pub typed_argument : Argument-F (Pair RightArgument) (Pair Right) (Pair RightStep) (Pair RightOperand) (Pair Right) (Pair RightLink) (Pair RightPlace) → Argument-F Passing Typed (Typed → Typed) OperandType Typed (Typed → Typed) PlaceType
  typed_argument = map-Argument (Pair RightArgument) (Pair Right) (Pair RightStep) (Pair RightOperand) (Pair Right) (Pair RightLink) (Pair RightPlace) Passing Typed (Typed → Typed) OperandType Typed (Typed → Typed) PlaceType (λ e. e.0) (λ e. e.0) (λ e. e.0) (λ e. e.0) (λ e. e.0) (λ e. e.0) (λ e. e.0)

  abbrev pub ran_argument : Argument-F (Pair RightArgument) (Pair Right) (Pair RightStep) (Pair RightOperand) (Pair Right) (Pair RightLink) (Pair RightPlace) → Argument-F (ArgumentRun C pay) (Run C pay Value) (StepRun C pay) (Run C pay Value) (Run C pay Value) (LinkRun C pay) (PlaceRun C pay)
  ran_argument = map-Argument (Pair RightArgument) (Pair Right) (Pair RightStep) (Pair RightOperand) (Pair Right) (Pair RightLink) (Pair RightPlace) (ArgumentRun C pay) (Run C pay Value) (StepRun C pay) (Run C pay Value) (Run C pay Value) (LinkRun C pay) (PlaceRun C pay) (λ e. e.1) (λ e. e.1) (λ e. e.1) (λ e. e.1) (λ e. e.1) (λ e. e.1) (λ e. e.1)

  abbrev pub typed_expr : TypedExpr-F (Pair RightArgument) (Pair Right) (Pair RightStep) (Pair RightOperand) (Pair Right) (Pair RightLink) (Pair RightPlace) → TypedExpr-F Passing Typed (Typed → Typed) OperandType Typed (Typed → Typed) PlaceType
  typed_expr = map-TypedExpr (Pair RightArgument) (Pair Right) (Pair RightStep) (Pair RightOperand) (Pair Right) (Pair RightLink) (Pair RightPlace) Passing Typed (Typed → Typed) OperandType Typed (Typed → Typed) PlaceType (λ e. e.0) (λ e. e.0) (λ e. e.0) (λ e. e.0) (λ e. e.0) (λ e. e.0) (λ e. e.0)

  abbrev pub ran_expr : TypedExpr-F (Pair RightArgument) (Pair Right) (Pair RightStep) (Pair RightOperand) (Pair Right) (Pair RightLink) (Pair RightPlace) → TypedExpr-F (ArgumentRun C pay) (Run C pay Value) (StepRun C pay) (Run C pay Value) (Run C pay Value) (LinkRun C pay) (PlaceRun C pay)
  ran_expr = map-TypedExpr (Pair RightArgument) (Pair Right) (Pair RightStep) (Pair RightOperand) (Pair Right) (Pair RightLink) (Pair RightPlace) (ArgumentRun C pay) (Run C pay Value) (StepRun C pay) (Run C pay Value) (Run C pay Value) (LinkRun C pay) (PlaceRun C pay) (λ e. e.1) (λ e. e.1) (λ e. e.1) (λ e. e.1) (λ e. e.1) (λ e. e.1) (λ e. e.1)

  abbrev pub typed_step : TypedStep-F (Pair RightArgument) (Pair Right) (Pair RightStep) (Pair RightOperand) (Pair Right) (Pair RightLink) (Pair RightPlace) → TypedStep-F Passing Typed (Typed → Typed) OperandType Typed (Typed → Typed) PlaceType
  typed_step = map-TypedStep (Pair RightArgument) (Pair Right) (Pair RightStep) (Pair RightOperand) (Pair Right) (Pair RightLink) (Pair RightPlace) Passing Typed (Typed → Typed) OperandType Typed (Typed → Typed) PlaceType (λ e. e.0) (λ e. e.0) (λ e. e.0) (λ e. e.0) (λ e. e.0) (λ e. e.0) (λ e. e.0)

  abbrev pub ran_step : TypedStep-F (Pair RightArgument) (Pair Right) (Pair RightStep) (Pair RightOperand) (Pair Right) (Pair RightLink) (Pair RightPlace) → TypedStep-F (ArgumentRun C pay) (Run C pay Value) (StepRun C pay) (Run C pay Value) (Run C pay Value) (LinkRun C pay) (PlaceRun C pay)
  ran_step = map-TypedStep (Pair RightArgument) (Pair Right) (Pair RightStep) (Pair RightOperand) (Pair Right) (Pair RightLink) (Pair RightPlace) (ArgumentRun C pay) (Run C pay Value) (StepRun C pay) (Run C pay Value) (Run C pay Value) (LinkRun C pay) (PlaceRun C pay) (λ e. e.1) (λ e. e.1) (λ e. e.1) (λ e. e.1) (λ e. e.1) (λ e. e.1) (λ e. e.1)

  abbrev pub typed_operand : Operand-F (Pair RightArgument) (Pair Right) (Pair RightStep) (Pair RightOperand) (Pair Right) (Pair RightLink) (Pair RightPlace) → Operand-F Passing Typed (Typed → Typed) OperandType Typed (Typed → Typed) PlaceType
  typed_operand = map-Operand (Pair RightArgument) (Pair Right) (Pair RightStep) (Pair RightOperand) (Pair Right) (Pair RightLink) (Pair RightPlace) Passing Typed (Typed → Typed) OperandType Typed (Typed → Typed) PlaceType (λ e. e.0) (λ e. e.0) (λ e. e.0) (λ e. e.0) (λ e. e.0) (λ e. e.0) (λ e. e.0)

  abbrev pub ran_operand : Operand-F (Pair RightArgument) (Pair Right) (Pair RightStep) (Pair RightOperand) (Pair Right) (Pair RightLink) (Pair RightPlace) → Operand-F (ArgumentRun C pay) (Run C pay Value) (StepRun C pay) (Run C pay Value) (Run C pay Value) (LinkRun C pay) (PlaceRun C pay)
  ran_operand = map-Operand (Pair RightArgument) (Pair Right) (Pair RightStep) (Pair RightOperand) (Pair Right) (Pair RightLink) (Pair RightPlace) (ArgumentRun C pay) (Run C pay Value) (StepRun C pay) (Run C pay Value) (Run C pay Value) (LinkRun C pay) (PlaceRun C pay) (λ e. e.1) (λ e. e.1) (λ e. e.1) (λ e. e.1) (λ e. e.1) (λ e. e.1) (λ e. e.1)

  abbrev pub typed_call : TypedCall-F (Pair RightArgument) (Pair Right) (Pair RightStep) (Pair RightOperand) (Pair Right) (Pair RightLink) (Pair RightPlace) → TypedCall-F Passing Typed (Typed → Typed) OperandType Typed (Typed → Typed) PlaceType
  typed_call = map-TypedCall (Pair RightArgument) (Pair Right) (Pair RightStep) (Pair RightOperand) (Pair Right) (Pair RightLink) (Pair RightPlace) Passing Typed (Typed → Typed) OperandType Typed (Typed → Typed) PlaceType (λ e. e.0) (λ e. e.0) (λ e. e.0) (λ e. e.0) (λ e. e.0) (λ e. e.0) (λ e. e.0)

  abbrev pub ran_call : TypedCall-F (Pair RightArgument) (Pair Right) (Pair RightStep) (Pair RightOperand) (Pair Right) (Pair RightLink) (Pair RightPlace) → TypedCall-F (ArgumentRun C pay) (Run C pay Value) (StepRun C pay) (Run C pay Value) (Run C pay Value) (LinkRun C pay) (PlaceRun C pay)
  ran_call = map-TypedCall (Pair RightArgument) (Pair Right) (Pair RightStep) (Pair RightOperand) (Pair Right) (Pair RightLink) (Pair RightPlace) (ArgumentRun C pay) (Run C pay Value) (StepRun C pay) (Run C pay Value) (Run C pay Value) (LinkRun C pay) (PlaceRun C pay) (λ e. e.1) (λ e. e.1) (λ e. e.1) (λ e. e.1) (λ e. e.1) (λ e. e.1) (λ e. e.1)

  abbrev pub typed_link : TypedLink-F (Pair RightArgument) (Pair Right) (Pair RightStep) (Pair RightOperand) (Pair Right) (Pair RightLink) (Pair RightPlace) → TypedLink-F Passing Typed (Typed → Typed) OperandType Typed (Typed → Typed) PlaceType
  typed_link = map-TypedLink (Pair RightArgument) (Pair Right) (Pair RightStep) (Pair RightOperand) (Pair Right) (Pair RightLink) (Pair RightPlace) Passing Typed (Typed → Typed) OperandType Typed (Typed → Typed) PlaceType (λ e. e.0) (λ e. e.0) (λ e. e.0) (λ e. e.0) (λ e. e.0) (λ e. e.0) (λ e. e.0)

  abbrev pub ran_link : TypedLink-F (Pair RightArgument) (Pair Right) (Pair RightStep) (Pair RightOperand) (Pair Right) (Pair RightLink) (Pair RightPlace) → TypedLink-F (ArgumentRun C pay) (Run C pay Value) (StepRun C pay) (Run C pay Value) (Run C pay Value) (LinkRun C pay) (PlaceRun C pay)
  ran_link = map-TypedLink (Pair RightArgument) (Pair Right) (Pair RightStep) (Pair RightOperand) (Pair Right) (Pair RightLink) (Pair RightPlace) (ArgumentRun C pay) (Run C pay Value) (StepRun C pay) (Run C pay Value) (Run C pay Value) (LinkRun C pay) (PlaceRun C pay) (λ e. e.1) (λ e. e.1) (λ e. e.1) (λ e. e.1) (λ e. e.1) (λ e. e.1) (λ e. e.1)

  abbrev pub typed_place : TypedPlace-F (Pair RightArgument) (Pair Right) (Pair RightStep) (Pair RightOperand) (Pair Right) (Pair RightLink) (Pair RightPlace) → TypedPlace-F Passing Typed (Typed → Typed) OperandType Typed (Typed → Typed) PlaceType
  typed_place = map-TypedPlace (Pair RightArgument) (Pair Right) (Pair RightStep) (Pair RightOperand) (Pair Right) (Pair RightLink) (Pair RightPlace) Passing Typed (Typed → Typed) OperandType Typed (Typed → Typed) PlaceType (λ e. e.0) (λ e. e.0) (λ e. e.0) (λ e. e.0) (λ e. e.0) (λ e. e.0) (λ e. e.0)

  abbrev pub ran_place : TypedPlace-F (Pair RightArgument) (Pair Right) (Pair RightStep) (Pair RightOperand) (Pair Right) (Pair RightLink) (Pair RightPlace) → TypedPlace-F (ArgumentRun C pay) (Run C pay Value) (StepRun C pay) (Run C pay Value) (Run C pay Value) (LinkRun C pay) (PlaceRun C pay)
  ran_place = map-TypedPlace (Pair RightArgument) (Pair Right) (Pair RightStep) (Pair RightOperand) (Pair Right) (Pair RightLink) (Pair RightPlace) (ArgumentRun C pay) (Run C pay Value) (StepRun C pay) (Run C pay Value) (Run C pay Value) (LinkRun C pay) (PlaceRun C pay) (λ e. e.1) (λ e. e.1) (λ e. e.1) (λ e. e.1) (λ e. e.1) (λ e. e.1) (λ e. e.1)

  -- values of shapes that are the same
  pub fits_as : (a b : Whole) (v : Value) → a ≡ b → Fits x.scene.structs a v → Fits x.scene.structs b v
  fits_as a b v e f = subst (λ (w : Whole). Fits x.scene.structs w v) e f

  pub of_as : (a b : Whole) (v : Value) → a ≡ b → Of x.scene.structs a v → Of x.scene.structs b v
  of_as a b v e f = subst (λ (w : Whole). Of x.scene.structs w v) e f

  pub scalar_of : (k : ScalarKind) (z : ℤ) → in_range FRACTION k z ≡ true → Of x.scene.structs (shape [] (Some (Scalar k))) (one (scalar k z))
  scalar_of k z r = (scalar_fits x.scene.structs k z r, let n = scalars_one (scalar k z) in omega arith)

  -- ---- steps

  pub step_right : (y : TypedStep-F (Pair RightArgument) (Pair Right) (Pair RightStep) (Pair RightOperand) (Pair Right) (Pair RightLink) (Pair RightPlace)) → RightStep (type_step x.scene scope (typed_step y)) (step_step C pay (ran_step y))
  step_right (form.Index e node) t w =
      let b = both (is_index e.0 && node_stands x.scene node) _ w in
      let i = index_full x.opens e.0 (both (is_index e.0) _ b.0).0 in
      let k = has_full x.opens e.0 [] (Some (Scalar i.0)) i.2 in
      let a = element_full x.opens t b.1 in (
        a.0,
        λ find p st fd. good_then (Be (whole_type e.0)) _ (e.1 p) _ (e.2 p st k.0) (λ v p' g. good_number x.scene.structs _ i.0 v _ p' (fits_as _ _ v k.1 g.1.0) i.1 (λ z.
            let y = fd p'.env g.0 in
            good_held _ (find p'.env) (λ v. index_in C pay node z (out-Value v)) p' y.0 y.1 (good_index x.scene.structs _ a.1 _ _ node z y.0 p' (fits_as _ _ y.0 a.2 y.2) (λ j l. (g.0, λ v f. subst (λ (w : Whole). Leads x.scene.structs w (out-Value v) j (whole_type (element_type t))) (sym a.2) (array_leads x.scene.structs a.1 _ _ j l v (fits_as _ _ v a.2 f))))))),
      )
  step_right (form.Field n) t w =
      let c = field_full x.opens x.scene h.fields t n w in (
        c.0,
        λ find p st fd.
            let y = fd p.env st in
            good_held _ (find p.env) (λ v. field_in C pay n (out-Value v)) p y.0 y.1 (good_field x.scene.structs _ c.1 n c.2 y.0 p (fits_as _ _ y.0 c.4 y.2) c.3 (st, λ v f. subst (λ (w : Whole). Leads x.scene.structs w (out-Value v) n (whole_type (field_type x.scene t n))) (sym c.4) (subst (λ (w : Whole). Leads x.scene.structs (shape [] (Some (Struct c.1))) (out-Value v) n w) (sym c.5) (struct_leads x.scene.structs c.1 n c.2 c.3 v (fits_as _ _ v c.4 f))))),
      )

  abbrev pub step_types : List (Pair RightStep) → List (Typed → Typed)
  step_types = map (λ (e : Pair RightStep). e.0)

  abbrev pub step_runs : List (Pair RightStep) → List (StepRun C pay)
  step_runs = map (λ (e : Pair RightStep). e.1)

  pub steps_well : (steps : List (Pair RightStep)) (t : Typed) → (steps_type (step_types steps) t).well ≡ true → t.well ≡ true
  steps_well [] t w = w
  steps_well (e ∷ steps) t w = (e.2 t (steps_well steps (e.0 t) w)).0

  -- the steps into a value
  pub steps_right : (steps : List (Pair RightStep)) (t : Typed) (v : Value) (p : Pixel C pay) → On p → (steps_type (step_types steps) t).well ≡ true → Of x.scene.structs (whole_type t) v → Good (Be (whole_type (steps_type (step_types steps) t))) (steps_run C pay (step_runs steps) v p)
  steps_right [] t v p st w f = (st, f)
  steps_right (e ∷ steps) t v p st w f =
      let c = e.2 t (steps_well steps (e.0 t) w) in
      good_then (λ i p. On p × LeadsAll (whole_type t) i (whole_type (e.0 t))) _ (e.1 (λ env. Some v) p) _ (c.1 (λ env. Some v) p st (λ env st. (v, refl, f.0))) (λ i q g.
      let l = g.1 v f.0 in
      let n = part_few v i l.part l.at in
      let m : scalars l.part ≤ SCALARS = let k = f.1 in omega arith in
      good_held _ (part_of (Some v) i) (stepped C pay (steps_run C pay (step_runs steps))) q l.part l.at (steps_right steps (e.0 t) l.part (paid C pay (1 + scalars l.part) q) g.0 w (l.fit, m)))

  path_right : (v : Variable) (y : ℕ) (steps : List (Pair RightStep)) (t : Typed) (done : List ℕ) (p : Pixel C pay) → slice_get scope y ≡ Some (Some v) → On p → (steps_type (step_types steps) t).well ≡ true → PathTo x.scene.structs done (variable_shape x.opens v) (whole_type t) → Good (λ path p. On p × PathTo x.scene.structs path (variable_shape x.opens v) (whole_type (steps_type (step_types steps) t))) (path_run C pay y (step_runs steps) done p)
  path_right v y [] t done p e st w d = (st, d)
  path_right v y (s ∷ steps) t done p e st w d =
      let c = s.2 t (steps_well steps (s.0 t) w) in
      good_then (λ i p. On p × LeadsAll (whole_type t) i (whole_type (s.0 t))) _ (s.1 (found C pay y done) p) _ (c.1 (found C pay y done) p st (λ env st.
      let u = stand_at x.scene.structs x.opens scope env y v st e in
      let z = path_at x.scene.structs done _ _ u.0 d u.2.0 in
      (z.0, ap (part_at done) u.1 ∙ z.1, z.2))) (λ i q g. path_right v y steps (s.0 t) (done ++ i ∷ []) q e g.0 w (path_snoc x.scene.structs done i _ (whole_type t) _ d g.1))

  pub place_right : (y : ℕ) (steps : List (Pair RightStep)) (p : Pixel C pay) → On p → (steps_type (step_types steps) (variable_type (slice_get scope y))).well ≡ true → Good (λ path p. On p × IsPlace y (whole_type (steps_type (step_types steps) (variable_type (slice_get scope y)))) path) (place_path C pay y (step_runs steps) p)
  place_right y steps p st w =
      let v = type_some (slice_get scope y) (steps_well steps (variable_type (slice_get scope y)) w) in
      let u = stand_at x.scene.structs x.opens scope p.env y v.0 st v.1 in
      good_held _ (var_of p.env y) (λ v. path_run C pay y (step_runs steps) []) p u.0 u.1 (good_more _ _ (path_run C pay y (step_runs steps) [] p) (path_right v.0 y steps (variable_type (slice_get scope y)) [] p v.1 st w (ap (λ o. whole_type (variable_type o)) (sym v.1))) (λ path q g. (g.0, (v.0, v.1, g.1))))

  -- a place holds a value, and one is stored there
  pub place_at : (y : ℕ) (path : List ℕ) (w : Whole) (env : Env) → IsPlace y w path → Stands x.scene.structs x.opens scope env → (v : Value) × (found C pay y path env ≡ Some v) × Of x.scene.structs w v
  place_at y path w env i st =
      let v = stand_at x.scene.structs x.opens scope env y i.0 st i.1 in
      let u = path_at x.scene.structs path _ w v.0 i.2 v.2.0 in
      let m : scalars u.0 ≤ SCALARS = let a = u.3 in let b = v.2.1 in omega arith in
      (u.0, ap (part_at path) v.1 ∙ u.1, (u.2, m))

  pub place_stored : (y : ℕ) (path : List ℕ) (w : Whole) (env : Env) (u : Value) → IsPlace y w path → Stands x.scene.structs x.opens scope env → Fits x.scene.structs w u → Stands x.scene.structs x.opens scope (stored y path u env)
  place_stored y path w env u i st f =
      let v = stand_at x.scene.structs x.opens scope env y i.0 st i.1 in
      let z = path_put x.scene.structs path _ w v.0 u i.2 v.2.0 f in
      let n : scalars z.0 ≡ scalars v.0 = h.counts z.0 _ _ z.2 ∙ sym (h.counts v.0 _ _ v.2.0) in
      let m : scalars z.0 ≤ SCALARS = let b = v.2.1 in omega arith in
      let e : put_at path u (var_of env y) ≡ Some z.0 = ap (put_at path u) v.1 ∙ z.1 in
      subst (λ o. Stands x.scene.structs x.opens scope (slice_set env y o)) (sym e) (stand_set x.scene.structs x.opens scope env y i.0 z.0 st i.1 (z.2, m))

  -- ---- conversions

  -- a value that is converted is a scalar
  between : (a b : ScalarKind) (t : Typed) → (as_converted (Between a b) t).well ≡ true → is_scalar a t ≡ true
  between a b t w = (both (is_scalar a t) _ w).0

  pub type_before : (c : Conversion) (t : Typed) → (as_converted c t).well ≡ true → t.well ≡ true
  type_before Same t w = w
  type_before (Between a b) t w = (has_full x.opens t [] (Some (Scalar a)) (between a b t w)).0

  pub convert_right : (c : Conversion) (t : Typed) (v : Value) (p : Pixel C pay) → On p → (as_converted c t).well ≡ true → Of x.scene.structs (whole_type t) v → Good (Be (whole_type (as_converted c t))) (convert C pay c v p)
  convert_right Same t v p st w f = (st, f)
  convert_right (Between a b) t v p st w f = good_word x.scene.structs _ a _ v p (fits_as _ _ v (has_full x.opens t [] (Some (Scalar a)) (between a b t w)).1 f.0) (λ z r. (st, scalar_of b (converted FRACTION a b z) (converted_range h.numbers a b z r)))

  pub back_right : (c : Conversion) (t : Typed) (v : Value) → (as_converted c t).well ≡ true → Fits x.scene.structs (whole_type (as_converted c t)) v → Fits x.scene.structs (whole_type t) (converted_back c v)
  back_right Same t v w f = f
  back_right (Between a b) t v w f = fits_as _ _ _ (sym (has_full x.opens t [] (Some (Scalar a)) (between a b t w)).1) (scalar_fits x.scene.structs a (word_as a (out-Value v)) (word_as_range x.scene.structs a b v (λ k z r. converted_range h.numbers k a z r) f))

  pub operand_right : (c : Conversion) (e : Pair Right) → Right (as_converted c e.0) (λ p. go_on C pay (e.1 p) (convert C pay c))
  operand_right c e p st w = good_then (Be (whole_type e.0)) _ (e.1 p) _ (e.2 p st (type_before c e.0 w)) (λ v q g. convert_right c e.0 v q g.0 w g.1)

  -- ---- links

  operated_right : (op : LinkOperator) (k : ScalarKind) (v u : Value) (p : Pixel C pay) → On p → works op k ≡ true → Fits x.scene.structs (shape [] (Some (Scalar k))) v → Fits x.scene.structs (shape [] (Some (Scalar k))) u → Good (Be (shape [] (Some (Scalar (operator_kind op k))))) (operated C pay op k v u p)
  operated_right op k v u p st w f g = good_word x.scene.structs _ k _ v p f (λ a r. good_word x.scene.structs _ k _ u p g (λ b s.
      let z = operate_gives h.numbers op k a b w r s in
      good_held _ (operate FRACTION op k a b) (λ z. give C pay (one (scalar (operator_kind op k) z))) p z.0 z.1 (st, scalar_of (operator_kind op k) z.0 z.2)))

  pub link_right : (y : TypedLink-F (Pair RightArgument) (Pair Right) (Pair RightStep) (Pair RightOperand) (Pair Right) (Pair RightLink) (Pair RightPlace)) → RightLink (type_link x.scene scope (typed_link y)) (link_step C pay (ran_link y))
  link_right y t w =
      let a = both (works y.operator y.kind && is_kind_between y.kind t.base y.right.0.value.base) _ w in
      let b = both (works y.operator y.kind) _ a.0 in
      let c = both (is_scalar y.kind (as_converted y.left t)) _ a.1 in
      let l = has_full x.opens (as_converted y.left t) [] (Some (Scalar y.kind)) c.0 in
      let r = has_full x.opens (taken y.right.0) [] (Some (Scalar y.kind)) c.1 in (
        type_before y.left t l.0,
        λ v p f st. good_then (Be (whole_type (taken y.right.0))) _ (y.right.1 p) _ (y.right.2 p st r.0) (λ u q g. good_then (Be (whole_type (as_converted y.left t))) _ (convert C pay y.left v q) _ (convert_right y.left t v q g.0 l.0 f) (λ z s k. operated_right y.operator y.kind z u s k.0 b.0 (fits_as _ _ z l.1 k.1.0) (fits_as _ _ u r.1 g.1.0))),
      )

  -- ---- arguments

  pub argument_right : (y : Argument-F (Pair RightArgument) (Pair Right) (Pair RightStep) (Pair RightOperand) (Pair Right) (Pair RightLink) (Pair RightPlace)) → RightArgument (type_argument x.scene scope (typed_argument y)) (argument_step C pay (ran_argument y))
  argument_right (form.Input o node) = λ w p st. good_then (Be (whole_type (taken o.0))) (λ q p. On p × PassedAs None (whole_type (taken o.0)) q) (o.1 p) (pass_value C pay []) (o.2 p st (both (node_stands x.scene node) _ w).1) (λ v q g. (g.0, (v, refl, g.1, λ u p f k. k)))
  argument_right (form.Output place c node) = λ w p st.
      let cw = (both (node_stands x.scene node) _ w).1 in
      let t : Option Target = Some (record { variable = place.1.variable; conversion = c }) in
      let y = whole_type (as_converted c place.0.type) in
      good_then (λ path p. On p × IsPlace place.1.variable (whole_type place.0.type) path) (λ q p. On p × PassedAs t y q) (place.1.path p) (λ path p. held C pay (found C pay place.1.variable path p.env) (λ v p. go_on C pay (convert C pay c v p) (pass_value C pay path)) p) (place.2 (type_before c place.0.type cw) p st) (λ path q g.
      let v = place_at place.1.variable path (whole_type place.0.type) q.env g.1 g.0 in
      good_held (λ q p. On p × PassedAs t y q) (found C pay place.1.variable path q.env) (λ v p. go_on C pay (convert C pay c v p) (pass_value C pay path)) q v.0 v.1 (good_then (Be y) (λ q p. On p × PassedAs t y q) (convert C pay c v.0 q) (pass_value C pay path) (convert_right c place.0.type v.0 q g.0 cw v.2) (λ u r k. (k.0, (u, refl, k.1, λ u s f o. place_stored place.1.variable path (whole_type place.0.type) s.env (converted_back c u) g.1 o (back_right c place.0.type u cw f.0))))))
  argument_right form.Missing = (refl, λ p st. (st, refl))
