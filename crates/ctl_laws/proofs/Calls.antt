-- Calls, and expressions as a whole.
use Rattle.std.proofs.Common.{◌≡◌, ℕ, suc, pos, List, [], ◌∷◌, map, length, Option, Some, None, Ok, Err, Result, Bool, true, false, not, ◌&&◌, ◌==◌, nat_lt, refl, sym, ap, subst, ◌∙◌, arith, slice_get, eqb-true, le-leb}
use Rattle.fix_num.specs.declared.TheConstants.{FRACTION}
use Rattle.ctl_base.specs.declared.kind.Node.{Node}
use Rattle.ctl_base.specs.declared.kind.ScalarKind.{ScalarKind}
use Rattle.ctl_base.specs.declared.kind.ScalarKind.TheVariants as kind
use Rattle.ctl_tree.specs.declared.expression.UnaryOperator.{UnaryOperator}
use Rattle.ctl_types.specs.declared.scalar.Scalar.TheVariants as scalar_form
use Rattle.ctl_types.specs.declared.shape.Size.{Size}
use Rattle.ctl_types.specs.declared.shape.Size.TheVariants.{Stated}
use Rattle.ctl_types.specs.declared.shape.Base.TheVariants.{Scalar}
use Rattle.ctl_types.specs.declared.shape.Shape.{Shape}
use Rattle.ctl_types.specs.declared.value.Value.{Value}
use Rattle.ctl_types.specs.declared.expression.Callee.{Callee}
use Rattle.ctl_types.specs.declared.expression.Conversion.{Conversion}
use Rattle.ctl_types.specs.declared.expression.Conversion.TheVariants.{Same, Between}
use Rattle.ctl_types.specs.declared.expression.TypedExpr.{TypedExpr}
use Rattle.ctl_types.specs.declared.expression.Operand.{Operand}
use Rattle.ctl_types.specs.declared.expression.TypedCall.{TypedCall}
use Rattle.ctl_types.specs.declared.expression.TypedPlace.{TypedPlace}
use Rattle.ctl_types.specs.declared.expression.Argument.TheOpen as form
use Rattle.ctl_types.specs.declared.expression.Argument.TheOpen.{TypedExpr-F, TypedCall-F}
use Rattle.ctl_types.specs.Scalars.{kind_of, scalar, operate_alone}
use Rattle.ctl_types.specs.Shapes.{Whole, whole, through, size_in}
use Rattle.ctl_types.specs.Values.{Env, one, var_of, fits, argument_fits, arguments_fit}
use Rattle.ctl_types.specs.Typing.{Typed, is_scalar, node_stands, Formal, Signature, Scene, signature_in, variable_type, constant_type, Variables, works_alone, is_kind_alone, unary_type, OperandType, taken, as_converted, is_same, may_precede, steps_type, links_type, all_scalars, first_is, sizes_stand, Passing, In, Out, Absent, default_fits, argument_suits, arguments_suit, call_type, type_fold, type_form, type_call, expr_type, operand_type, call_form_type, place_type}
use Rattle.ctl_types.specs.Run.{Fault, Trapped, Wrong, Pixel, Run, give, held, go_on, word, give_scalar, sized, evaluated, listed, Passed, Target, ArgumentRun, given_or, given, put_back, brought, Came, Called, came_to, called, callee_of, linked, decided, decider, steps_run, call_step, expr_step, run_fold, run_expr, run_operand, run_call, run_place}
use Rattle.ctl_types.specs.Pairs.{Pair, KeepsExprs, expr_pair, operand_pair, call_pair, place_pair}
use Rattle.ctl_laws.specs.Sound.{Of}
use Rattle.ctl_laws.proofs.Values.{both, and_true, shape, one_fits, scalars_one}
use Rattle.ctl_laws.proofs.Ranges.{bool_within, alone_gives}
use Rattle.ctl_laws.proofs.Runs.{Good, good_then, good_more, good_held, good_word, good_chosen, good_sized}
use Rattle.ctl_laws.proofs.Shapes.{has_full, sizes_same, stated_whole, size_fits, size_range, sizes_range, whole_through, type_some, stand_at}
use Rattle.ctl_laws.proofs.Around.{formal_shape, formal_shapes, Begins, DefaultWell, DefaultsWell, constant_at, CameWell, Serves, Around, setting, Sound, callee_at}
use Rattle.ctl_laws.proofs.Places.{On, Be, whole_type, Right, RightOperand, RightStep, RightLink, RightPlace, RightArgument, PassedAs, typed_expr, ran_expr, typed_call, ran_call, fits_as, of_as, scalar_of, step_right, step_types, step_runs, steps_right, steps_well, place_right, operand_right, link_right, argument_right}

-- what is not converted is taken as it is
same_taken : (o : OperandType) → is_same o.conversion ≡ true → taken o ≡ o.value
same_taken o e = by o.conversion e where
  by : (c : Conversion) → is_same c ≡ true → as_converted c o.value ≡ o.value
  by Same e = refl
  by (Between a b) e = absurd (cc)

map_stated : (opens ns : List ℕ) → map (size_in opens) (map Stated ns) ≡ ns
map_stated opens [] = refl
map_stated opens (n ∷ ns) = ap (λ k. n ∷ k) (map_stated opens ns)

-- what a call of well typed arguments has: as many sizes as are open, in range, and arguments that suit
pub record CallWell (s : Scene) (f : Signature) (sizes : List Size) (arguments : List Passing) : Type 0 where
  pub count : length sizes ≡ f.opens
  pub stand : sizes_stand s sizes ≡ true
  pub suit : arguments_suit sizes f.formals arguments ≡ true

call_well : (s : Scene) (f : Signature) (sizes : List Size) (arguments : List Passing) → (call_type s (Some f) sizes arguments).well ≡ true → CallWell s f sizes arguments
call_well s f sizes arguments w =
    let a = both (nat_lt f.depth s.too_deep && (length sizes == f.opens && sizes_stand s sizes)) _ w in
    let b = both (nat_lt f.depth s.too_deep) _ a.0 in
    let c = both (length sizes == f.opens) _ b.1 in
    record { count = eqb-true _ _ c.0; stand = c.1; suit = a.1 }

length_map : {A B : Type 0} (f : A → B) (xs : List A) → length (map f xs) ≡ length xs
length_map f [] = refl
length_map f (x ∷ xs) = ap suc (length_map f xs)

module _ {C : Type 0} {pay : ℕ → C → C} (x : Around C pay) (h : Sound x) (scope : Variables) where
  -- what is passed for a parameter: the argument or the default is of its shape, and what comes back may be put back
  abbrev pub Sent : Whole → Option Value → Option Target → Passed → Type 0
  Sent w d t q = (v : Value) × (given_or q.value d ≡ Some v) × Of x.scene.structs w v × ((u : Value) (p : Pixel C pay) → Of x.scene.structs w u → On x h scope p → On x h scope (put_back C pay t q.path u p))

  abbrev AllSent : List ℕ → List Formal → List (Option Value) → List (Option Target) → List Passed → Type 0
  AllSent opens [] ds [] [] = Unit {0}
  AllSent opens [] ds [] (q ∷ qs) = ⊥
  AllSent opens [] ds (t ∷ ts) qs = ⊥
  AllSent opens (g ∷ formals) ds [] qs = ⊥
  AllSent opens (g ∷ formals) ds (t ∷ ts) [] = ⊥
  AllSent opens (g ∷ formals) [] (t ∷ ts) (q ∷ qs) = Sent (formal_shape opens g) None t q × AllSent opens formals [] ts qs
  AllSent opens (g ∷ formals) (d ∷ ds) (t ∷ ts) (q ∷ qs) = Sent (formal_shape opens g) d t q × AllSent opens formals ds ts qs

  abbrev targets_of : List (Pair (RightArgument x h scope)) → List (Option Target)
  targets_of args = map (λ (a : ArgumentRun C pay). a.target) (map (λ (e : Pair (RightArgument x h scope)). e.1) args)

  abbrev runs_of : List (Pair (RightArgument x h scope)) → List (Run C pay Passed)
  runs_of args = map (λ (a : ArgumentRun C pay). a.run) (map (λ (e : Pair (RightArgument x h scope)). e.1) args)

  passed_sent : (a w : Whole) (d : Option Value) (t : Option Target) (q : Passed) → a ≡ w → PassedAs x h scope t a q → Sent w d t q
  passed_sent a w d t q e m = subst (λ (w : Whole). Sent w d t q) e (m.0, ap (λ o. given_or o d) m.1, m.2, m.3)

  missing_sent : (es : List Size) (g : Formal) (d : Option Value) (t : Option Target) (q : Passed) (o : Option (List ℕ)) → g.default ≡ o → default_fits es g o ≡ true → DefaultWell x.scene.structs g d → t ≡ None → q.value ≡ None → Sent (formal_shape (map (size_in x.opens) es) g) d t q
  missing_sent es g d t q None e w f n m = absurd (cc)
  missing_sent es g d t q (Some ns) e w f n m =
      let b = both (not g.is_output) _ w in
      let v = f ns e in
      let s : whole x.opens (map (through es) g.shape.sizes) (Some g.shape.base) ≡ shape ns (Some g.shape.base) = ap (λ sizes. whole x.opens sizes (Some g.shape.base)) (sizes_same _ _ b.1) ∙ ap (λ sizes. shape sizes (Some g.shape.base)) (map_stated x.opens ns) in
      let same : shape ns (Some g.shape.base) ≡ formal_shape (map (size_in x.opens) es) g = sym s ∙ whole_through x.opens es g.shape.sizes (Some g.shape.base) in
      (v.0, ap (λ o. given_or o d) m ∙ v.1, of_as x h scope _ _ v.0 same v.2, λ u p f k. subst (λ (t : Option Target). On x h scope (put_back C pay t q.path u p)) (sym n) k)

  one_right : (es : List Size) (g : Formal) (d : Option Value) (a : Passing) (run : ArgumentRun C pay) (p : Pixel C pay) → RightArgument x h scope a run → DefaultWell x.scene.structs g d → argument_suits es g a ≡ true → On x h scope p → Good (λ q r. On x h scope r × Sent (formal_shape (map (size_in x.opens) es) g) d run.target q) (run.run p)
  one_right es g d (In t) run p right f w st =
      let b = both (not g.is_output) _ w in
      let k = has_full x.opens t (map (through es) g.shape.sizes) (Some g.shape.base) b.1 in
      good_more _ _ (run.run p) (right k.0 p st) (λ q r m. (m.0, passed_sent _ _ d run.target q (k.1 ∙ whole_through x.opens es g.shape.sizes (Some g.shape.base)) m.1))
  one_right es g d (Out t assignable) run p right f w st =
      let b = both g.is_output _ w in
      let c = both assignable _ b.1 in
      let k = has_full x.opens t (map (through es) g.shape.sizes) (Some g.shape.base) c.1 in
      good_more _ _ (run.run p) (right k.0 p st) (λ q r m. (m.0, passed_sent _ _ d run.target q (k.1 ∙ whole_through x.opens es g.shape.sizes (Some g.shape.base)) m.1))
  one_right es g d Absent run p right f w st = good_more _ _ (run.run p) (right.1 p st) (λ q r m. (m.0, missing_sent es g d run.target q g.default refl w f right.0 m.1))

  no_default : (g : Formal) → g.default ≡ None → DefaultWell x.scene.structs g None
  no_default g e ns k = absurd (none (sym e ∙ k)) where
    none : None ≡ Some ns → ⊥
    none e = cc

  arguments_right : (es : List Size) (args : List (Pair (RightArgument x h scope))) (formals : List Formal) (ds : List (Option Value)) (p : Pixel C pay) → DefaultsWell x.scene.structs formals ds → arguments_suit es formals (map (λ (e : Pair (RightArgument x h scope)). e.0) args) ≡ true → On x h scope p → Good (λ qs q. On x h scope q × AllSent (map (size_in x.opens) es) formals ds (targets_of args) qs) (listed C pay (runs_of args) p)
  arguments_right es [] [] ds p f w st = (st, tt)
  arguments_right es [] (g ∷ formals) ds p f w st = absurd (cc)
  arguments_right es (e ∷ args) [] ds p f w st = absurd (cc)
  arguments_right es (e ∷ args) (g ∷ formals) [] p f w st =
      let c = both (argument_suits es g e.0 && may_precede e.0 _) _ w in
      let b = both (argument_suits es g e.0) _ c.0 in
      good_then (λ q r. On x h scope r × Sent (formal_shape (map (size_in x.opens) es) g) None e.1.target q) _ (e.1.run p) _ (one_right es g None e.0 e.1 p e.2 (no_default g f.0) b.0 st) (λ q r k. good_then (λ qs q. On x h scope q × AllSent (map (size_in x.opens) es) formals [] (targets_of args) qs) _ (listed C pay (runs_of args) r) _ (arguments_right es args formals [] r f.1 c.1 k.0) (λ qs r m. (m.0, (k.1, m.1))))
  arguments_right es (e ∷ args) (g ∷ formals) (d ∷ ds) p f w st =
      let c = both (argument_suits es g e.0 && may_precede e.0 _) _ w in
      let b = both (argument_suits es g e.0) _ c.0 in
      good_then (λ q r. On x h scope r × Sent (formal_shape (map (size_in x.opens) es) g) d e.1.target q) _ (e.1.run p) _ (one_right es g d e.0 e.1 p e.2 f.0 b.0 st) (λ q r k. good_then (λ qs q. On x h scope q × AllSent (map (size_in x.opens) es) formals ds (targets_of args) qs) _ (listed C pay (runs_of args) r) _ (arguments_right es args formals ds r f.1 c.1 k.0) (λ qs r m. (m.0, (k.1, m.1))))

  one_fit : (opens : List ℕ) (g : Formal) (formals : List Formal) (o : Option Value) (frame : Env) (v : Value) → o ≡ Some v → Of x.scene.structs (formal_shape opens g) v → arguments_fit x.scene.structs opens (formal_shapes formals) frame ≡ true → arguments_fit x.scene.structs opens (formal_shapes (g ∷ formals)) (o ∷ frame) ≡ true
  one_fit opens g formals o frame v e f rest =
      subst (λ o. arguments_fit x.scene.structs opens (formal_shapes (g ∷ formals)) (o ∷ frame) ≡ true) (sym e) (and_true (argument_fits x.scene.structs opens g.shape v) _ (and_true (fits x.scene.structs v (formal_shape opens g).sizes (Some g.shape.base)) _ f.0 (le-leb _ _ f.1)) rest)

  or_none : (o : Option Value) → o ≡ given_or o None
  or_none None = refl
  or_none (Some v) = refl

  frame_fits : (opens : List ℕ) (formals : List Formal) (ds : List (Option Value)) (ts : List (Option Target)) (qs : List Passed) → AllSent opens formals ds ts qs → arguments_fit x.scene.structs opens (formal_shapes formals) (given ds qs) ≡ true
  frame_fits opens [] [] [] [] a = refl
  frame_fits opens [] (d ∷ ds) [] [] a = refl
  frame_fits opens [] ds [] (q ∷ qs) a = absurd a
  frame_fits opens [] ds (t ∷ ts) qs a = absurd a
  frame_fits opens (g ∷ formals) ds [] qs a = absurd a
  frame_fits opens (g ∷ formals) ds (t ∷ ts) [] a = absurd a
  frame_fits opens (g ∷ formals) [] (t ∷ ts) (q ∷ qs) a = one_fit opens g formals q.value (given [] qs) a.0.0 (or_none q.value ∙ a.0.1) a.0.2 (frame_fits opens formals [] ts qs a.1)
  frame_fits opens (g ∷ formals) (d ∷ ds) (t ∷ ts) (q ∷ qs) a = one_fit opens g formals (given_or q.value d) (given ds qs) a.0.0 a.0.1 a.0.2 (frame_fits opens formals ds ts qs a.1)

  brought_stands : (opens : List ℕ) (formals : List Formal) (ds : List (Option Value)) (ts : List (Option Target)) (qs : List Passed) (frame : Env) (p : Pixel C pay) → AllSent opens formals ds ts qs → Begins x.scene.structs opens formals frame → On x h scope p → On x h scope (brought C pay ts qs frame p)
  brought_stands opens [] ds [] qs frame p a b st = st
  brought_stands opens [] ds (t ∷ ts) qs frame p a b st = absurd a
  brought_stands opens (g ∷ formals) ds [] qs frame p a b st = absurd a
  brought_stands opens (g ∷ formals) ds (t ∷ ts) [] frame p a b st = absurd a
  brought_stands opens (g ∷ formals) ds (t ∷ ts) (q ∷ qs) [] p a b st = absurd b
  brought_stands opens (g ∷ formals) ds (t ∷ ts) (q ∷ qs) (None ∷ frame) p a b st = absurd b
  brought_stands opens (g ∷ formals) [] (t ∷ ts) (q ∷ qs) (Some v ∷ frame) p a b st = brought_stands opens formals [] ts qs frame (put_back C pay t q.path v p) a.1 b.1 (a.0.3 v p b.0 st)
  brought_stands opens (g ∷ formals) (d ∷ ds) (t ∷ ts) (q ∷ qs) (Some v ∷ frame) p a b st = brought_stands opens formals ds ts qs frame (put_back C pay t q.path v p) a.1 b.1 (a.0.3 v p b.0 st)

  came_right : (es : List Size) (g : Signature) (ds : List (Option Value)) (ts : List (Option Target)) (qs : List Passed) (p : Pixel C pay) (o : Result (Came C pay) Fault) → AllSent (map (size_in x.opens) es) g.formals ds ts qs → On x h scope p → CameWell x.scene.structs (map (size_in x.opens) es) g o → Good (Be x h scope (whole x.opens (map (through es) g.result.sizes) g.result.base)) (came_to C pay ts qs p.env o)
  came_right es g ds ts qs p (Ok came) a st c = (brought_stands (map (size_in x.opens) es) g.formals ds ts qs came.frame (record { env = p.env; turns = came.turns; spent = came.spent }) a c.1 st, of_as x h scope _ _ came.value (sym (whole_through x.opens es g.result.sizes g.result.base)) c.0)
  came_right es g ds ts qs p (Err (Trapped kind node)) a st c = tt
  came_right es g ds ts qs p (Err Wrong) a st c = absurd c

  called_right : (es : List Size) (g : Signature) (r : Called C pay) (ts : List (Option Target)) (qs : List Passed) (p : Pixel C pay) → Serves x.scene.structs g r → length es ≡ g.opens → sizes_stand x.scene es ≡ true → AllSent (map (size_in x.opens) es) g.formals r.defaults ts qs → On x h scope p → Good (Be x h scope (whole x.opens (map (through es) g.result.sizes) g.result.base)) (called C pay (map (size_in x.opens) es) ts qs r p)
  called_right es g r ts qs p s n w a st =
      came_right es g r.defaults ts qs p _ a st (s.run (map (size_in x.opens) es) (given r.defaults qs) p.turns _ (length_map (size_in x.opens) es ∙ n) (sizes_range x.scene x.opens es h.opens h.sizes w) (frame_fits (map (size_in x.opens) es) g.formals r.defaults ts qs a))

  evaluated_right : (w : Whole) (run : Run C pay Value) (p : Pixel C pay) → Good (Be x h scope w) (run p) → Good (Be x h scope w) (evaluated C pay run p)
  evaluated_right w run p g = good_then (Be x h scope w) (Be x h scope w) (run p) _ g (λ v q k. k)

  call_cases : (es : List Size) (args : List (Pair (RightArgument x h scope))) (c : Callee) (node : Node) (o : Option Signature) (p : Pixel C pay) → signature_in x.scene c ≡ o → (call_type x.scene o es (map (λ (e : Pair (RightArgument x h scope)). e.0) args)).well ≡ true → On x h scope p → Good (Be x h scope (whole_type x h scope (call_type x.scene o es (map (λ (e : Pair (RightArgument x h scope)). e.0) args)))) (go_on C pay (listed C pay (runs_of args) p) (λ qs. held C pay (callee_of C pay (setting x) c node) (called C pay (map (size_in x.opens) es) (targets_of args) qs)))
  call_cases es args c node None p e w st = absurd (cc)
  call_cases es args c node (Some g) p e w st =
      let cw = call_well x.scene g es (map (λ (e : Pair (RightArgument x h scope)). e.0) args) w in
      let r = callee_at x h c node g e in
      good_then (λ qs q. On x h scope q × AllSent (map (size_in x.opens) es) g.formals r.0.defaults (targets_of args) qs) _ (listed C pay (runs_of args) p) _ (arguments_right es args g.formals r.0.defaults p r.2.defaults cw.suit st) (λ qs q k. good_held _ (callee_of C pay (setting x) c node) (called C pay (map (size_in x.opens) es) (targets_of args) qs) q r.0 r.1 (called_right es g r.0 (targets_of args) qs q r.2 cw.count cw.stand k.1 k.0))

  pub call_right : (y : TypedCall-F (Pair (RightArgument x h scope)) (Pair (Right x h scope)) (Pair (RightStep x h scope)) (Pair (RightOperand x h scope)) (Pair (Right x h scope)) (Pair (RightLink x h scope)) (Pair (RightPlace x h scope))) → Right x h scope (type_call x.scene scope (typed_call x h scope y)) (call_step C pay (setting x) (ran_call x h scope y))
  call_right y p st w = evaluated_right (whole_type x h scope (type_call x.scene scope (typed_call x h scope y))) (λ p. go_on C pay (listed C pay (runs_of y.arguments) p) (λ qs. held C pay (callee_of C pay (setting x) y.callee y.node) (called C pay (map (size_in x.opens) y.sizes) (targets_of y.arguments) qs))) p (call_cases y.sizes y.arguments y.callee y.node (signature_in x.scene y.callee) p refl (both (node_stands x.scene y.node) _ w).1 st)

  -- ---- expressions

  linked_right : (links : List (Pair (RightLink x h scope))) (t : Typed) (v : Value) (p : Pixel C pay) → (links_type (map (λ (e : Pair (RightLink x h scope)). e.0) links) t).well ≡ true → Of x.scene.structs (whole_type x h scope t) v → On x h scope p → Good (Be x h scope (whole_type x h scope (links_type (map (λ (e : Pair (RightLink x h scope)). e.0) links) t))) (linked C pay (map (λ (e : Pair (RightLink x h scope)). e.1) links) v p)
  linked_right [] t v p w f st = (st, f)
  linked_right (l ∷ links) t v p w f st =
      let c = l.2 t (links_well links (l.0 t) w) in
      good_then (Be x h scope (whole_type x h scope (l.0 t))) _ (l.1 v p) _ (c.1 v p f st) (λ u q g. linked_right links (l.0 t) u q w g.1 g.0) where
        links_well : (links : List (Pair (RightLink x h scope))) (t : Typed) → (links_type (map (λ (e : Pair (RightLink x h scope)). e.0) links) t).well ≡ true → t.well ≡ true
        links_well [] t w = w
        links_well (l ∷ links) t w = (l.2 t (links_well links (l.0 t) w)).0

  first_well : (links : List (Pair (RightLink x h scope))) (t : Typed) → (links_type (map (λ (e : Pair (RightLink x h scope)). e.0) links) t).well ≡ true → t.well ≡ true
  first_well [] t w = w
  first_well (l ∷ links) t w = (l.2 t (first_well links (l.0 t) w)).0

  truth_of : (b : Bool) → Of x.scene.structs (shape [] (Some (Scalar kind.Bool))) (one (scalar_form.Bool b))
  truth_of b = (one_fits x.scene.structs (scalar_form.Bool b) kind.Bool refl (bool_within b), let n = scalars_one (scalar_form.Bool b) in omega arith)

  decided_right : (t : Bool) (os : List (Pair (RightOperand x h scope))) (p : Pixel C pay) → all_scalars kind.Bool (map taken (map (λ (e : Pair (RightOperand x h scope)). e.0) os)) ≡ true → On x h scope p → Good (Be x h scope (shape [] (Some (Scalar kind.Bool)))) (decided C pay t (map (λ (e : Pair (RightOperand x h scope)). e.1) os) p)
  decided_right t [] p w st = (st, truth_of (not t))
  decided_right true (o ∷ os) p w st =
      let b = both (is_scalar kind.Bool (taken o.0)) _ w in
      let k = has_full x.opens (taken o.0) [] (Some (Scalar kind.Bool)) b.0 in
      good_then (Be x h scope (whole_type x h scope (taken o.0))) _ (o.1 p) _ (o.2 p st k.0) (λ v q g. good_chosen x.scene.structs _ (give C pay (one (scalar_form.Bool true))) (decided C pay true (map (λ (e : Pair (RightOperand x h scope)). e.1) os)) v q (fits_as x h scope _ _ v k.1 g.1.0) (g.0, truth_of true) (decided_right true os q b.1 g.0))
  decided_right false (o ∷ os) p w st =
      let b = both (is_scalar kind.Bool (taken o.0)) _ w in
      let k = has_full x.opens (taken o.0) [] (Some (Scalar kind.Bool)) b.0 in
      good_then (Be x h scope (whole_type x h scope (taken o.0))) _ (o.1 p) _ (o.2 p st k.0) (λ v q g. good_chosen x.scene.structs _ (decided C pay false (map (λ (e : Pair (RightOperand x h scope)). e.1) os)) (give C pay (one (scalar_form.Bool false))) v q (fits_as x h scope _ _ v k.1 g.1.0) (decided_right false os q b.1 g.0) (g.0, truth_of false))

  alone_right : (op : UnaryOperator) (k : ScalarKind) (o : Pair (RightOperand x h scope)) (p : Pixel C pay) → (unary_type op k o.0).well ≡ true → On x h scope p → Good (Be x h scope (shape [] (Some (Scalar k)))) (go_on C pay (o.1 p) (word C pay k (λ a. give_scalar C pay k (operate_alone FRACTION op k a))))
  alone_right op k o p w st =
      let a = both (works_alone op k && is_kind_alone op k o.0.value.base) _ w in
      let b = both (works_alone op k) _ a.0 in
      let f = has_full x.opens (taken o.0) [] (Some (Scalar k)) a.1 in
      good_then (Be x h scope (whole_type x h scope (taken o.0))) _ (o.1 p) _ (o.2 p st f.0) (λ v q g. good_word x.scene.structs _ k _ v q (fits_as x h scope _ _ v f.1 g.1.0) (λ n r.
      let z = alone_gives h.numbers op k n b.0 r in
      good_held _ (operate_alone FRACTION op k n) (λ z. give C pay (one (scalar k z))) q z.0 z.1 (g.0, scalar_of x h scope k z.0 z.2)))

  constant_right : (n : ℕ) (o : Option Shape) (p : Pixel C pay) → slice_get x.scene.constants n ≡ o → (constant_type o).well ≡ true → On x h scope p → Good (Be x h scope (whole_type x h scope (constant_type o))) (held C pay (slice_get x.constants n) (give C pay) p)
  constant_right n None p e w st = absurd (cc)
  constant_right n (Some m) p e w st =
      let v = constant_at x.scene.structs x.scene.constants x.constants n m h.constants e in
      good_held _ (slice_get x.constants n) (give C pay) p v.0 v.1 (st, of_as x h scope _ _ v.0 (sym (stated_whole x.opens m v.2)) v.3)

  pub expr_right : (y : TypedExpr-F (Pair (RightArgument x h scope)) (Pair (Right x h scope)) (Pair (RightStep x h scope)) (Pair (RightOperand x h scope)) (Pair (Right x h scope)) (Pair (RightLink x h scope)) (Pair (RightPlace x h scope))) → Right x h scope (type_form x.scene scope (typed_expr x h scope y)) (expr_step C pay (setting x) (ran_expr x h scope y))
  expr_right (form.Literal s) p st w = (st, (one_fits x.scene.structs s (kind_of s) refl w, let n = scalars_one s in omega arith))
  expr_right (form.Constant n) p st w = evaluated_right (whole_type x h scope (constant_type (slice_get x.scene.constants n))) (held C pay (slice_get x.constants n) (give C pay)) p (constant_right n (slice_get x.scene.constants n) p refl w st)
  expr_right (form.Variable n) p st w =
      let v = type_some (slice_get scope n) w in
      let u = stand_at x.scene.structs x.opens scope p.env n v.0 st v.1 in
      evaluated_right (whole_type x h scope (variable_type (slice_get scope n))) (λ p. held C pay (var_of p.env n) (give C pay) p) p (good_held (Be x h scope (whole_type x h scope (variable_type (slice_get scope n)))) (var_of p.env n) (give C pay) p u.0 u.1 (st, of_as x h scope _ _ u.0 (ap (λ o. whole_type x h scope (variable_type o)) (sym v.1)) u.2))
  expr_right (form.Unary op k o) p st w = evaluated_right (shape [] (Some (Scalar k))) (λ p. go_on C pay (o.1 p) (word C pay k (λ a. give_scalar C pay k (operate_alone FRACTION op k a)))) p (alone_right op k o p w st)
  expr_right (form.Chain o links) p st w =
      let b = both (is_same o.0.conversion && nat_lt 0 (length (map (λ (e : Pair (RightLink x h scope)). e.0) links))) _ w in
      let e = same_taken o.0 (both (is_same o.0.conversion) _ b.0).0 in
      let y = whole_type x h scope (links_type (map (λ (e : Pair (RightLink x h scope)). e.0) links) o.0.value) in
      let rest = linked C pay (map (λ (e : Pair (RightLink x h scope)). e.1) links) in
      evaluated_right y (λ p. go_on C pay (o.1 p) rest) p (good_then (Be x h scope (whole_type x h scope (taken o.0))) (Be x h scope y) (o.1 p) rest (o.2 p st (subst (λ (t : Typed). t.well ≡ true) (sym e) (first_well links o.0.value b.1))) (λ v q g. linked_right links o.0.value v q b.1 (of_as x h scope _ _ v (ap (λ t. whole_type x h scope t) e) g.1) g.0))
  expr_right (form.Logic l os) p st w = evaluated_right (shape [] (Some (Scalar kind.Bool))) (decided C pay (decider l) (map (λ (e : Pair (RightOperand x h scope)). e.1) os)) p (decided_right (decider l) os p (both (nat_lt 1 (length (map taken (map (λ (e : Pair (RightOperand x h scope)). e.0) os)))) _ w).1 st)
  expr_right (form.Path e steps) p st u =
      let w = (both (nat_lt 0 (length (step_types x h scope steps))) _ u).1 in
      let y = whole_type x h scope (steps_type (step_types x h scope steps) e.0) in
      let rest = steps_run C pay (step_runs x h scope steps) in
      (good_then (Be x h scope (whole_type x h scope e.0)) (Be x h scope y) (e.1 p) rest (e.2 p st (steps_well x h scope steps e.0 w)) (λ v q g. steps_right x h scope steps e.0 v q g.0 w g.1))
  expr_right (form.Size e size) p st w =
      let b = both (e.0.well && first_is size e.0.sizes) _ w in
      let c = both e.0.well _ b.0 in
      let l = (size_fits x.scene x.opens size h.opens h.sizes b.1).1 in
      evaluated_right (shape [] (Some (Scalar kind.Int))) (λ p. go_on C pay (e.1 p) (λ v. sized C pay (size_in x.opens size))) p (good_then (Be x h scope (whole_type x h scope e.0)) (Be x h scope (shape [] (Some (Scalar kind.Int)))) (e.1 p) _ (e.2 p st c.0) (λ v q g. good_sized (Be x h scope (shape [] (Some (Scalar kind.Int)))) (size_in x.opens size) q (omega arith) (g.0, scalar_of x h scope kind.Int (pos (size_in x.opens size)) (size_range x.scene x.opens size h.opens h.sizes b.1))))
  expr_right (form.Call c) p st w = c.2 p st w

  all_right : KeepsExprs (RightArgument x h scope) (Right x h scope) (RightStep x h scope) (RightOperand x h scope) (Right x h scope) (RightLink x h scope) (RightPlace x h scope) (type_fold x.scene scope) (run_fold C pay (setting x))
  all_right = record {
    argument = argument_right x h scope;
    expr = expr_right;
    step = step_right x h scope;
    operand = λ y. operand_right x h scope y.conversion y.value;
    call = call_right;
    link = link_right x h scope;
    place = λ y w p st. place_right x h scope y.variable y.steps p st w;
  }

  pub expr_well : (e : TypedExpr) → Right x h scope (expr_type x.scene scope e) (run_expr C pay (setting x) e)
  expr_well e = expr_pair _ _ _ _ _ _ _ (type_fold x.scene scope) (run_fold C pay (setting x)) all_right e

  pub operand_well : (e : Operand) → Right x h scope (operand_type x.scene scope e) (run_operand C pay (setting x) e)
  operand_well e = operand_pair _ _ _ _ _ _ _ (type_fold x.scene scope) (run_fold C pay (setting x)) all_right e

  pub call_form_well : (e : TypedCall) → Right x h scope (call_form_type x.scene scope e) (run_call C pay (setting x) e)
  call_form_well e = call_pair _ _ _ _ _ _ _ (type_fold x.scene scope) (run_fold C pay (setting x)) all_right e

  pub place_well : (e : TypedPlace) → RightPlace x h scope (place_type x.scene scope e) (run_place C pay (setting x) e)
  place_well e = place_pair _ _ _ _ _ _ _ (type_fold x.scene scope) (run_fold C pay (setting x)) all_right e
