-- A well typed statement is never wrong, and the variables keep their shapes.
use Rattle.std.proofs.Common.{◌≡◌, ℕ, zero, suc, List, [], ◌∷◌, map, Option, Some, None, Err, Bool, true, false, not, ◌&&◌, ◌||◌, ◌==◌, is_some, refl, sym, subst, ◌∙◌, arith, slice_get, slice_set, nat_lt, length}
use Rattle.ctl_base.specs.declared.kind.Node.{Node}
use Rattle.ctl_base.specs.declared.kind.ScalarKind.TheVariants as kind
use Rattle.ctl_types.specs.declared.shape.Base.TheVariants.{Scalar}
use Rattle.ctl_types.specs.declared.shape.LocalShape.{LocalShape}
use Rattle.ctl_types.specs.declared.value.Value.{Value}
use Rattle.ctl_types.specs.declared.expression.Operand.{Operand}
use Rattle.ctl_types.specs.declared.statement.Declaration.{Declaration}
use Rattle.ctl_types.specs.declared.statement.Assignment.{Assignment}
use Rattle.ctl_types.specs.declared.statement.ForStart.{ForStart}
use Rattle.ctl_types.specs.declared.statement.ForStart.TheVariants as start
use Rattle.ctl_types.specs.declared.statement.PrintItem.{PrintItem}
use Rattle.ctl_types.specs.declared.statement.PrintItem.TheVariants as item
use Rattle.ctl_types.specs.declared.statement.TypedStatement.{TypedStatement}
use Rattle.ctl_types.specs.declared.statement.TypedStatement.TheOpen.{Empty, Block, Declare, Assign, Call, If, While, For, Return, Print}
use Rattle.ctl_types.specs.Shapes.{Whole, whole, size_in}
use Rattle.ctl_types.specs.Values.{Env, nothing, Fits, fits, alike}
use Rattle.ctl_types.specs.Typing.{Typed, has, is_scalar, shape_stands, node_stands, Variables, Variable, expr_type, operand_type, call_form_type, place_type}
use Rattle.ctl_types.specs.Scoping.{Scope, Scoping, simple, own_scope, scope_all, scope_arms, tested, looped, is_free, may_declare, begins_well, scope_declaration, scope_assignment, scope_start, item_type, scope_items, left_type, scope_arm, scope_step, scope_statement}
use Rattle.ctl_types.specs.Run.{Wrong, Pixel, Run, give, go_on, chosen, visited, End, Normal, Left, leave, unless_left, sequence, ArmRun, arms_run, take_turn, rounds, loop_run, replaced, store, found, first_value, declared, run_operand, run_place, run_expr, run_call, run_declaration, run_assignment, run_start, run_item, run_items, left_value, arm_step, statement_step, run_statement}
use Rattle.ctl_types.specs.Pairs.{Pair, KeepsStatement, KeepsArm, statement_pair}
use Rattle.ctl_laws.specs.Sound.{Of, Holds, Stands}
use Rattle.ctl_laws.proofs.Values.{both, shape, nothing_fits, scalars_nothing, fits_alike}
use Rattle.ctl_laws.proofs.Runs.{Good, good_then, good_more, good_held, good_if, good_chosen}
use Rattle.ctl_laws.proofs.Shapes.{full, has_full, stand_declared}
use Rattle.ctl_laws.proofs.Around.{Around, setting, Sound}
use Rattle.ctl_laws.proofs.Places.{Be, whole_type, IsPlace, fits_as, of_as, place_at, place_stored}
use Rattle.ctl_laws.proofs.Calls.{expr_well, operand_well, call_form_well, place_well}
use Rattle.ctl_laws.proofs.Initialisers.{first_right}

-- what is declared stays declared, with its shape
abbrev pub Under : Variables → Variables → Type 0
Under [] [] = Unit {0}
Under [] (h ∷ b) = ⊥
Under (g ∷ a) [] = ⊥
Under (None ∷ a) (h ∷ b) = Under a b
Under (Some g ∷ a) (h ∷ b) = (h ≡ Some g) × Under a b

pub under_same : (a : Variables) → Under a a
under_same [] = tt
under_same (None ∷ a) = under_same a
under_same (Some g ∷ a) = (refl, under_same a)

under_then : (a b c : Variables) → Under a b → Under b c → Under a c
under_then [] [] c h k = k
under_then [] (g ∷ b) c h k = absurd h
under_then (g ∷ a) [] c h k = absurd (none g a h) where
  none : (i : Option Variable) (b : Variables) → Under (i ∷ b) [] → ⊥
  none None b k = k
  none (Some i) b k = k
under_then (g ∷ a) (i ∷ b) [] h k = absurd (none i b k) where
  none : (i : Option Variable) (b : Variables) → Under (i ∷ b) [] → ⊥
  none None b k = k
  none (Some i) b k = k
under_then (None ∷ a) (None ∷ b) (j ∷ c) h k = under_then a b c h k
under_then (None ∷ a) (Some i ∷ b) (j ∷ c) h k = under_then a b c h k.1
under_then (Some g ∷ a) (None ∷ b) (j ∷ c) h k = let e = h.0 in absurd (cc)
under_then (Some g ∷ a) (Some i ∷ b) (j ∷ c) h k = (k.0 ∙ h.0, under_then a b c h.1 k.1)

under_set : (a : Variables) (x : ℕ) (h : Variable) → is_free (slice_get a x) ≡ true → Under a (slice_set a x (Some h))
under_set [] x h e = tt
under_set (None ∷ a) zero h e = under_same a
under_set (Some g ∷ a) zero h e = absurd (cc)
under_set (None ∷ a) (suc x) h e = under_set a x h e
under_set (Some g ∷ a) (suc x) h e = (refl, under_set a x h e)

under_equal : (a b : Variables) → b ≡ a → Under a b
under_equal a b e = subst (λ (b : Variables). Under a b) (sym e) (under_same a)

or_false : (a b : Bool) → a ≡ false → b ≡ false → (a || b) ≡ false
or_false false b h k = k
or_false true b h k = absurd (cc)

and_false : (a b : Bool) → a ≡ false → (a && b) ≡ false
and_false false b h = refl
and_false true b h = absurd (cc)

and_false_right : (a b : Bool) → b ≡ false → (a && b) ≡ false
and_false_right false b h = refl
and_false_right true b h = h

module _ {C : Type 0} {pay : ℕ → C → C} (x : Around C pay) where
  abbrev pub Stand : Variables → Env → Type 0
  Stand scope env = Stands x.scene.structs x.opens scope env

  pub stands_under : (a b : Variables) (env : Env) → Under a b → Stand b env → Stand a env
  stands_under [] [] env u t = t
  stands_under [] (h ∷ b) env u t = absurd u
  stands_under (g ∷ a) [] env u t = absurd (none g a u) where
    none : (i : Option Variable) (b : Variables) → Under (i ∷ b) [] → ⊥
    none None b k = k
    none (Some i) b k = k
  stands_under (g ∷ a) (h ∷ b) [] u t = absurd t
  stands_under (None ∷ a) (h ∷ b) (o ∷ env) u t = (tt, stands_under a b env u t.1)
  stands_under (Some g ∷ a) (h ∷ b) (o ∷ env) u t = (subst (λ (h : Option Variable). Holds x.scene.structs x.opens h o) u.0 t.0, stands_under a b env u.1 t.1)

module _ {C : Type 0} {pay : ℕ → C → C} (x : Around C pay) (h : Sound x) (result : Typed) where
  abbrev pub result_shape : Whole
  result_shape = full x.opens result

  -- where it ends, and what then is known: from these variables, whether it surely returns, and the variables after it
  abbrev pub Ends : Variables → Bool → Variables → End → Pixel C pay → Type 0
  Ends scope returns after Normal p = (returns ≡ false) × Stand x after p.env
  Ends scope returns after (Left v) p = Stand x scope p.env × Of x.scene.structs result_shape v

  abbrev pub RightStatement : Scoping → Run C pay End → Type 0
  RightStatement sc run = (scope : Scope) → (sc scope).well ≡ true → Under scope.variables (sc scope).after.variables × ((p : Pixel C pay) → Stand x scope.variables p.env → Good (Ends scope.variables (sc scope).returns (sc scope).after.variables) (run p))

  -- of the same variables after it
  abbrev pub RightClosed : Scoping → Run C pay End → Type 0
  RightClosed sc run = (scope : Scope) → (sc scope).well ≡ true → ((sc scope).after.variables ≡ scope.variables) × ((p : Pixel C pay) → Stand x scope.variables p.env → Good (Ends scope.variables (sc scope).returns scope.variables) (run p))

  -- an arm goes on with what stands behind it
  abbrev pub RightArm : Scoping → ArmRun C pay → Type 0
  RightArm sc run = (scope : Scope) → (sc scope).well ≡ true → ((sc scope).after.variables ≡ scope.variables) × ((out : Bool) (otherwise : Run C pay End) (p : Pixel C pay) → Stand x scope.variables p.env → ((sc scope).returns ≡ false → out ≡ false) → ((q : Pixel C pay) → Stand x scope.variables q.env → Good (Ends scope.variables out scope.variables) (otherwise q)) → Good (Ends scope.variables out scope.variables) (run otherwise p))

  opened : (sc : Scoping) (run : Run C pay End) → RightClosed sc run → RightStatement sc run
  opened sc run r scope w =
      let c = r scope w in
      (under_equal scope.variables (sc scope).after.variables c.0, λ p st. subst (λ (after : Variables). Good (Ends scope.variables (sc scope).returns after) (run p)) (sym c.0) (c.1 p st))

  -- the end of a scope of its own
  outer : (scope after : Variables) (a b : Bool) (end : End) (p : Pixel C pay) → Under scope after → (a ≡ false → b ≡ false) → Ends scope a after end p → Ends scope b scope end p
  outer scope after a b Normal p u r g = (r g.0, stands_under x scope after p.env u g.1)
  outer scope after a b (Left v) p u r g = g

  closed_right : (a : Pair RightStatement) → RightClosed (own_scope a.0) a.1
  closed_right a scope w =
      let r = a.2 scope w in
      (refl, λ p st. good_more (Ends scope.variables (a.0 scope).returns (a.0 scope).after.variables) _ (a.1 p) (r.1 p st) (λ end q g. outer scope.variables (a.0 scope).after.variables (a.0 scope).returns (a.0 scope).returns end q r.0 (λ e. e) g))

  -- a visit
  visited_right : (Q : End → Pixel C pay → Type 0) (run : Run C pay End) (p : Pixel C pay) → ((end : End) (q : Pixel C pay) (n : C) → Q end q → Q end (record { env = q.env; turns = q.turns; spent = n })) → Good Q (run p) → Good Q (visited C pay run p)
  visited_right Q run p keeps g = good_then Q Q (run p) _ g (λ end q k. keeps end q _ k)

  ends_keep : (scope : Variables) (r : Bool) (after : Variables) (end : End) (q : Pixel C pay) (n : C) → Ends scope r after end q → Ends scope r after end (record { env = q.env; turns = q.turns; spent = n })
  ends_keep scope r after Normal q n g = g
  ends_keep scope r after (Left v) q n g = g

  visit : (scope : Variables) (r : Bool) (after : Variables) (run : Run C pay End) (p : Pixel C pay) → Good (Ends scope r after) (run p) → Good (Ends scope r after) (visited C pay run p)
  visit scope r after run p g = visited_right (Ends scope r after) run p (ends_keep scope r after) g

  -- one after the other
  next_right : (scope mid after : Variables) (a b : Bool) (end : End) (q : Pixel C pay) (run : Run C pay End) → Under scope mid → ((p : Pixel C pay) → Stand x mid p.env → Good (Ends mid b after) (run p)) → Ends scope a mid end q → Good (Ends scope (a || b) after) (unless_left C pay end run q)
  next_right scope mid after a b Normal q run u r g = good_more (Ends mid b after) _ (run q) (r q g.1) (λ end p k. last end p k) where
    last : (end : End) (p : Pixel C pay) → Ends mid b after end p → Ends scope (a || b) after end p
    last Normal p k = (or_false a b g.0 k.0, k.1)
    last (Left v) p k = (stands_under x scope mid p.env u k.0, k.1)
  next_right scope mid after a b (Left v) q run u r g = g

  abbrev scopings : List (Pair RightStatement) → List Scoping
  scopings = map (λ (e : Pair RightStatement). e.0)

  abbrev sequence_of : List (Pair RightStatement) → Run C pay End
  sequence_of ss = sequence C pay (map (λ (e : Pair RightStatement). e.1) ss)

  sequence_right : (ss : List (Pair RightStatement)) → RightStatement (scope_all (scopings ss)) (sequence_of ss)
  sequence_right [] scope w = (under_same scope.variables, λ p st. (refl, st))
  sequence_right (s ∷ ss) scope w =
      let mid = (s.0 scope).after in
      let b = both (s.0 scope).well _ w in
      let r = s.2 scope b.0 in
      let i = sequence_right ss mid b.1 in
      (under_then scope.variables mid.variables _ r.0 i.0, λ p st. good_then (Ends scope.variables (s.0 scope).returns mid.variables) _ (s.1 p) (λ end. unless_left C pay end (sequence_of ss)) (r.1 p st) (λ end q g. next_right scope.variables mid.variables (scope_all (scopings ss) mid).after.variables (s.0 scope).returns (scope_all (scopings ss) mid).returns end q (sequence_of ss) r.0 i.1 g))

  -- ---- tests and loops

  test_right : (S : End → Pixel C pay → Type 0) (scope : Variables) (o : Operand) (p : Pixel C pay) (a b : Run C pay End) → Stand x scope p.env → is_scalar kind.Bool (operand_type x.scene scope o) ≡ true → ((q : Pixel C pay) → Stand x scope q.env → Good S (a q)) → ((q : Pixel C pay) → Stand x scope q.env → Good S (b q)) → Good S (go_on C pay (run_operand C pay (setting x) o p) (chosen C pay a b))
  test_right S scope o p a b st w f g =
      let k = has_full x.opens (operand_type x.scene scope o) [] (Some (Scalar kind.Bool)) w in
      good_then (Be x h scope (whole_type x h scope (operand_type x.scene scope o))) S (run_operand C pay (setting x) o p) (chosen C pay a b) (operand_well x h scope o p st k.0) (λ v q m. good_chosen x.scene.structs S a b v q (fits_as x h scope _ _ v k.1 m.1.0) (f q m.0) (g q m.0))

  turn_right : (S : End → Pixel C pay → Type 0) (node : Node) (turns : ℕ) (next : Run C pay End) (env : Env) (spent : C) → ((turns : ℕ) → Good S (next (record { env = env; turns = turns; spent = spent }))) → Good S (take_turn C pay node turns next env spent)
  turn_right S node zero next env spent g = tt
  turn_right S node (suc turns) next env spent g = g turns

  again_right : (scope : Variables) (r : Bool) (run : Run C pay End) (end : End) (q : Pixel C pay) → Ends scope r scope end q → ((q : Pixel C pay) → Stand x scope q.env → Good (Ends scope false scope) (run q)) → Good (Ends scope false scope) (unless_left C pay end run q)
  again_right scope r run Normal q g f = f q g.1
  again_right scope r run (Left v) q g f = g

  rounds_right : (n : ℕ) (node : Node) (scope : Variables) (r : Bool) (o : Operand) (body : Run C pay End) (p : Pixel C pay) → is_scalar kind.Bool (operand_type x.scene scope o) ≡ true → ((p : Pixel C pay) → Stand x scope p.env → Good (Ends scope r scope) (body p)) → Stand x scope p.env → Good (Ends scope false scope) (rounds C pay n node (run_operand C pay (setting x) o) body p)
  rounds_right zero node scope r o body p w b st = (refl, st)
  rounds_right (suc n) node scope r o body p w b st = test_right (Ends scope false scope) scope o p _ (give C pay Normal) st w (λ q st. turn_right (Ends scope false scope) node q.turns _ q.env q.spent (λ turns. good_then (Ends scope r scope) (Ends scope false scope) (body (record { env = q.env; turns = turns; spent = q.spent })) _ (b (record { env = q.env; turns = turns; spent = q.spent }) st) (λ end t g. again_right scope r (rounds C pay n node (run_operand C pay (setting x) o) body) end t g (λ t st. rounds_right n node scope r o body t w b st)))) (λ q st. (refl, st))

  loop_right : (o : Operand) (body : Pair RightClosed) (stands : Bool) (node : Node) → RightClosed (λ scope. looped (tested (operand_type x.scene scope.variables o) stands body.0) scope) (loop_run C pay node (run_operand C pay (setting x) o) body.1)
  loop_right o body stands node scope w =
      let a = both (is_scalar kind.Bool (operand_type x.scene scope.variables o) && stands) _ w in
      let b = both (is_scalar kind.Bool (operand_type x.scene scope.variables o)) _ a.0 in
      let r = body.2 scope a.1 in
      (r.0, λ p st. rounds_right (suc p.turns) node scope.variables (body.0 scope).returns o body.1 p b.0 r.1 st)

  -- ---- simple statements

  declared_right : (n : ℕ) (s : LocalShape) (v : Variable) (scope : Variables) (u : Value) (p : Pixel C pay) → v.shape ≡ s → Stand x scope p.env → is_free (slice_get scope n) ≡ true → Of x.scene.structs (whole x.opens s.sizes (Some s.base)) u → Good (Ends scope false (slice_set scope n (Some v))) (declared C pay (setting x) n s u p)
  declared_right n s v scope u p e st f g = good_if (Ends scope false (slice_set scope n (Some v))) (fits x.scene.structs u (map (size_in x.opens) s.sizes) (Some s.base)) _ (Err Wrong) g.0 (refl, stand_declared x.scene.structs x.opens scope p.env n v u st f (subst (λ (s : LocalShape). Of x.scene.structs (whole x.opens s.sizes (Some s.base)) u) (sym e) g))

  declaration_right : (d : Declaration) → RightStatement (scope_declaration x.scene result d) (run_declaration C pay (setting x) d)
  declaration_right d scope w =
      let a = both (may_declare scope d.variable && begins_well d) _ w in
      let free = (both (is_free (slice_get scope.variables d.variable)) _ (both (may_declare scope d.variable) _ a.0).0).0 in
      let b = both (shape_stands x.scene d.shape) _ a.1 in
      (under_set scope.variables d.variable _ free, λ p st. good_then (λ v q. Stand x scope.variables q.env × Of x.scene.structs (whole x.opens d.shape.sizes (Some d.shape.base)) v) _ (first_value C pay (setting x) d.shape d.first p) (declared C pay (setting x) d.variable d.shape) (first_right x h scope.variables result d.shape d.first p st b.0 b.1) (λ v q g. declared_right d.variable d.shape (record { shape = d.shape; is_assignable = not d.is_constant }) scope.variables v q refl g.0 free g.1))

  replaced_right : (scope : Variables) (n : ℕ) (path : List ℕ) (w : Whole) (old v : Value) (p : Pixel C pay) → Stand x scope p.env → IsPlace x h scope n w path → Fits x.scene.structs w old → Of x.scene.structs w v → Good (Ends scope false scope) (replaced C pay n path v old p)
  replaced_right scope n path w old v p st i f g = good_if (Ends scope false scope) (alike old v) _ (Err Wrong) (fits_alike x.scene.structs w old v f g.0) (refl, place_stored x h scope n path w p.env v i st g.0)

  assignment_right : (a : Assignment) → RightStatement (scope_assignment x.scene result a) (run_assignment C pay (setting x) a)
  assignment_right a scope w =
      let t = place_type x.scene scope.variables a.place in
      let b = both (t.is_assignable && t.type.well) _ w in
      let c = both t.is_assignable _ b.0 in
      let d = both (has (operand_type x.scene scope.variables a.value) t.type.sizes t.type.base) _ b.1 in
      let k = has_full x.opens (operand_type x.scene scope.variables a.value) t.type.sizes t.type.base d.0 in
      let n = (run_place C pay (setting x) a.place).variable in (
        under_same scope.variables,
        λ p st. good_then (λ path p. Stand x scope.variables p.env × IsPlace x h scope.variables n (whole_type x h scope.variables t.type) path) (Ends scope.variables false scope.variables) ((run_place C pay (setting x) a.place).path p) (λ path p. go_on C pay (run_operand C pay (setting x) a.value p) (store C pay n path)) (place_well x h scope.variables a.place c.1 p st) (λ path q g. good_then (Be x h scope.variables (whole_type x h scope.variables (operand_type x.scene scope.variables a.value))) (Ends scope.variables false scope.variables) (run_operand C pay (setting x) a.value q) (store C pay n path) (operand_well x h scope.variables a.value q g.0 k.0) (λ v r m.
            let o = place_at x h scope.variables n path (whole_type x h scope.variables t.type) r.env g.1 m.0 in
            good_held (Ends scope.variables false scope.variables) (found C pay n path r.env) (replaced C pay n path v) r o.0 o.1 (replaced_right scope.variables n path (whole_type x h scope.variables t.type) o.0 v r m.0 g.1 o.2.0 (of_as x h scope.variables _ _ v k.1 m.1)))),
      )

  start_right : (s : ForStart) → RightStatement (scope_start x.scene result s) (run_start C pay (setting x) s)
  start_right (start.Declare d) scope w = declaration_right d scope (both (not d.is_constant) _ w).1
  start_right (start.Assign a) scope w = assignment_right a scope w

  item_right : (i : PrintItem) (scope : Variables) (p : Pixel C pay) → (item_type x.scene result scope i).well ≡ true → Stand x scope p.env → Good (λ end q. Stand x scope q.env) (run_item C pay (setting x) i p)
  item_right (item.Text text) scope p w st = st
  item_right (item.Value e) scope p w st = good_then (Be x h scope (whole_type x h scope (expr_type x.scene scope e))) (λ end q. Stand x scope q.env) (run_expr C pay (setting x) e p) (λ v. give C pay Normal) (expr_well x h scope e p st (both (expr_type x.scene scope e).well _ w).0) (λ v q g. g.0)

  items_right : (items : List PrintItem) → RightStatement (scope_items x.scene result items) (run_items C pay (setting x) items)
  items_right [] scope w = (under_same scope.variables, λ p st. (refl, st))
  items_right (i ∷ items) scope w =
      let b = both (item_type x.scene result scope.variables i).well _ w in
      (under_same scope.variables, λ p st. good_then (λ end q. Stand x scope.variables q.env) (Ends scope.variables false scope.variables) (run_item C pay (setting x) i p) (λ end. run_items C pay (setting x) items) (item_right i scope.variables p b.0 st) (λ end q st. rest items scope q b.1 st)) where
        rest : (items : List PrintItem) (scope : Scope) (q : Pixel C pay) → (scope_items x.scene result items scope).well ≡ true → Stand x scope.variables q.env → Good (Ends scope.variables false scope.variables) (run_items C pay (setting x) items q)
        rest [] scope q w st = (refl, st)
        rest (i ∷ items) scope q w st =
            let b = both (item_type x.scene result scope.variables i).well _ w in
            good_then (λ end q. Stand x scope.variables q.env) (Ends scope.variables false scope.variables) (run_item C pay (setting x) i q) (λ end. run_items C pay (setting x) items) (item_right i scope.variables q b.0 st) (λ end q st. rest items scope q b.1 st)

  left_right : (scope : Variables) (o : Option Operand) (p : Pixel C pay) → Stand x scope p.env → has (left_type x.scene result scope o) result.sizes result.base ≡ true → Good (Be x h scope result_shape) (left_value C pay (setting x) o p)
  left_right scope None p st w =
      let k = has_full x.opens (left_type x.scene result scope None) result.sizes result.base w in
      (st, of_as x h scope (shape [] None) result_shape nothing k.1 (nothing_fits x.scene.structs, let n = scalars_nothing in omega arith))
  left_right scope (Some o) p st w =
      let k = has_full x.opens (left_type x.scene result scope (Some o)) result.sizes result.base w in
      let b = both (is_some (operand_type x.scene scope o).base) _ k.0 in
      good_more (Be x h scope (whole_type x h scope (operand_type x.scene scope o))) (Be x h scope result_shape) (run_operand C pay (setting x) o p) (operand_well x h scope o p st b.1) (λ v q g. (g.0, of_as x h scope _ _ v k.1 g.1))

  -- ---- arms

  arms_right : (arms : List (Pair RightArm)) (o : Pair RightClosed) → RightClosed (scope_arms (map (λ (e : Pair RightArm). e.0) arms) o.0) (arms_run C pay (map (λ (e : Pair RightArm). e.1) arms) o.1)
  arms_right [] o scope w = o.2 scope w
  arms_right (a ∷ arms) o scope w =
      let rest = scope_arms (map (λ (e : Pair RightArm). e.0) arms) o.0 in
      let mid = (a.0 scope).after in
      let b = both (a.0 scope).well _ w in
      let r = a.2 scope b.0 in
      let i = arms_right arms o mid b.1 in
      (i.0 ∙ r.0, λ p st. r.1 ((a.0 scope).returns && (rest mid).returns) (arms_run C pay (map (λ (e : Pair RightArm). e.1) arms) o.1) p st (and_false (a.0 scope).returns (rest mid).returns) (λ q st. good_more (Ends mid.variables (rest mid).returns mid.variables) (Ends scope.variables ((a.0 scope).returns && (rest mid).returns) scope.variables) (arms_run C pay (map (λ (e : Pair RightArm). e.1) arms) o.1 q) (i.1 q (subst (λ (scope : Variables). Stand x scope q.env) (sym r.0) st)) (λ end t g. second scope.variables mid.variables r.0 (a.0 scope).returns (rest mid).returns end t g))) where
        second : (scope mid : Variables) → mid ≡ scope → (a b : Bool) (end : End) (q : Pixel C pay) → Ends mid b mid end q → Ends scope (a && b) scope end q
        second scope mid e a b Normal q g = (and_false_right a b g.0, subst (λ (s : Variables). Stand x s q.env) e g.1)
        second scope mid e a b (Left v) q g = (subst (λ (s : Variables). Stand x s q.env) e g.0, g.1)

  nothing_right : RightClosed (simple true 0) (give C pay Normal)
  nothing_right scope w = (refl, λ p st. (refl, st))

  arm_right : KeepsArm RightStatement RightArm (scope_arm x.scene result) (arm_step C pay (setting x))
  arm_right a scope w =
      let b = both (is_scalar kind.Bool (operand_type x.scene scope.variables a.test) && true) _ w in
      let c = both (is_scalar kind.Bool (operand_type x.scene scope.variables a.test)) _ b.0 in
      let r = closed_right a.body scope b.1 in
      (refl, λ out otherwise p st e next. visit scope.variables out scope.variables (λ p. go_on C pay (run_operand C pay (setting x) a.test p) (chosen C pay a.body.1 otherwise)) p (test_right (Ends scope.variables out scope.variables) scope.variables a.test p a.body.1 otherwise st c.0 (λ q st. good_more (Ends scope.variables (a.body.0 scope).returns scope.variables) (Ends scope.variables out scope.variables) (a.body.1 q) (r.1 q st) (λ end t g. outer scope.variables scope.variables (a.body.0 scope).returns out end t (under_same scope.variables) e g)) next))

  statement_right : KeepsStatement RightStatement RightArm (scope_step x.scene result) (statement_step C pay (setting x))
  statement_right Empty scope w = (under_same scope.variables, λ p st. (refl, st))
  statement_right (Block ss) scope w =
      let r = opened (own_scope (scope_all (scopings ss))) (sequence_of ss) (closed_right (scope_all (scopings ss), sequence_of ss, sequence_right ss)) scope w in
      (r.0, λ p st. visit _ _ _ (sequence_of ss) p (r.1 p st))
  statement_right (Declare d) scope w = let r = declaration_right d scope w in (r.0, λ p st. visit _ _ _ (run_declaration C pay (setting x) d) p (r.1 p st))
  statement_right (Assign a) scope w = let r = assignment_right a scope w in (r.0, λ p st. visit _ _ _ (run_assignment C pay (setting x) a) p (r.1 p st))
  statement_right (Call c) scope w = (under_same scope.variables, λ p st. visit scope.variables false scope.variables (λ p. go_on C pay (run_call C pay (setting x) c p) (λ v. give C pay Normal)) p (good_then (Be x h scope.variables (whole_type x h scope.variables (call_form_type x.scene scope.variables c))) (Ends scope.variables false scope.variables) (run_call C pay (setting x) c p) _ (call_form_well x h scope.variables c p st w) (λ v q g. (refl, g.0))))
  statement_right (If arms None) scope u =
      let w = (both (nat_lt 0 (length (map (λ (e : Pair RightArm). e.0) arms))) _ u).1 in
      let r = opened (scope_arms (map (λ (e : Pair RightArm). e.0) arms) (simple true 0)) (arms_run C pay (map (λ (e : Pair RightArm). e.1) arms) (give C pay Normal)) (arms_right arms (simple true 0, give C pay Normal, nothing_right)) scope w in
      (r.0, λ p st. visit _ _ _ (arms_run C pay (map (λ (e : Pair RightArm). e.1) arms) (give C pay Normal)) p (r.1 p st))
  statement_right (If arms (Some b)) scope u =
      let w = (both (nat_lt 0 (length (map (λ (e : Pair RightArm). e.0) arms))) _ u).1 in
      let r = opened (scope_arms (map (λ (e : Pair RightArm). e.0) arms) (own_scope b.0)) (arms_run C pay (map (λ (e : Pair RightArm). e.1) arms) b.1) (arms_right arms (own_scope b.0, b.1, closed_right b)) scope w in
      (r.0, λ p st. visit _ _ _ (arms_run C pay (map (λ (e : Pair RightArm). e.1) arms) b.1) p (r.1 p st))
  statement_right (While test body node) scope w =
      let r = opened (λ scope. looped (tested (operand_type x.scene scope.variables test) (node_stands x.scene node) (own_scope body.0)) scope) (loop_run C pay node (run_operand C pay (setting x) test) body.1) (loop_right test (own_scope body.0, body.1, closed_right body) (node_stands x.scene node) node) scope w in
      (r.0, λ p st. visit _ _ _ (loop_run C pay node (run_operand C pay (setting x) test) body.1) p (r.1 p st))
  statement_right (For first test next body node) scope w =
      let step : Pair RightStatement = (scope_assignment x.scene result next, visited C pay (run_assignment C pay (setting x) next), λ scope w. let r = assignment_right next scope w in (r.0, λ p st. visit scope.variables false scope.variables (run_assignment C pay (setting x) next) p (r.1 p st))) in
      let inner : List (Pair RightStatement) = (own_scope body.0, body.1, opened (own_scope body.0) body.1 (closed_right body)) ∷ step ∷ [] in
      let turn : Pair RightClosed = (scope_all (scopings inner), sequence_of inner, λ scope w. (refl, (sequence_right inner scope w).1)) in
      let loop = loop_right test turn (node_stands x.scene node) node in
      let head : Pair RightStatement = (scope_start x.scene result first, visited C pay (run_start C pay (setting x) first), λ scope w. let r = start_right first scope w in (r.0, λ p st. visit scope.variables (scope_start x.scene result first scope).returns (scope_start x.scene result first scope).after.variables (run_start C pay (setting x) first) p (r.1 p st))) in
      let all : List (Pair RightStatement) = head ∷ (λ scope. looped (tested (operand_type x.scene scope.variables test) (node_stands x.scene node) turn.0) scope, loop_run C pay node (run_operand C pay (setting x) test) turn.1, opened (λ scope. looped (tested (operand_type x.scene scope.variables test) (node_stands x.scene node) turn.0) scope) (loop_run C pay node (run_operand C pay (setting x) test) turn.1) loop) ∷ [] in
      let r = opened (own_scope (scope_all (scopings all))) (sequence_of all) (closed_right (scope_all (scopings all), sequence_of all, sequence_right all)) scope w in
      (r.0, λ p st. visit scope.variables (scope_all (scopings all) scope).returns scope.variables (sequence_of all) p (r.1 p st))
  statement_right (Return o) scope w = (under_same scope.variables, λ p st. visit scope.variables true scope.variables (λ p. go_on C pay (left_value C pay (setting x) o p) (leave C pay)) p (good_then (Be x h scope.variables result_shape) (Ends scope.variables true scope.variables) (left_value C pay (setting x) o p) (leave C pay) (left_right scope.variables o p st w) (λ v q g. g)))
  statement_right (Print items) scope w = let r = items_right items scope (both (nat_lt 0 (length items)) _ w).1 in (r.0, λ p st. visit _ _ _ (run_items C pay (setting x) items) p (r.1 p st))

  pub statement_well : (e : TypedStatement) → RightStatement (scope_statement x.scene result e) (run_statement C pay (setting x) e)
  statement_well e = statement_pair RightStatement RightArm (scope_step x.scene result) (scope_arm x.scene result) (statement_step C pay (setting x)) (arm_step C pay (setting x)) statement_right arm_right e
