-- Well typed statements at both controls.
use Rattle.std.proofs.Common.{◌≡◌, ℕ, List, [], ◌∷◌, map, Option, Some, None, true, false, true≢false, ◌&&◌, ◌||◌, nat_lt, ap, sym, subst, ◌∙◌, refl}
use Rattle.ctl_base.specs.declared.kind.ScalarKind.TheVariants as kind
use Rattle.ctl_base.specs.declared.kind.Node.{Node}
use Rattle.ctl_types.specs.declared.shape.Base.{Base}
use Rattle.ctl_types.specs.declared.shape.LocalShape.{LocalShape}
use Rattle.ctl_types.specs.declared.shape.Shape.{Shape}
use Rattle.ctl_types.specs.declared.shape.Size.{Size}
use Rattle.ctl_types.specs.declared.value.Value.{Value}
use Rattle.ctl_types.specs.declared.expression.Operand.{Operand}
use Rattle.ctl_types.specs.declared.statement.Initialiser.{Initialiser}
use Rattle.ctl_types.specs.declared.statement.Initialiser.TheOpen as initial
use Rattle.ctl_types.specs.declared.statement.Declaration.{Declaration}
use Rattle.ctl_types.specs.declared.statement.Assignment.{Assignment}
use Rattle.ctl_types.specs.declared.statement.ForStart.{ForStart}
use Rattle.ctl_types.specs.declared.statement.ForStart.TheVariants as start
use Rattle.ctl_types.specs.declared.statement.PrintItem.{PrintItem}
use Rattle.ctl_types.specs.declared.statement.PrintItem.TheVariants as item
use Rattle.ctl_types.specs.declared.statement.TypedStatement.{TypedStatement}
use Rattle.ctl_types.specs.declared.statement.TypedStatement.TheOpen.{Empty, Block, Declare, Assign, Call, If, While, For, Return, Print}
use Rattle.ctl_types.specs.declared.statement.TypedStatement.TheFolds.{fold-TypedStatement}
use Rattle.ctl_types.specs.Values.{list, fields}
use Rattle.ctl_types.specs.Pairs.{Pair, KeepsInitialiser, KeepsStatement, KeepsArm, initialiser_pair, statement_pair}
use Rattle.ctl_types.specs.Typing.{Typed, Scene, Variables, all_have, each_has, is_scalar, place_type, operand_type, type_initialiser, initialiser_type}
use Rattle.ctl_types.specs.Scoping.{Scope, Scoping, simple, own_scope, scope_all, scope_arms, scope_otherwise, first_type, scope_declaration, scope_assignment, scope_start, scope_items, item_type, left_type, scope_step, scope_arm, scope_statement}
use Rattle.ctl_types.specs.Run.{End, Normal, Run, give, visited, sequence, loop_run, Setting, ArmRun, listed, run_operand, run_call, run_place, run_initialiser, first_value, run_item, run_items, left_value, run_declaration, run_assignment, run_start, statement_step, arm_step, run_statement}
use Rattle.ctl_types.specs.Run.{initialiser_step as initialiser_run_step}
use Rattle.level_rules.specs.declared.instance.Holder.TheVariants.{Result}
use Rattle.level_rules.specs.Rules.{VaryingSet, Known, Around, Look, seen_all, look_operand, look_call, look_place, initialiser_step, look_initialiser, look_first, look_item, look_items, look_returned, Walk, ArmWalk, no_walk, walk_look, walk_all, walk_placed, tested, walk_loop, walk_arms, walk_return, walk_for, walk_declaration, walk_assignment, walk_start, walk_arm, walk_form, walk_statement}
use Rattle.level_rules.specs.Levels.{AllIn}
use Rattle.level_laws.proofs.Envs.{all_left, all_right, or_left, or_right}
use Rattle.level_laws.proofs.Runs.{anything, SameIf, Even, still_then, still_give, even_then, even_give}
use Rattle.level_laws.proofs.Stills.{Each, StillOf}
use Rattle.level_laws.proofs.Evens.{EvenOf}
use Rattle.level_laws.proofs.Calls.{Served}
use Rattle.level_laws.proofs.Falls.{All, Falls, AllFall, falls_give, operand_falls, call_falls, left_falls}
use Rattle.level_laws.proofs.Turns.{FallsArm, falls_visited, sequence_falls, arms_falls, arm_falls, loop_falls, alone_falls, returned_falls, declaration_falls, assignment_falls, start_falls, items_falls}
use Rattle.level_laws.proofs.Calm.{StillWalk, StillArm, sequence_still, visited_still, nothing_still, arm_still, arms_still, while_still, for_still, last_still, alone_still, returned_still}
use Rattle.level_laws.proofs.Exits.{Exits, EvenWalk, SoundWalk, SoundArm, sequence_even, visited_even, nothing_even, arm_even, arms_even, loop_even, last_even, declared_even, assigned_even, alone_even, returned_even}
use Rattle.level_laws.proofs.Products.{both_initialisers, initialiser_first, initialiser_second, both_statements, both_arms, statement_first, statement_second}
use Rattle.level_laws.proofs.Stays.{elements_still, of_operand, of_call, of_place, of_returned, of_items, of_declaration, of_assignment, of_start}
use Rattle.level_laws.proofs.Typed.{both, has_well, scalar_well, even_expr, even_operand, even_call, even_place}

module _ (C : Type 0) (pay : ℕ → C → C) (known : Known) (a : Around) (s : Setting C pay) (sc : Scene) (o : s.opens ≡ a.opens) (serves : Served C pay a known s.functions) where
  abbrev w : VaryingSet
  w = a.set

  -- ---- initialisers

  elements_even : (ls : List Look) (rs : List (Run C pay Value)) → Each (EvenOf C pay a) ls rs → AllIn w (seen_all ls a false).found.puts → Even C pay w (SameIf (seen_all ls a false).varies) (listed C pay rs) (listed C pay rs)
  elements_even [] [] e h = even_give C pay w _ [] [] (λ q. refl)
  elements_even [] (r ∷ rs) e h = absurd e
  elements_even (l ∷ ls) [] e h = absurd e
  elements_even (l ∷ ls) (r ∷ rs) e h =
      let m = (l a false).varies in
      let n = (seen_all ls a false).varies in
      even_then C pay w (SameIf m) _ r r _ _ (e.0 (all_left w _ _ h)) (λ u v g. even_then C pay w (SameIf n) _ _ _ _ _ (elements_even ls rs e.1 (all_right w _ _ h)) (λ xs ys j. even_give C pay w (SameIf (m || n)) (u ∷ xs) (v ∷ ys) (λ q. ap (λ u. u ∷ xs) (g (or_left m n q)) ∙ ap (λ xs. v ∷ xs) (j (or_right m n q)))))

  module _ (vars : Variables) where
    abbrev BI : Type 0
    BI = Run C pay Value × Typed

    abbrev TI : Look → BI → Type 0
    TI look x = StillOf C pay a look x.0 × (x.1.well ≡ true → EvenOf C pay a look x.0)

    initials_still : (ps : List (Pair TI)) → Each (StillOf C pay a) (map (λ (p : Pair TI). p.0) ps) (map (λ (y : BI). y.0) (map (λ (p : Pair TI). p.1) ps))
    initials_still [] = tt
    initials_still (p ∷ ps) = (p.2.0, initials_still ps)

    haves_well : (ps : List (Pair TI)) (sizes : List Size) (base : Option Base) → all_have (map (λ (y : BI). y.1) (map (λ (p : Pair TI). p.1) ps)) sizes base ≡ true → Each (EvenOf C pay a) (map (λ (p : Pair TI). p.0) ps) (map (λ (y : BI). y.0) (map (λ (p : Pair TI). p.1) ps))
    haves_well [] sizes base h = tt
    haves_well (p ∷ ps) sizes base h = let k = both _ _ h in (p.2.1 (has_well p.1.1 sizes base k.0), haves_well ps sizes base k.1)

    fields_well : (ps : List (Pair TI)) (shapes : List Shape) → each_has (map (λ (y : BI). y.1) (map (λ (p : Pair TI). p.1) ps)) shapes ≡ true → Each (EvenOf C pay a) (map (λ (p : Pair TI). p.0) ps) (map (λ (y : BI). y.0) (map (λ (p : Pair TI). p.1) ps))
    fields_well [] shapes h = tt
    fields_well (p ∷ ps) [] h = absurd (true≢false (sym h))
    fields_well (p ∷ ps) (shape ∷ shapes) h = let k = both _ _ h in (p.2.1 (has_well p.1.1 _ _ k.0), fields_well ps shapes k.1)

    in_initialisers : KeepsInitialiser TI (initialiser_step known) (both_initialisers (initialiser_run_step C pay s) (type_initialiser sc vars))
    in_initialisers (initial.Value e) = (λ h. record { by = λ p. (of_operand C pay known a s e h).by p }, λ p h. record { by = λ x y z. (even_operand C pay known a s sc vars o serves e p h).by x y z })
    in_initialisers (initial.Elements shape is) = (
      λ h. still_then C pay w anything anything _ _ (elements_still C pay known a s _ _ (initials_still is) h) (λ vs g. still_give C pay w anything _ tt),
      λ p h. even_then C pay w _ _ _ _ _ _ (elements_even _ _ (haves_well is _ _ (both _ _ (both (nat_lt 0 _) _ p).1).1) h) (λ xs ys g. even_give C pay w _ _ _ (λ q. ap list (g q))),
    )
    in_initialisers (initial.Fields n is) = (
      λ h. still_then C pay w anything anything _ _ (elements_still C pay known a s _ _ (initials_still is) h) (λ vs g. still_give C pay w anything _ tt),
      λ p h. even_then C pay w _ _ _ _ _ _ (elements_even _ _ (fields_well is _ (both (nat_lt n _) _ p).1) h) (λ xs ys g. even_give C pay w _ _ _ (λ q. ap fields (g q))),
    )

    even_initialiser : (e : Initialiser) → (initialiser_type sc vars e).well ≡ true → EvenOf C pay a (look_initialiser known e) (run_initialiser C pay s e)
    even_initialiser e p =
        let t = initialiser_pair TI (initialiser_step known) (both_initialisers (initialiser_run_step C pay s) (type_initialiser sc vars)) in_initialisers e in
        subst (λ r. EvenOf C pay a (look_initialiser known e) r) (initialiser_first (initialiser_run_step C pay s) (type_initialiser sc vars) e) (t.1 (ap (λ (t : Typed). t.well) (initialiser_second (initialiser_run_step C pay s) (type_initialiser sc vars) e) ∙ p))

    even_first : (result : Typed) (shape : LocalShape) (i : Option Initialiser) → (first_type sc result vars shape i).well ≡ true → EvenOf C pay a (look_first known i) (first_value C pay s shape i)
    even_first result shape None p h = even_give C pay w _ _ _ (λ q. refl)
    even_first result shape (Some i) p h = even_initialiser i p h

    even_returned : (result : Typed) (e : Option Operand) → (left_type sc result vars e).well ≡ true → EvenOf C pay a (look_returned known e) (left_value C pay s e)
    even_returned result None p h = even_give C pay w _ _ _ (λ q. refl)
    even_returned result (Some e) p h = even_operand C pay known a s sc vars o serves e (both _ _ p).1 h

    even_item : (result : Typed) (i : PrintItem) → (item_type sc result vars i).well ≡ true → AllIn w (look_item known i a false).found.puts → Even C pay w (Exits false (w Result)) (run_item C pay s i) (run_item C pay s i)
    even_item result (item.Text text) p h = even_give C pay w (Exits false (w Result)) Normal Normal tt
    even_item result (item.Value e) p h = even_then C pay w _ (Exits false (w Result)) _ _ _ _ (even_expr C pay known a s sc vars o serves e (both _ _ p).0 h) (λ u v g. even_give C pay w (Exits false (w Result)) Normal Normal tt)

  module _ (result : Typed) (falls : AllFall C pay s.functions) where
    even_items : (is : List PrintItem) (scope : Scope) → (scope_items sc result is scope).well ≡ true → AllIn w (look_items known is a false).found.puts → Even C pay w (Exits false (w Result)) (run_items C pay s is) (run_items C pay s is)
    even_items [] scope p h = even_give C pay w (Exits false (w Result)) Normal Normal tt
    even_items (i ∷ is) scope p h =
        let k = both (item_type sc result scope.variables i).well _ p in
        even_then C pay w (Exits false (w Result)) (Exits false (w Result)) _ _ _ _ (even_item scope.variables result i k.0 (all_left w _ _ h)) (λ x y g. even_items is scope k.1 (all_right w (look_item known i a false).found.puts _ h))

    -- ---- statements

    abbrev BW : Type 0
    BW = Run C pay End × Scoping

    abbrev BArm : Type 0
    BArm = ArmRun C pay × Scoping

    abbrev TW : Walk → BW → Type 0
    TW walk x = (StillWalk C pay a walk x.0 × Falls C pay x.0) × ((scope : Scope) → (x.1 scope).well ≡ true → EvenWalk C pay a walk x.0)

    abbrev TArm : ArmWalk → BArm → Type 0
    TArm arm x = (StillArm C pay a arm x.0 × FallsArm C pay x.0) × ((scope : Scope) → (x.1 scope).well ≡ true → (walk : Walk) (other : Run C pay End) → SoundWalk C pay a walk other → EvenWalk C pay a (arm walk) (x.0 other))

    walks_still : (ps : List (Pair TW)) → Each (StillWalk C pay a) (map (λ (p : Pair TW). p.0) ps) (map (λ (y : BW). y.0) (map (λ (p : Pair TW). p.1) ps))
    walks_still [] = tt
    walks_still (p ∷ ps) = (p.2.0.0, walks_still ps)

    walks_fall : (ps : List (Pair TW)) → All (Falls C pay) (map (λ (y : BW). y.0) (map (λ (p : Pair TW). p.1) ps))
    walks_fall [] = tt
    walks_fall (p ∷ ps) = (p.2.0.1, walks_fall ps)

    walks_well : (ps : List (Pair TW)) (scope : Scope) → (scope_all (map (λ (y : BW). y.1) (map (λ (p : Pair TW). p.1) ps)) scope).well ≡ true → Each (SoundWalk C pay a) (map (λ (p : Pair TW). p.0) ps) (map (λ (y : BW). y.0) (map (λ (p : Pair TW). p.1) ps))
    walks_well [] scope h = tt
    walks_well (p ∷ ps) scope h = let k = both (p.1.1 scope).well _ h in ((p.2.0.0, p.2.1 scope k.0), walks_well ps (p.1.1 scope).after k.1)

    arms_stay : (ps : List (Pair TArm)) → Each (StillArm C pay a) (map (λ (p : Pair TArm). p.0) ps) (map (λ (y : BArm). y.0) (map (λ (p : Pair TArm). p.1) ps))
    arms_stay [] = tt
    arms_stay (p ∷ ps) = (p.2.0.0, arms_stay ps)

    arms_fall : (ps : List (Pair TArm)) → All (FallsArm C pay) (map (λ (y : BArm). y.0) (map (λ (p : Pair TArm). p.1) ps))
    arms_fall [] = tt
    arms_fall (p ∷ ps) = (p.2.0.1, arms_fall ps)

    arms_well : (ps : List (Pair TArm)) (other : Scoping) (scope : Scope) → (scope_arms (map (λ (y : BArm). y.1) (map (λ (p : Pair TArm). p.1) ps)) other scope).well ≡ true → Each (SoundArm C pay a) (map (λ (p : Pair TArm). p.0) ps) (map (λ (y : BArm). y.0) (map (λ (p : Pair TArm). p.1) ps)) × ((scope : Scope) × ((other scope).well ≡ true))
    arms_well [] other scope h = (tt, (scope, h))
    arms_well (p ∷ ps) other scope h =
        let k = both (p.1.1 scope).well _ h in
        let r = arms_well ps other (p.1.1 scope).after k.1 in
        (((p.2.0.0, p.2.1 scope k.0), r.0), r.1)

    even_declaration : (d : Declaration) (scope : Scope) → (scope_declaration sc result d scope).well ≡ true → EvenWalk C pay a (walk_declaration known d) (run_declaration C pay s d)
    even_declaration d scope p = declared_even C pay a s (look_first known d.first) (first_value C pay s d.shape d.first) d.variable d.shape (even_first scope.variables result d.shape d.first (has_well (first_type sc result scope.variables d.shape d.first) _ _ (both _ _ (both _ _ p).1).1))

    even_assignment : (d : Assignment) (scope : Scope) → (scope_assignment sc result d scope).well ≡ true → EvenWalk C pay a (walk_assignment known d) (run_assignment C pay s d)
    even_assignment d scope p =
        let k = both ((place_type sc scope.variables d.place).is_assignable && (place_type sc scope.variables d.place).type.well) _ p in
        assigned_even C pay a (look_place known d.place) (look_operand known d.value) (run_place C pay s d.place) (run_operand C pay s d.value) (of_place C pay known a s d.place).0
        (even_place C pay known a s sc scope.variables o serves d.place (both _ _ k.0).1)
        (even_operand C pay known a s sc scope.variables o serves d.value (has_well (operand_type sc scope.variables d.value) _ _ (both _ _ k.1).0))

    even_start : (f : ForStart) (scope : Scope) → (scope_start sc result f scope).well ≡ true → EvenWalk C pay a (walk_start known f) (run_start C pay s f)
    even_start (start.Declare d) scope p = even_declaration d scope (both _ _ p).1
    even_start (start.Assign d) scope p = even_assignment d scope p

    -- a test at both controls
    test_sound : (test : Operand) (scope : Scope) → is_scalar kind.Bool (operand_type sc scope.variables test) ≡ true → StillOf C pay a (look_operand known test) (run_operand C pay s test) × EvenOf C pay a (look_operand known test) (run_operand C pay s test)
    test_sound test scope p = (of_operand C pay known a s test, even_operand C pay known a s sc scope.variables o serves test (scalar_well kind.Bool (operand_type sc scope.variables test) p))

    in_arm : KeepsArm TW TArm (walk_arm known) (both_arms (statement_step C pay s) (arm_step C pay s) (scope_step sc result) (scope_arm sc result))
    in_arm y = (
      (
        λ walk rest h. visited_still C pay a (tested (look_operand known y.test) (walk_all (y.body.0 ∷ walk ∷ []))) _ (arm_still C pay a (look_operand known y.test) y.body.0 walk (run_operand C pay s y.test) y.body.1.0 rest (of_operand C pay known a s y.test) y.body.2.0.0 h),
        λ rest h. arm_falls C pay (run_operand C pay s y.test) y.body.1.0 rest (operand_falls C pay s falls y.test) y.body.2.0.1 h,
      ),
      λ scope p walk rest h.
          let k = both (is_scalar kind.Bool (operand_type sc scope.variables y.test) && true) (y.body.1.1 scope).well p in
          visited_even C pay a (tested (look_operand known y.test) (walk_all (y.body.0 ∷ walk ∷ []))) _ (arm_even C pay a (look_operand known y.test) y.body.0 walk (run_operand C pay s y.test) y.body.1.0 rest (test_sound y.test scope (both _ _ k.0).0).1 (y.body.2.0.0, y.body.2.1 scope k.1) h),
    )

    -- the loop of a `for`
    abbrev for_loop : Operand → Assignment → BW → Node → Run C pay End
    for_loop test d body node = loop_run C pay node (run_operand C pay s test) (sequence C pay (body.0 ∷ visited C pay (run_assignment C pay s d) ∷ []))

    for_stays : (f : ForStart) (test : Operand) (d : Assignment) (body : Pair TW) (node : Node) → StillWalk C pay a (walk_for known f (look_operand known test) d body.0) (sequence C pay (visited C pay (run_start C pay s f) ∷ for_loop test d body.1 node ∷ []))
    for_stays f test d body node = sequence_still C pay a
        (walk_placed (walk_start known f) ∷ walk_loop (look_operand known test) (walk_placed (walk_assignment known d)) body.0 ∷ [])
        (visited C pay (run_start C pay s f) ∷ for_loop test d body.1 node ∷ [])
        (visited_still C pay a (walk_start known f) _ (of_start C pay known a s f), (for_still C pay a (look_operand known test) (walk_placed (walk_assignment known d)) body.0 (run_operand C pay s test) (visited C pay (run_assignment C pay s d)) body.1.0 node refl (of_operand C pay known a s test) (visited_still C pay a (walk_assignment known d) _ (of_assignment C pay known a s d)) body.2.0.0, tt))

    inner_falls : (d : Assignment) (body : Pair TW) → Falls C pay (sequence C pay (body.1.0 ∷ visited C pay (run_assignment C pay s d) ∷ []))
    inner_falls d body = sequence_falls C pay (body.1.0 ∷ visited C pay (run_assignment C pay s d) ∷ []) (body.2.0.1, (falls_visited C pay _ (assignment_falls C pay s falls d), tt))

    for_falls : (f : ForStart) (test : Operand) (d : Assignment) (body : Pair TW) (node : Node) → Falls C pay (sequence C pay (visited C pay (run_start C pay s f) ∷ for_loop test d body.1 node ∷ []))
    for_falls f test d body node = sequence_falls C pay (visited C pay (run_start C pay s f) ∷ for_loop test d body.1 node ∷ []) (falls_visited C pay _ (start_falls C pay s falls f), (loop_falls C pay node _ _ (operand_falls C pay s falls test) (inner_falls d body), tt))

    for_even : (f : ForStart) (test : Operand) (d : Assignment) (body : Pair TW) (node : Node) (scope : Scope) → (scope_step sc result (For f test d body.1.1 node) scope).well ≡ true → EvenWalk C pay a (walk_for known f (look_operand known test) d body.0) (sequence C pay (visited C pay (run_start C pay s f) ∷ for_loop test d body.1 node ∷ []))
    for_even f test d body node scope p =
        let k = both (scope_start sc result f scope).well _ p in
        let inside : Scope = (scope_start sc result f scope).after in
        let l = both _ _ (both _ true k.1).0 in
        let b = both (body.1.1 inside).well _ l.1 in
        let t = test_sound test inside (both _ _ l.0).0 in
        let assign = visited_even C pay a (walk_assignment known d) _ (even_assignment d (own_scope body.1.1 inside).after (both _ true b.1).0) in
        let still = visited_still C pay a (walk_assignment known d) _ (of_assignment C pay known a s d) in
        sequence_even C pay a
        (walk_placed (walk_start known f) ∷ walk_loop (look_operand known test) (walk_placed (walk_assignment known d)) body.0 ∷ [])
        (visited C pay (run_start C pay s f) ∷ for_loop test d body.1 node ∷ []) (
          (visited_still C pay a (walk_start known f) _ (of_start C pay known a s f), visited_even C pay a (walk_start known f) _ (even_start f scope k.0)),
          (
            (
              for_still C pay a (look_operand known test) (walk_placed (walk_assignment known d)) body.0 (run_operand C pay s test) (visited C pay (run_assignment C pay s d)) body.1.0 node refl t.0 still body.2.0.0,
              loop_even C pay a (look_operand known test) (walk_placed (walk_assignment known d)) body.0 (run_operand C pay s test) _ node t (operand_falls C pay s falls test) (inner_falls d body)
                  (last_still C pay a (walk_placed (walk_assignment known d)) body.0 (visited C pay (run_assignment C pay s d)) body.1.0 refl still body.2.0.0)
                  (last_even C pay a (walk_placed (walk_assignment known d)) body.0 (visited C pay (run_assignment C pay s d)) body.1.0 refl assign (body.2.1 inside b.0)),
            ),
            tt,
          ),
        )

    while_even : (test : Operand) (body : Pair TW) (node : Node) (scope : Scope) → (scope_step sc result (While test body.1.1 node) scope).well ≡ true → EvenWalk C pay a (walk_loop (look_operand known test) no_walk body.0) (loop_run C pay node (run_operand C pay s test) body.1.0)
    while_even test body node scope p =
        let k = both _ (body.1.1 scope).well p in
        loop_even C pay a (look_operand known test) no_walk body.0 (run_operand C pay s test) body.1.0 node (test_sound test scope (both _ _ k.0).0) (operand_falls C pay s falls test) body.2.0.1
        (λ n h. body.2.0.0 h)
        (λ e n h. subst (λ b. Even C pay w (Exits b (w Result)) body.1.0 body.1.0) e (body.2.1 scope k.1 h))

    in_statements : KeepsStatement TW TArm (walk_form known) (both_statements (statement_step C pay s) (arm_step C pay s) (scope_step sc result) (scope_arm sc result))
    in_statements Empty = ((visited_still C pay a no_walk _ (nothing_still C pay a), falls_visited C pay _ (falls_give C pay Normal)), λ scope p. visited_even C pay a no_walk _ (nothing_even C pay a))
    in_statements (Block ws) = (
      (visited_still C pay a (walk_all (map (λ (e : Pair TW). e.0) ws)) _ (sequence_still C pay a _ _ (walks_still ws)), falls_visited C pay _ (sequence_falls C pay _ (walks_fall ws))),
      λ scope p. visited_even C pay a (walk_all (map (λ (e : Pair TW). e.0) ws)) _ (sequence_even C pay a _ _ (walks_well ws scope p)),
    )
    in_statements (Declare d) = (
      (visited_still C pay a (walk_declaration known d) _ (of_declaration C pay known a s d), falls_visited C pay _ (declaration_falls C pay s falls d)),
      λ scope p. visited_even C pay a (walk_declaration known d) _ (even_declaration d scope p),
    )
    in_statements (Assign d) = (
      (visited_still C pay a (walk_assignment known d) _ (of_assignment C pay known a s d), falls_visited C pay _ (assignment_falls C pay s falls d)),
      λ scope p. visited_even C pay a (walk_assignment known d) _ (even_assignment d scope p),
    )
    in_statements (Call c) = (
      (visited_still C pay a (walk_look (look_call known c)) _ (alone_still C pay a (look_call known c) (run_call C pay s c) (of_call C pay known a s c)), falls_visited C pay _ (alone_falls C pay _ (call_falls C pay s falls c))),
      λ scope p. visited_even C pay a (walk_look (look_call known c)) _ (alone_even C pay a (look_call known c) (run_call C pay s c) (even_call C pay known a s sc scope.variables o serves c p)),
    )
    in_statements (If arms None) = (
      (visited_still C pay a (walk_arms (map (λ (e : Pair TArm). e.0) arms) no_walk) _ (arms_still C pay a _ _ (arms_stay arms) no_walk (give C pay Normal) (nothing_still C pay a)), falls_visited C pay _ (arms_falls C pay _ (arms_fall arms) _ (falls_give C pay Normal))),
      λ scope p. visited_even C pay a (walk_arms (map (λ (e : Pair TArm). e.0) arms) no_walk) _ (arms_even C pay a _ _ (arms_well arms (simple true 0) scope (both _ _ p).1).0 no_walk (give C pay Normal) (nothing_still C pay a, nothing_even C pay a)),
    )
    in_statements (If arms (Some b)) = (
      (visited_still C pay a (walk_arms (map (λ (e : Pair TArm). e.0) arms) b.0) _ (arms_still C pay a _ _ (arms_stay arms) b.0 b.1.0 b.2.0.0), falls_visited C pay _ (arms_falls C pay _ (arms_fall arms) _ b.2.0.1)),
      λ scope p.
          let k = arms_well arms (scope_otherwise (Some b.1.1)) scope (both _ _ p).1 in
          visited_even C pay a (walk_arms (map (λ (e : Pair TArm). e.0) arms) b.0) _ (arms_even C pay a _ _ k.0 b.0 b.1.0 (b.2.0.0, b.2.1 k.1.0 k.1.1)),
    )
    in_statements (While test body node) = (
      (visited_still C pay a (walk_loop (look_operand known test) no_walk body.0) _ (while_still C pay a (look_operand known test) body.0 (run_operand C pay s test) body.1.0 node (of_operand C pay known a s test) body.2.0.0), falls_visited C pay _ (loop_falls C pay node _ _ (operand_falls C pay s falls test) body.2.0.1)),
      λ scope p. visited_even C pay a (walk_loop (look_operand known test) no_walk body.0) _ (while_even test body node scope p),
    )
    in_statements (For first test next body node) = (
      (visited_still C pay a (walk_for known first (look_operand known test) next body.0) _ (for_stays first test next body node), falls_visited C pay _ (for_falls first test next body node)),
      λ scope p. visited_even C pay a (walk_for known first (look_operand known test) next body.0) _ (for_even first test next body node scope p),
    )
    in_statements (Return e) = (
      (visited_still C pay a (walk_return (look_returned known e)) _ (returned_still C pay a (look_returned known e) (left_value C pay s e) (of_returned C pay known a s e)), falls_visited C pay _ (returned_falls C pay _ (left_falls C pay s falls e))),
      λ scope p. visited_even C pay a (walk_return (look_returned known e)) _ (returned_even C pay a (look_returned known e) (left_value C pay s e) (even_returned scope.variables result e (has_well (left_type sc result scope.variables e) _ _ p))),
    )
    in_statements (Print items) = (
      (visited_still C pay a (walk_look (look_items known items)) _ (of_items C pay known a s items), falls_visited C pay _ (items_falls C pay s falls items)),
      λ scope p. visited_even C pay a (walk_look (look_items known items)) _ (even_items items scope (both _ _ p).1),
    )

    at_once : (e : TypedStatement) → TW (walk_statement known e) (fold-TypedStatement BW BArm (both_statements (statement_step C pay s) (arm_step C pay s) (scope_step sc result) (scope_arm sc result)) (both_arms (statement_step C pay s) (arm_step C pay s) (scope_step sc result) (scope_arm sc result)) e)
    at_once e = statement_pair TW TArm (walk_form known) (walk_arm known) (both_statements (statement_step C pay s) (arm_step C pay s) (scope_step sc result) (scope_arm sc result)) (both_arms (statement_step C pay s) (arm_step C pay s) (scope_step sc result) (scope_arm sc result)) in_statements in_arm e

    pub statement_falls : (e : TypedStatement) → Falls C pay (run_statement C pay s e)
    statement_falls e = subst (λ r. Falls C pay r) (statement_first (statement_step C pay s) (arm_step C pay s) (scope_step sc result) (scope_arm sc result) e) (at_once e).0.1

    pub even_statement : (e : TypedStatement) (scope : Scope) → (scope_statement sc result e scope).well ≡ true → EvenWalk C pay a (walk_statement known e) (run_statement C pay s e)
    even_statement e scope p = subst (λ r. EvenWalk C pay a (walk_statement known e) r) (statement_first (statement_step C pay s) (arm_step C pay s) (scope_step sc result) (scope_arm sc result) e)
        ((at_once e).1 scope (ap (λ (f : Scoping). (f scope).well) (statement_second (statement_step C pay s) (arm_step C pay s) (scope_step sc result) (scope_arm sc result) e) ∙ p))
