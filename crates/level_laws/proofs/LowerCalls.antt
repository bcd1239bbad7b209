-- Calls go to functions before: statements and functions.
use Rattle.std.proofs.Common.{◌≡◌, ◌+◌, ℕ, zero, suc, List, [], ◌∷◌, ◌++◌, map, Option, Some, None, Bool, true, ◌&&◌, ◌||◌, length, slice_get, ap, subst, refl, arith}
use Rattle.ctl_base.specs.declared.kind.ScalarKind.TheVariants as kind
use Rattle.ctl_types.specs.declared.expression.Operand.{Operand}
use Rattle.ctl_types.specs.declared.statement.Declaration.{Declaration}
use Rattle.ctl_types.specs.declared.statement.Assignment.{Assignment}
use Rattle.ctl_types.specs.declared.statement.ForStart.{ForStart}
use Rattle.ctl_types.specs.declared.statement.ForStart.TheVariants as start
use Rattle.ctl_types.specs.declared.statement.PrintItem.{PrintItem}
use Rattle.ctl_types.specs.declared.statement.PrintItem.TheVariants as item
use Rattle.ctl_types.specs.declared.statement.TypedStatement.{TypedStatement}
use Rattle.ctl_types.specs.declared.statement.TypedStatement.TheOpen.{Empty, Block, Declare, Assign, Call, If, While, For, Return, Print}
use Rattle.ctl_types.specs.declared.program.Function.{Function}
use Rattle.ctl_types.specs.Pairs.{Pair, KeepsStatement, KeepsArm, statement_pair}
use Rattle.ctl_types.specs.Typing.{Typed, Scene, is_scalar, place_type, operand_type, result_type, signature_of}
use Rattle.ctl_types.specs.Scoping.{Scope, Scoping, simple, own_scope, scope_all, scope_arms, scope_otherwise, first_type, left_type, item_type, scope_items, scope_declaration, scope_assignment, scope_start, scope_for, scope_step, scope_arm, scope_statement, first_scope, inside, body_scope, function_stands, function_signature, functions_stand, with_functions, scene_before}
use Rattle.level_rules.specs.declared.instance.Holder.{Holder}
use Rattle.level_rules.specs.declared.instance.Holder.TheVariants.{Result, Variable}
use Rattle.level_rules.specs.Rules.{Known, Around, Look, look_operand, look_place, look_first, look_returned, look_item, look_items, look_assignment, Walk, ArmWalk, no_walk, walk_all, walk_placed, tested, walk_set, walk_loop, walk_arms, walk_declaration, walk_assignment, walk_start, walk_for, walk_arm, walk_form, walk_statement}
use Rattle.level_rules.specs.Levels.{around, before, found_of}
use Rattle.level_rules.specs.Listed.{AllBefore}
use Rattle.level_laws.specs.Lower.{CallsLower}
use Rattle.level_laws.proofs.Falls.{All}
use Rattle.level_laws.proofs.Typed.{both, has_well, scalar_well}
use Rattle.level_laws.proofs.Lows.{before_both, Lows, all_low, expr_low, operand_low, call_form_low, place_low, first_low, returned_low}

module _ (known : Known) (sc : Scene) (result : Typed) where
  abbrev LowsWalk : Walk → Type 0
  LowsWalk walk = (s : Around) (c : Bool) → AllBefore (length sc.functions) (walk s c).found.calls

  abbrev n : ℕ
  n = length sc.functions

  nothing_low : LowsWalk no_walk
  nothing_low s c = tt

  walks_low : (ws : List Walk) → All LowsWalk ws → LowsWalk (walk_all ws)
  walks_low [] e s c = tt
  walks_low (x ∷ ws) e s c = before_both n _ _ (e.0 s c) (walks_low ws e.1 s (c || (x s c).leaves))

  tested_low : (look : Look) (walk : Walk) → Lows known sc look → LowsWalk walk → LowsWalk (tested look walk)
  tested_low look walk h k s c = before_both n _ _ (h s c) (k s (c || (look s c).varies))

  set_low : (x : Holder) (look : Look) → Lows known sc look → LowsWalk (walk_set x look)
  set_low x look h s c = before_both n _ [] (h s c) tt

  loop_low : (look : Look) (next body : Walk) → Lows known sc look → LowsWalk next → LowsWalk body → LowsWalk (walk_loop look next body)
  loop_low look next body h k j s c = before_both n _ _ (h s _) (before_both n _ _ (k s _) (j s _))

  arms_low : (xs : List ArmWalk) → All (λ (x : ArmWalk). (walk : Walk) → LowsWalk walk → LowsWalk (x walk)) xs → (walk : Walk) → LowsWalk walk → LowsWalk (walk_arms xs walk)
  arms_low [] e walk h = h
  arms_low (x ∷ xs) e walk h = e.0 (walk_arms xs walk) (arms_low xs e.1 walk h)

  abbrev LW : Walk → Scoping → Type 0
  LW walk a = (scope : Scope) → (a scope).well ≡ true → LowsWalk walk

  abbrev LArm : ArmWalk → Scoping → Type 0
  LArm arm a = (scope : Scope) → (a scope).well ≡ true → (walk : Walk) → LowsWalk walk → LowsWalk (arm walk)

  block_low : (ps : List (Pair LW)) (scope : Scope) → (scope_all (map (λ (p : Pair LW). p.1) ps) scope).well ≡ true → All LowsWalk (map (λ (p : Pair LW). p.0) ps)
  block_low [] scope h = tt
  block_low (p ∷ ps) scope h = let k = both (p.1 scope).well _ h in (p.2 scope k.0, block_low ps (p.1 scope).after k.1)

  if_low : (ps : List (Pair LArm)) (other : Scoping) (scope : Scope) → (scope_arms (map (λ (p : Pair LArm). p.1) ps) other scope).well ≡ true → All (λ (x : ArmWalk). (walk : Walk) → LowsWalk walk → LowsWalk (x walk)) (map (λ (p : Pair LArm). p.0) ps) × ((scope : Scope) × ((other scope).well ≡ true))
  if_low [] other scope h = (tt, (scope, h))
  if_low (p ∷ ps) other scope h =
      let k = both (p.1 scope).well _ h in
      let r = if_low ps other (p.1 scope).after k.1 in
      ((p.2 scope k.0, r.0), r.1)

  test_low : (test : Operand) (scope : Scope) → is_scalar kind.Bool (operand_type sc scope.variables test) ≡ true → Lows known sc (look_operand known test)
  test_low test scope p = operand_low known sc scope.variables test (scalar_well kind.Bool (operand_type sc scope.variables test) p)

  declaration_low : (d : Declaration) (scope : Scope) → (scope_declaration sc result d scope).well ≡ true → LowsWalk (walk_declaration known d)
  declaration_low d scope p = set_low (Variable d.variable) (look_first known d.first) (first_low known sc scope.variables result d.shape d.first (has_well (first_type sc result scope.variables d.shape d.first) _ _ (both _ _ (both _ _ p).1).1))

  assignment_low : (d : Assignment) (scope : Scope) → (scope_assignment sc result d scope).well ≡ true → LowsWalk (walk_assignment known d)
  assignment_low d scope p =
      let k = both ((place_type sc scope.variables d.place).is_assignable && (place_type sc scope.variables d.place).type.well) _ p in
      set_low (Variable (look_place known d.place).variable) (look_assignment known d) (all_low known sc ((look_place known d.place).indices ∷ look_operand known d.value ∷ [])
      (place_low known sc scope.variables d.place (both _ _ k.0).1, (operand_low known sc scope.variables d.value (has_well (operand_type sc scope.variables d.value) _ _ (both _ _ k.1).0), tt)))

  start_low : (f : ForStart) (scope : Scope) → (scope_start sc result f scope).well ≡ true → LowsWalk (walk_start known f)
  start_low (start.Declare d) scope p = declaration_low d scope (both _ _ p).1
  start_low (start.Assign d) scope p = assignment_low d scope p

  item_low : (i : PrintItem) (scope : Scope) → (item_type sc result scope.variables i).well ≡ true → Lows known sc (look_item known i)
  item_low (item.Text text) scope p = λ s c. tt
  item_low (item.Value e) scope p = expr_low known sc scope.variables e (both _ _ p).0

  items_low : (is : List PrintItem) (scope : Scope) → (scope_items sc result is scope).well ≡ true → Lows known sc (look_items known is)
  items_low [] scope p s c = tt
  items_low (i ∷ is) scope p s c = let k = both (item_type sc result scope.variables i).well _ p in before_both n _ _ (item_low i scope k.0 s c) (items_low is scope k.1 s c)

  in_arm : KeepsArm LW LArm (walk_arm known) (scope_arm sc result)
  in_arm y scope p walk h =
      let k = both (is_scalar kind.Bool (operand_type sc scope.variables y.test) && true) (y.body.1 scope).well p in
      tested_low (look_operand known y.test) (walk_all (y.body.0 ∷ walk ∷ [])) (test_low y.test scope (both _ _ k.0).0) (walks_low (y.body.0 ∷ walk ∷ []) (y.body.2 scope k.1, (h, tt)))

  for_low : (f : ForStart) (test : Operand) (d : Assignment) (body : Pair LW) (stands : Bool) (scope : Scope) → (scope_for sc result (scope_start sc result f) test (scope_assignment sc result d) body.1 stands scope).well ≡ true → LowsWalk (walk_for known f (look_operand known test) d body.0)
  for_low f test d body stands scope p =
      let k = both (scope_start sc result f scope).well _ p in
      let within : Scope = (scope_start sc result f scope).after in
      let l = both _ _ (both _ true k.1).0 in
      let b = both (body.1 within).well _ l.1 in
      walks_low (walk_placed (walk_start known f) ∷ walk_loop (look_operand known test) (walk_placed (walk_assignment known d)) body.0 ∷ [])
      (start_low f scope k.0, (loop_low (look_operand known test) (walk_placed (walk_assignment known d)) body.0 (test_low test within (both _ _ l.0).0) (assignment_low d (own_scope body.1 within).after (both _ true b.1).0) (body.2 within b.0), tt))

  in_statements : KeepsStatement LW LArm (walk_form known) (scope_step sc result)
  in_statements Empty = λ scope p. nothing_low
  in_statements (Block ws) = λ scope p. walks_low _ (block_low ws scope p)
  in_statements (Declare d) = λ scope p. declaration_low d scope p
  in_statements (Assign d) = λ scope p. assignment_low d scope p
  in_statements (Call c) = λ scope p. call_form_low known sc scope.variables c p
  in_statements (If arms None) = λ scope p. arms_low _ (if_low arms (simple true 0) scope (both _ _ p).1).0 no_walk nothing_low
  in_statements (If arms (Some b)) = λ scope p. let k = if_low arms (scope_otherwise (Some b.1)) scope (both _ _ p).1 in arms_low _ k.0 b.0 (b.2 k.1.0 k.1.1)
  in_statements (While test body node) = λ scope p. let k = both _ (body.1 scope).well p in loop_low (look_operand known test) no_walk body.0 (test_low test scope (both _ _ k.0).0) nothing_low (body.2 scope k.1)
  in_statements (For first test next body node) = λ scope p. for_low first test next body _ scope p
  in_statements (Return o) = λ scope p. set_low Result (look_returned known o) (returned_low known sc scope.variables result o (has_well (left_type sc result scope.variables o) _ _ p))
  in_statements (Print items) = λ scope p. items_low items scope (both _ _ p).1

  pub statement_low : (e : TypedStatement) (scope : Scope) → (scope_statement sc result e scope).well ≡ true → LowsWalk (walk_statement known e)
  statement_low e = statement_pair LW LArm (walk_form known) (walk_arm known) (scope_step sc result) (scope_arm sc result) in_statements in_arm e

-- ---- functions

plus_none : (n : ℕ) → n ≡ n + 0
plus_none n = omega arith

none_plus : (a b : ℕ) → a ≡ 0 + b → a ≡ b
none_plus a b h = omega arith

plus_one : (a b c m : ℕ) → a ≡ b + m → b ≡ suc c → a ≡ c + suc m
plus_one a b c m h k = omega arith

-- a function of those that stand does so by as many as are before it
stands_at : (sc : Scene) (functions : List Function) (m : ℕ) (f : Function) → slice_get functions m ≡ Some f → functions_stand sc functions ≡ true → (scene : Scene) × ((function_stands scene f ≡ true) × (length scene.functions ≡ length sc.functions + m))
stands_at sc [] m f e h = absurd (none_some e) where
  none_some : {A : Type 0} {a : A} → ◌≡◌ {A = Option A} None (Some a) → ⊥
  none_some e = cc
stands_at sc (g ∷ functions) zero f e h = (sc, (subst (λ f. function_stands sc f ≡ true) (some_same e) (both _ _ h).0, plus_none (length sc.functions))) where
  some_same : {A : Type 0} {x y : A} → Some x ≡ Some y → x ≡ y
  some_same {A} {x} {y} e = ap (from x) e where
    from : A → Option A → A
    from d None = d
    from d (Some z) = z
stands_at sc (g ∷ functions) (suc m) f e h =
    let r = stands_at (with_functions sc (sc.functions ++ function_signature sc g ∷ [])) functions m f e (both _ _ h).1 in
    let l : length (sc.functions ++ function_signature sc g ∷ []) ≡ suc (length sc.functions) = length_more sc.functions (function_signature sc g) in
    let k : length r.0.functions ≡ length (sc.functions ++ function_signature sc g ∷ []) + m = r.1.1 in
    (r.0, (r.1.0, plus_one (length r.0.functions) (length (sc.functions ++ function_signature sc g ∷ [])) (length sc.functions) m k l)) where
      length_more : {A : Type 0} (xs : List A) (x : A) → length (xs ++ x ∷ []) ≡ suc (length xs)
      length_more [] x = refl
      length_more (y ∷ xs) x = ap suc (length_more xs x)

pub calls_lower : CallsLower
calls_lower d defined known i = at (slice_get d.functions i.function) refl where
  at : (o : Option Function) → slice_get d.functions i.function ≡ o → AllBefore i.function (found_of known d.functions o i).calls
  at None e = tt
  at (Some f) e =
      let r = stands_at (scene_before d) d.functions i.function f e (both _ _ (both _ _ defined.stand).1).1 in
      let sc : Scene = r.0 in
      let well : (body_scope sc f).well ≡ true = (both _ _ (both _ _ (both _ _ (both _ _ r.1.0).1).0).0).0 in
      subst (λ n. AllBefore n (found_of known d.functions (Some f) i).calls) (none_plus (length sc.functions) i.function r.1.1)
      (statement_low (before i.function known) (inside sc f) (result_type f.result) f.body (first_scope (signature_of 0 f).formals f.variables) well (around d.functions i (known i)) i.control)
