-- What is found in a statement, by its form: its place, and then what is in it.
use Rattle.std.proofs.Common.{◌≡◌, List, [], ◌∷◌, map, Option, Some, None, Result, Ok, Err, Bool, false, ◌||◌, ap, sym, ◌∙◌, subst, refl}
use Rattle.ctl_base.specs.declared.kind.Node.{Node}
use Rattle.ctl_types.specs.declared.expression.Operand.{Operand}
use Rattle.ctl_types.specs.declared.expression.TypedCall.{TypedCall}
use Rattle.ctl_types.specs.declared.statement.Declaration.{Declaration}
use Rattle.ctl_types.specs.declared.statement.Assignment.{Assignment}
use Rattle.ctl_types.specs.declared.statement.ForStart.{ForStart}
use Rattle.ctl_types.specs.declared.statement.PrintItem.{PrintItem}
use Rattle.ctl_types.specs.declared.statement.TypedStatement.{TypedStatement, roll-TypedStatement}
use Rattle.ctl_types.specs.declared.statement.TypedStatement.TheVariants as variant
use Rattle.ctl_types.specs.declared.statement.TypedStatement.TheOpen as layer
use Rattle.ctl_types.specs.declared.statement.TypedStatement.TheFolds.{fold-roll-TypedStatement, map-TypedStatement}
use Rattle.ctl_types.specs.declared.statement.Arm.{Arm}
use Rattle.level_rules.specs.declared.found.Found.{Found}
use Rattle.level_rules.specs.Rules.{Known, Around, Walked, Walk, ArmWalk, both_found, place_found, no_walk, walk_look, walk_all, walk_arms, walk_otherwise, walk_placed, walk_loop, walk_return, walk_declaration, walk_assignment, walk_start, walk_for, loop_leaves, loop_control, look_operand, look_call, look_items, look_returned, walk_form, walk_arm, walk_statement}
use Rattle.level_sets.specs.Scene.{SceneForm, known_of, around_of, Walks, Leaves, arm_walk, otherwise_walk}
use Rattle.level_sets.proofs.Lists.{both_nothing, then_found, or_false}
use Rattle.level_sets.proofs.Walks.{start_stays}

module _ (s : SceneForm) where
  abbrev known : Known
  known = known_of s

  abbrev around : Around
  around = around_of s

  -- a layer whose statements and arms are walked through
  layer_is : (x : layer.TypedStatement-F TypedStatement Arm) → walk_statement known (roll-TypedStatement x) ≡ walk_form known (map-TypedStatement TypedStatement Arm Walk ArmWalk (walk_statement known) (arm_walk s) x)
  layer_is x = fold-roll-TypedStatement Walk ArmWalk (walk_form known) (walk_arm known) x

  pub block_is : (e : TypedStatement) (ss : List TypedStatement) → e ≡ variant.Block ss → walk_statement known e ≡ walk_placed (walk_all (map (walk_statement known) ss))
  block_is e ss h = ap (walk_statement known) (h ∙ sym (variant.rolls-Block ss)) ∙ layer_is (layer.Block ss)

  pub declare_is : (e : TypedStatement) (d : Declaration) → e ≡ variant.Declare d → walk_statement known e ≡ walk_placed (walk_declaration known d)
  declare_is e d h = ap (walk_statement known) (h ∙ sym (variant.rolls-Declare d)) ∙ layer_is (layer.Declare d)

  pub assign_is : (e : TypedStatement) (a : Assignment) → e ≡ variant.Assign a → walk_statement known e ≡ walk_placed (walk_assignment known a)
  assign_is e a h = ap (walk_statement known) (h ∙ sym (variant.rolls-Assign a)) ∙ layer_is (layer.Assign a)

  pub call_form_is : (e : TypedStatement) (t : TypedCall) → e ≡ variant.Call t → walk_statement known e ≡ walk_placed (walk_look (look_call known t))
  call_form_is e t h = ap (walk_statement known) (h ∙ sym (variant.rolls-Call t)) ∙ layer_is (layer.Call t)

  pub if_is : (e : TypedStatement) (arms : List Arm) (o : Option TypedStatement) → e ≡ variant.If arms o → walk_statement known e ≡ walk_placed (walk_arms (map (arm_walk s) arms) (walk_otherwise (otherwise_walk s o)))
  if_is e arms None h = ap (walk_statement known) (h ∙ sym (variant.rolls-If arms None)) ∙ layer_is (layer.If arms None)
  if_is e arms (Some o) h = ap (walk_statement known) (h ∙ sym (variant.rolls-If arms (Some o))) ∙ layer_is (layer.If arms (Some o))

  pub while_is : (e : TypedStatement) (t : Operand) (b : TypedStatement) (node : Node) → e ≡ variant.While t b node → walk_statement known e ≡ walk_placed (walk_loop (look_operand known t) no_walk (walk_statement known b))
  while_is e t b node h = ap (walk_statement known) (h ∙ sym (variant.rolls-While t b node)) ∙ layer_is (layer.While t b node)

  pub for_is : (e : TypedStatement) (f : ForStart) (t : Operand) (a : Assignment) (b : TypedStatement) (node : Node) → e ≡ variant.For f t a b node → walk_statement known e ≡ walk_placed (walk_for known f (look_operand known t) a (walk_statement known b))
  for_is e f t a b node h = ap (walk_statement known) (h ∙ sym (variant.rolls-For f t a b node)) ∙ layer_is (layer.For f t a b node)

  pub return_is : (e : TypedStatement) (o : Option Operand) → e ≡ variant.Return o → walk_statement known e ≡ walk_placed (walk_return (look_returned known o))
  return_is e o h = ap (walk_statement known) (h ∙ sym (variant.rolls-Return o)) ∙ layer_is (layer.Return o)

  pub print_is : (e : TypedStatement) (items : List PrintItem) → e ≡ variant.Print items → walk_statement known e ≡ walk_placed (walk_look (look_items known items))
  print_is e items h = ap (walk_statement known) (h ∙ sym (variant.rolls-Print items)) ∙ layer_is (layer.Print items)

  -- ---- the place, and then what is in the statement

  pub placed_gives : {E : Type 0} (e : TypedStatement) (w : Walk) (c : Bool) (old mid new : Found) (r : Result Bool E) → walk_statement known e ≡ walk_placed w → mid ≡ both_found old (place_found c) → Walks mid new (w around c) r → Walks old new (walk_statement known e around c) r
  placed_gives e w c old mid new (Ok v) h m k =
      let q : walk_placed w around c ≡ walk_statement known e around c = sym (ap (λ (w : Walk). w around c) h) in
      (k.0 ∙ ap (λ (x : Walked). x.leaves) q, then_found old mid new _ _ m k.1 ∙ ap (λ (x : Walked). both_found old x.found) q)
  placed_gives e w c old mid new (Err e') h m k = tt

  pub placed_leaves : {E : Type 0} (e : TypedStatement) (w : Walk) (c : Bool) (r : Result Bool E) → walk_statement known e ≡ walk_placed w → Leaves (w around c).leaves r → Leaves (walk_statement known e around c).leaves r
  placed_leaves e w c (Ok v) h k = k ∙ sym (ap (λ (w : Walk). (w around c).leaves) h)
  placed_leaves e w c (Err e') h k = tt

  pub block_gives : {E : Type 0} (e : TypedStatement) (ss all : List TypedStatement) (c : Bool) (old mid new : Found) (r : Result Bool E) → e ≡ variant.Block ss → all ≡ ss → mid ≡ both_found old (place_found c) → Walks mid new (walk_all (map (walk_statement known) all) around c) r → Walks old new (walk_statement known e around c) r
  block_gives e ss all c old mid new r h a m k = placed_gives e (walk_all (map (walk_statement known) ss)) c old mid new r (block_is e ss h) m (subst (λ all. Walks mid new (walk_all (map (walk_statement known) all) around c) r) a k)

  pub block_leaves : {E : Type 0} (e : TypedStatement) (ss all : List TypedStatement) (c : Bool) (r : Result Bool E) → e ≡ variant.Block ss → all ≡ ss → Leaves (walk_all (map (walk_statement known) all) around c).leaves r → Leaves (walk_statement known e around c).leaves r
  block_leaves e ss all c r h a k = placed_leaves e (walk_all (map (walk_statement known) ss)) c r (block_is e ss h) (subst (λ all. Leaves (walk_all (map (walk_statement known) all) around c).leaves r) a k)

  pub declare_gives : {E : Type 0} (e : TypedStatement) (d got : Declaration) (c : Bool) (old mid new : Found) (r : Result Bool E) → e ≡ variant.Declare d → got ≡ d → mid ≡ both_found old (place_found c) → Walks mid new (walk_declaration known got around c) r → Walks old new (walk_statement known e around c) r
  declare_gives e d got c old mid new r h a m k = placed_gives e (walk_declaration known d) c old mid new r (declare_is e d h) m (subst (λ d. Walks mid new (walk_declaration known d around c) r) a k)

  pub assign_gives : {E : Type 0} (e : TypedStatement) (d got : Assignment) (c : Bool) (old mid new : Found) (r : Result Bool E) → e ≡ variant.Assign d → got ≡ d → mid ≡ both_found old (place_found c) → Walks mid new (walk_assignment known got around c) r → Walks old new (walk_statement known e around c) r
  assign_gives e d got c old mid new r h a m k = placed_gives e (walk_assignment known d) c old mid new r (assign_is e d h) m (subst (λ d. Walks mid new (walk_assignment known d around c) r) a k)

  pub call_statement : (e : TypedStatement) (t got : TypedCall) (c v : Bool) (old mid new : Found) → e ≡ variant.Call t → got ≡ t → mid ≡ both_found old (place_found c) → (v ≡ (look_call known got around c).varies) × (new ≡ both_found mid (look_call known got around c).found) → (false ≡ (walk_statement known e around c).leaves) × (new ≡ both_found old (walk_statement known e around c).found)
  call_statement e t got c v old mid new h a m k = placed_gives {E = Unit {0}} e (walk_look (look_call known t)) c old mid new (Ok false) (call_form_is e t h) m (refl, k.1 ∙ ap (λ t. both_found mid (look_call known t around c).found) a)

  pub print_statement : (e : TypedStatement) (is got : List PrintItem) (c v : Bool) (old mid new : Found) → e ≡ variant.Print is → got ≡ is → mid ≡ both_found old (place_found c) → (v ≡ (look_items known got around c).varies) × (new ≡ both_found mid (look_items known got around c).found) → (false ≡ (walk_statement known e around c).leaves) × (new ≡ both_found old (walk_statement known e around c).found)
  print_statement e is got c v old mid new h a m k = placed_gives {E = Unit {0}} e (walk_look (look_items known is)) c old mid new (Ok false) (print_is e is h) m (refl, k.1 ∙ ap (λ is. both_found mid (look_items known is around c).found) a)

  pub if_gives : {E : Type 0} (e : TypedStatement) (arms all : List Arm) (o : Option TypedStatement) (c : Bool) (old mid new : Found) (r : Result Bool E) → e ≡ variant.If arms o → all ≡ arms → mid ≡ both_found old (place_found c) → Walks mid new (walk_arms (map (arm_walk s) all) (walk_otherwise (otherwise_walk s o)) around c) r → Walks old new (walk_statement known e around c) r
  if_gives e arms all o c old mid new r h a m k = placed_gives e (walk_arms (map (arm_walk s) arms) (walk_otherwise (otherwise_walk s o))) c old mid new r (if_is e arms o h) m (subst (λ all. Walks mid new (walk_arms (map (arm_walk s) all) (walk_otherwise (otherwise_walk s o)) around c) r) a k)

  pub if_leaves : {E : Type 0} (e : TypedStatement) (arms all : List Arm) (o : Option TypedStatement) (c : Bool) (r : Result Bool E) → e ≡ variant.If arms o → all ≡ arms → Leaves (walk_arms (map (arm_walk s) all) (walk_otherwise (otherwise_walk s o)) around c).leaves r → Leaves (walk_statement known e around c).leaves r
  if_leaves e arms all o c r h a k = placed_leaves e (walk_arms (map (arm_walk s) arms) (walk_otherwise (otherwise_walk s o))) c r (if_is e arms o h) (subst (λ all. Leaves (walk_arms (map (arm_walk s) all) (walk_otherwise (otherwise_walk s o)) around c).leaves r) a k)

  pub while_gives : {E : Type 0} (e : TypedStatement) (t t' : Operand) (b b' : TypedStatement) (node : Node) (c : Bool) (old mid new : Found) (r : Result Bool E) → e ≡ variant.While t b node → t' ≡ t → b' ≡ b → mid ≡ both_found old (place_found c) → Walks mid new (walk_loop (look_operand known t') no_walk (walk_statement known b') around c) r → Walks old new (walk_statement known e around c) r
  while_gives e t t' b b' node c old mid new r h p q m k = placed_gives e (walk_loop (look_operand known t) no_walk (walk_statement known b)) c old mid new r (while_is e t b node h) m
      (subst (λ b. Walks mid new (walk_loop (look_operand known t) no_walk (walk_statement known b) around c) r) q (subst (λ t. Walks mid new (walk_loop (look_operand known t) no_walk (walk_statement known b') around c) r) p k))

  pub return_gives : {E : Type 0} (e : TypedStatement) (o : Option Operand) (c : Bool) (old mid new : Found) (r : Result Bool E) → e ≡ variant.Return o → mid ≡ both_found old (place_found c) → Walks mid new (walk_return (look_returned known o) around c) r → Walks old new (walk_statement known e around c) r
  return_gives e o c old mid new r h m k = placed_gives e (walk_return (look_returned known o)) c old mid new r (return_is e o h) m k

  -- how a `for` begins, and then its loop
  for_walked : {E : Type 0} (f : ForStart) (w : Walk) (c v : Bool) (mid placed started new : Found) (r : Result Bool E) → placed ≡ both_found mid (place_found c) → (v ≡ (walk_start known f around c).leaves) × (started ≡ both_found placed (walk_start known f around c).found) → Walks started new (w around c) r → Walks mid new (walk_all (walk_placed (walk_start known f) ∷ w ∷ []) around c) r
  for_walked f w c v mid placed started new (Ok x) p q k =
      let stays = start_stays known f around c in
      let d : c ≡ (c || (walk_start known f around c).leaves) = sym (ap (λ l. c || l) stays ∙ or_false c) in (
        k.0 ∙ ap (λ c. (w around c).leaves) d ∙ sym (or_false _) ∙ ap (λ l. l || ((w around (c || (walk_start known f around c).leaves)).leaves || false)) (sym stays),
        then_found mid started new _ _ (then_found mid placed started _ _ p q.1) k.1
            ∙ ap (λ c'. both_found mid (both_found (both_found (place_found c) (walk_start known f around c).found) (w around c').found)) d
            ∙ ap (λ n. both_found mid (both_found (both_found (place_found c) (walk_start known f around c).found) n)) (sym (both_nothing _)),
      )
  for_walked f w c v mid placed started new (Err e) p q k = tt

  pub for_gives : {E : Type 0} (e : TypedStatement) (f f' : ForStart) (t t' : Operand) (a a' : Assignment) (b b' : TypedStatement) (node : Node) (c v : Bool) (old mid placed started new : Found) (r : Result Bool E) → e ≡ variant.For f t a b node → f' ≡ f → t' ≡ t → a' ≡ a → b' ≡ b → mid ≡ both_found old (place_found c) → placed ≡ both_found mid (place_found c) → (v ≡ (walk_start known f' around c).leaves) × (started ≡ both_found placed (walk_start known f' around c).found) → Walks started new (walk_loop (look_operand known t') (walk_placed (walk_assignment known a')) (walk_statement known b') around c) r → Walks old new (walk_statement known e around c) r
  for_gives e f f' t t' a a' b b' node c v old mid placed started new r h i j k l m n o q =
      placed_gives e (walk_for known f (look_operand known t) a (walk_statement known b)) c old mid new r (for_is e f t a b node h) m
      (for_walked f (walk_loop (look_operand known t) (walk_placed (walk_assignment known a)) (walk_statement known b)) c v mid placed started new r n
      (subst (λ f. (v ≡ (walk_start known f around c).leaves) × (started ≡ both_found placed (walk_start known f around c).found)) i o)
      (subst (λ b. Walks started new (walk_loop (look_operand known t) (walk_placed (walk_assignment known a)) (walk_statement known b) around c) r) l
      (subst (λ a. Walks started new (walk_loop (look_operand known t) (walk_placed (walk_assignment known a)) (walk_statement known b') around c) r) k
      (subst (λ t. Walks started new (walk_loop (look_operand known t) (walk_placed (walk_assignment known a')) (walk_statement known b') around c) r) j q))))

  -- the turns of a `for`
  pub turns_give : (t : Operand) (a : Assignment) (b : TypedStatement) (c l d x y z : Bool) (old placed looked again stepped new : Found) → l ≡ loop_leaves (look_operand known t) (walk_statement known b) around c → d ≡ loop_control (look_operand known t) (walk_statement known b) around c →
      placed ≡ both_found old (place_found d) → (x ≡ (look_operand known t around d).varies) × (looked ≡ both_found placed (look_operand known t around d).found) →
      again ≡ both_found looked (place_found d) → (y ≡ (walk_assignment known a around d).leaves) × (stepped ≡ both_found again (walk_assignment known a around d).found) →
      (z ≡ (walk_statement known b around d).leaves) × (new ≡ both_found stepped (walk_statement known b around d).found) →
      (l ≡ (walk_loop (look_operand known t) (walk_placed (walk_assignment known a)) (walk_statement known b) around c).leaves) × (new ≡ both_found old (walk_loop (look_operand known t) (walk_placed (walk_assignment known a)) (walk_statement known b) around c).found)
  turns_give t a b c l d x y z old placed looked again stepped new h e p q r u w =
      let n = both_found (place_found d) (walk_assignment known a around d).found in
      let i : looked ≡ both_found old (both_found (place_found d) (look_operand known t around d).found) = then_found old placed looked _ _ p q.1 in
      let j : stepped ≡ both_found looked n = then_found looked again stepped _ _ r u.1 in
      let k : new ≡ both_found looked (both_found n (walk_statement known b around d).found) = then_found looked stepped new _ _ j w.1 in
      (h, then_found old looked new _ _ i k ∙ ap (λ d. both_found old (both_found (both_found (place_found d) (look_operand known t around d).found) (both_found (both_found (place_found d) (walk_assignment known a around d).found) (walk_statement known b around d).found))) e)
