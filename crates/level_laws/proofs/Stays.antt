-- A place of varying control assigns nothing that does not vary.
use Rattle.std.proofs.Common.{ℕ, List, [], ◌∷◌, map, Option, Some, None, Ok, Err, true, false, refl}
use Rattle.ctl_base.specs.declared.kind.Node.{Node}
use Rattle.ctl_types.specs.declared.expression.Argument.TheOpen as form
use Rattle.ctl_types.specs.declared.expression.Argument.TheOpen.{Argument-F, TypedExpr-F, TypedStep-F}
use Rattle.ctl_types.specs.declared.expression.Argument.TheFolds.{map-Argument, map-TypedExpr, map-TypedStep}
use Rattle.ctl_types.specs.declared.expression.TypedExpr.{TypedExpr}
use Rattle.ctl_types.specs.declared.expression.Operand.{Operand}
use Rattle.ctl_types.specs.declared.expression.TypedCall.{TypedCall}
use Rattle.ctl_types.specs.declared.expression.TypedPlace.{TypedPlace}
use Rattle.ctl_types.specs.declared.value.Value.{Value}
use Rattle.ctl_types.specs.declared.shape.LocalShape.{LocalShape}
use Rattle.ctl_types.specs.declared.statement.Initialiser.{Initialiser}
use Rattle.ctl_types.specs.declared.statement.Initialiser.TheOpen as initial
use Rattle.ctl_types.specs.declared.statement.Declaration.{Declaration}
use Rattle.ctl_types.specs.declared.statement.Assignment.{Assignment}
use Rattle.ctl_types.specs.declared.statement.ForStart.{ForStart}
use Rattle.ctl_types.specs.declared.statement.ForStart.TheVariants as start
use Rattle.ctl_types.specs.declared.statement.PrintItem.{PrintItem}
use Rattle.ctl_types.specs.declared.statement.PrintItem.TheVariants as item
use Rattle.ctl_types.specs.declared.statement.TypedStatement.{TypedStatement}
use Rattle.ctl_types.specs.declared.statement.TypedStatement.TheOpen.{Empty, Block, Declare, Assign, Call, If, While, For, Return, Print}
use Rattle.ctl_types.specs.Pairs.{Pair, KeepsExprs, KeepsInitialiser, KeepsStatement, KeepsArm, expr_pair, operand_pair, call_pair, place_pair, initialiser_pair, statement_pair}
use Rattle.ctl_types.specs.Run.{End, Normal, Pixel, Outcome, Run, give, visited, sequence, loop_run, Setting, StepRun, LinkRun, PlaceRun, ArgumentRun, listed, decider, argument_step, step_step, run_fold, expr_step, run_expr, run_operand, run_call, run_place, first_value, run_item, run_items, left_value, run_declaration, run_assignment, run_start, ArmRun, statement_step, arm_step, run_statement}
use Rattle.ctl_types.specs.Run.{initialiser_step as initialiser_run_step}
use Rattle.level_rules.specs.Rules.{VaryingSet, Known, Around, Look, seen_all, PlaceLook, ArgumentLook, look_argument, look_step, look_form, look_fold, look_expr, look_operand, look_call, look_place, initialiser_step, look_first, look_item, look_items, look_returned, Walk, ArmWalk, no_walk, walk_look, walk_arms, walk_return, walk_for, tested, walk_all, walk_placed, walk_loop, walk_declaration, walk_assignment, walk_start, walk_arm, walk_form, walk_statement}
use Rattle.level_rules.specs.Levels.{AllIn}
use Rattle.level_laws.specs.Uniform.{Stays, VaryingPlaces}
use Rattle.level_laws.proofs.Envs.{all_left, all_right}
use Rattle.level_laws.proofs.Runs.{anything, Keeps, Still, still_then, still_give, still_held, still_evaluated}
use Rattle.level_laws.proofs.Likes.{like_alone, like_sized}
use Rattle.level_laws.proofs.Stills.{Each, StillOf, StillStep, StillLink, StillPlace, StillArgument, steps_still, place_still, linked_still, decided_still, call_still, converted_still, index_still, field_still, link_still, input_still, output_still}
use Rattle.level_laws.proofs.Calm.{Calm, StillWalk, StillArm, sequence_still, visited_still, nothing_still, arm_still, arms_still, while_still, for_still, declared_still, assigned_still, alone_still, returned_still}

-- the pairs of a list, one by one
pub pairs_each : {A B : Type 0} (R : A → B → Type 0) (ps : List (Pair R)) → Each R (map (λ (p : Pair R). p.0) ps) (map (λ (p : Pair R). p.1) ps)
pairs_each R [] = tt
pairs_each R (p ∷ ps) = (p.2, pairs_each R ps)

module _ (C : Type 0) (pay : ℕ → C → C) (known : Known) (a : Around) (s : Setting C pay) where
  abbrev w : VaryingSet
  w = a.set

  abbrev RE : Look → Run C pay Value → Type 0
  RE = StillOf C pay a

  abbrev RS : Look → StepRun C pay → Type 0
  RS = StillStep C pay a

  abbrev RL : Look → LinkRun C pay → Type 0
  RL = StillLink C pay a

  abbrev RP : PlaceLook → PlaceRun C pay → Type 0
  RP = StillPlace C pay a

  abbrev RA : ArgumentLook → ArgumentRun C pay → Type 0
  RA = StillArgument C pay a

  in_argument : (y : Argument-F (Pair RA) (Pair RE) (Pair RS) (Pair RE) (Pair RE) (Pair RL) (Pair RP)) → RA (look_argument (map-Argument (Pair RA) (Pair RE) (Pair RS) (Pair RE) (Pair RE) (Pair RL) (Pair RP) ArgumentLook Look Look Look Look Look PlaceLook (λ e. e.0) (λ e. e.0) (λ e. e.0) (λ e. e.0) (λ e. e.0) (λ e. e.0) (λ e. e.0) y)) (argument_step C pay (map-Argument (Pair RA) (Pair RE) (Pair RS) (Pair RE) (Pair RE) (Pair RL) (Pair RP) (ArgumentRun C pay) (Run C pay Value) (StepRun C pay) (Run C pay Value) (Run C pay Value) (LinkRun C pay) (PlaceRun C pay) (λ e. e.1) (λ e. e.1) (λ e. e.1) (λ e. e.1) (λ e. e.1) (λ e. e.1) (λ e. e.1) y))
  in_argument (form.Input o node) = (tt, input_still C pay a o.0 o.1 o.2)
  in_argument (form.Output place c node) = (place.2.0, output_still C pay a place.0.indices place.1 c place.2.1)
  in_argument form.Missing = (tt, λ h. still_give C pay w anything _ tt)

  in_step : (y : TypedStep-F (Pair RA) (Pair RE) (Pair RS) (Pair RE) (Pair RE) (Pair RL) (Pair RP)) → RS (look_step (map-TypedStep (Pair RA) (Pair RE) (Pair RS) (Pair RE) (Pair RE) (Pair RL) (Pair RP) ArgumentLook Look Look Look Look Look PlaceLook (λ e. e.0) (λ e. e.0) (λ e. e.0) (λ e. e.0) (λ e. e.0) (λ e. e.0) (λ e. e.0) y)) (step_step C pay (map-TypedStep (Pair RA) (Pair RE) (Pair RS) (Pair RE) (Pair RE) (Pair RL) (Pair RP) (ArgumentRun C pay) (Run C pay Value) (StepRun C pay) (Run C pay Value) (Run C pay Value) (LinkRun C pay) (PlaceRun C pay) (λ e. e.1) (λ e. e.1) (λ e. e.1) (λ e. e.1) (λ e. e.1) (λ e. e.1) (λ e. e.1) y))
  in_step (form.Index e node) = index_still C pay a e.0 e.1 node e.2
  in_step (form.Field n) = field_still C pay a n

  in_expr : (y : TypedExpr-F (Pair RA) (Pair RE) (Pair RS) (Pair RE) (Pair RE) (Pair RL) (Pair RP)) → RE (look_form known (map-TypedExpr (Pair RA) (Pair RE) (Pair RS) (Pair RE) (Pair RE) (Pair RL) (Pair RP) ArgumentLook Look Look Look Look Look PlaceLook (λ e. e.0) (λ e. e.0) (λ e. e.0) (λ e. e.0) (λ e. e.0) (λ e. e.0) (λ e. e.0) y)) (expr_step C pay s (map-TypedExpr (Pair RA) (Pair RE) (Pair RS) (Pair RE) (Pair RE) (Pair RL) (Pair RP) (ArgumentRun C pay) (Run C pay Value) (StepRun C pay) (Run C pay Value) (Run C pay Value) (LinkRun C pay) (PlaceRun C pay) (λ e. e.1) (λ e. e.1) (λ e. e.1) (λ e. e.1) (λ e. e.1) (λ e. e.1) (λ e. e.1) y))
  in_expr (form.Literal x) h = still_evaluated C pay w anything _ (still_give C pay w anything _ tt)
  in_expr (form.Constant n) h = still_evaluated C pay w anything _ (still_held C pay w anything _ _ (λ v e. still_give C pay w anything v tt))
  in_expr (form.Variable x) h = still_evaluated C pay w anything _ (record { by = λ p. (still_held C pay w anything _ (give C pay) (λ v e. still_give C pay w anything v tt)).by p })
  in_expr (form.Unary op k o) h = still_evaluated C pay w anything _ (still_then C pay w anything anything o.1 _ (o.2 h) (λ v g. (like_alone C pay w op k v).left))
  in_expr (form.Chain o links) h = still_evaluated C pay w anything _ (still_then C pay w anything anything o.1 _ (o.2 (all_left w _ _ h)) (λ v g. linked_still C pay a _ _ (pairs_each RL links) v (all_right w (o.0 a true).found.puts _ h)))
  in_expr (form.Logic l os) h = still_evaluated C pay w anything _ (decided_still C pay a (decider l) _ _ (pairs_each RE os) h)
  in_expr (form.Path e steps) h = still_then C pay w anything anything e.1 _ (e.2 (all_left w _ _ h)) (λ v g. steps_still C pay a _ _ (pairs_each RS steps) v (all_right w (e.0 a true).found.puts _ h))
  in_expr (form.Size e size) h = still_evaluated C pay w anything _ (still_then C pay w anything anything e.1 _ (e.2 h) (λ v g. (like_sized C pay w _).left))
  in_expr (form.Call c) h = c.2 h

  in_exprs : KeepsExprs RA RE RS RE RE RL RP (look_fold known) (run_fold C pay s)
  in_exprs = record {
    argument = in_argument;
    expr = in_expr;
    step = in_step;
    operand = λ o. converted_still C pay a o.conversion o.value.0 o.value.1 o.value.2;
    call = λ c. call_still C pay a known s c.callee c.sizes c.node _ _ (pairs_each RA c.arguments);
    link = λ l. link_still C pay a l.operator l.kind l.left l.right.0 l.right.1 l.right.2;
    place = λ p. (refl, λ h. place_still C pay a _ _ (pairs_each RS p.steps) p.variable h);
  }

  pub of_expr : (e : TypedExpr) → RE (look_expr known e) (run_expr C pay s e)
  of_expr e = expr_pair _ _ _ _ _ _ _ (look_fold known) (run_fold C pay s) in_exprs e

  pub of_operand : (e : Operand) → RE (look_operand known e) (run_operand C pay s e)
  of_operand e = operand_pair _ _ _ _ _ _ _ (look_fold known) (run_fold C pay s) in_exprs e

  pub of_call : (e : TypedCall) → RE (look_call known e) (run_call C pay s e)
  of_call e = call_pair _ _ _ _ _ _ _ (look_fold known) (run_fold C pay s) in_exprs e

  pub of_place : (e : TypedPlace) → RP (look_place known e) (run_place C pay s e)
  of_place e = place_pair _ _ _ _ _ _ _ (look_fold known) (run_fold C pay s) in_exprs e

  -- ---- initialisers

  pub elements_still : (ls : List Look) (rs : List (Run C pay Value)) → Each RE ls rs → AllIn w (seen_all ls a true).found.puts → Still C pay w anything (listed C pay rs)
  elements_still [] [] e h = still_give C pay w anything [] tt
  elements_still [] (r ∷ rs) e h = absurd e
  elements_still (l ∷ ls) [] e h = absurd e
  elements_still (l ∷ ls) (r ∷ rs) e h = still_then C pay w anything anything r _ (e.0 (all_left w _ _ h)) (λ v g. still_then C pay w anything anything _ _ (elements_still ls rs e.1 (all_right w _ _ h)) (λ vs j. still_give C pay w anything (v ∷ vs) tt))

  in_initialisers : KeepsInitialiser RE (initialiser_step known) (initialiser_run_step C pay s)
  in_initialisers (initial.Value o) = of_operand o
  in_initialisers (initial.Elements shape is) = λ h. still_then C pay w anything anything _ _ (elements_still _ _ (pairs_each RE is) h) (λ vs g. still_give C pay w anything _ tt)
  in_initialisers (initial.Fields n is) = λ h. still_then C pay w anything anything _ _ (elements_still _ _ (pairs_each RE is) h) (λ vs g. still_give C pay w anything _ tt)

  pub of_first : (shape : LocalShape) (i : Option Initialiser) → RE (look_first known i) (first_value C pay s shape i)
  of_first shape None = λ h. still_give C pay w anything _ tt
  of_first shape (Some i) = initialiser_pair RE (initialiser_step known) (initialiser_run_step C pay s) in_initialisers i

  pub of_returned : (o : Option Operand) → RE (look_returned known o) (left_value C pay s o)
  of_returned None = λ h. still_give C pay w anything _ tt
  of_returned (Some o) = of_operand o

  pub of_item : (i : PrintItem) → AllIn w (look_item known i a true).found.puts → Still C pay w (Calm false) (run_item C pay s i)
  of_item (item.Text text) h = still_give C pay w (Calm false) Normal tt
  of_item (item.Value e) h = still_then C pay w anything (Calm false) _ _ (of_expr e h) (λ v g. still_give C pay w (Calm false) Normal tt)

  pub of_items : (is : List PrintItem) → AllIn w (look_items known is a true).found.puts → Still C pay w (Calm false) (run_items C pay s is)
  of_items [] h = still_give C pay w (Calm false) Normal tt
  of_items (i ∷ is) h = still_then C pay w (Calm false) (Calm false) _ _ (of_item i (all_left w _ _ h)) (λ e g. of_items is (all_right w (look_item known i a true).found.puts _ h))

  -- ---- statements

  abbrev RW : Walk → Run C pay End → Type 0
  RW = StillWalk C pay a

  abbrev RArm : ArmWalk → ArmRun C pay → Type 0
  RArm = StillArm C pay a

  pub of_declaration : (d : Declaration) → RW (walk_declaration known d) (run_declaration C pay s d)
  of_declaration d = declared_still C pay a s (look_first known d.first) (first_value C pay s d.shape d.first) d.variable d.shape (of_first d.shape d.first)

  pub of_assignment : (d : Assignment) → RW (walk_assignment known d) (run_assignment C pay s d)
  of_assignment d = assigned_still C pay a (look_place known d.place) (look_operand known d.value) (run_place C pay s d.place) (run_operand C pay s d.value) (of_place d.place) (of_operand d.value)

  pub of_start : (f : ForStart) → RW (walk_start known f) (run_start C pay s f)
  of_start (start.Declare d) = of_declaration d
  of_start (start.Assign d) = of_assignment d

  in_arm : KeepsArm RW RArm (walk_arm known) (arm_step C pay s)
  in_arm y walk rest h = visited_still C pay a (tested (look_operand known y.test) (walk_all (y.body.0 ∷ walk ∷ []))) _ (arm_still C pay a (look_operand known y.test) y.body.0 walk (run_operand C pay s y.test) y.body.1 rest (of_operand y.test) y.body.2 h)

  in_for : (f : ForStart) (t : Operand) (d : Assignment) (body : Pair RW) (node : Node) → RW (walk_for known f (look_operand known t) d body.0) (sequence C pay (visited C pay (run_start C pay s f) ∷ loop_run C pay node (run_operand C pay s t) (sequence C pay (body.1 ∷ visited C pay (run_assignment C pay s d) ∷ [])) ∷ []))
  in_for f t d body node = sequence_still C pay a
      (walk_placed (walk_start known f) ∷ walk_loop (look_operand known t) (walk_placed (walk_assignment known d)) body.0 ∷ [])
      (visited C pay (run_start C pay s f) ∷ loop_run C pay node (run_operand C pay s t) (sequence C pay (body.1 ∷ visited C pay (run_assignment C pay s d) ∷ [])) ∷ [])
      (visited_still C pay a (walk_start known f) _ (of_start f), (for_still C pay a (look_operand known t) (walk_placed (walk_assignment known d)) body.0 (run_operand C pay s t) (visited C pay (run_assignment C pay s d)) body.1 node refl (of_operand t) (visited_still C pay a (walk_assignment known d) _ (of_assignment d)) body.2, tt))

  in_statements : KeepsStatement RW RArm (walk_form known) (statement_step C pay s)
  in_statements Empty = visited_still C pay a no_walk _ (nothing_still C pay a)
  in_statements (Block ws) = visited_still C pay a (walk_all (map (λ (e : Pair RW). e.0) ws)) _ (sequence_still C pay a _ _ (pairs_each RW ws))
  in_statements (Declare d) = visited_still C pay a (walk_declaration known d) _ (of_declaration d)
  in_statements (Assign d) = visited_still C pay a (walk_assignment known d) _ (of_assignment d)
  in_statements (Call c) = visited_still C pay a (walk_look (look_call known c)) _ (alone_still C pay a (look_call known c) (run_call C pay s c) (of_call c))
  in_statements (If arms None) = visited_still C pay a (walk_arms (map (λ (e : Pair RArm). e.0) arms) no_walk) _ (arms_still C pay a _ _ (pairs_each RArm arms) no_walk (give C pay Normal) (nothing_still C pay a))
  in_statements (If arms (Some b)) = visited_still C pay a (walk_arms (map (λ (e : Pair RArm). e.0) arms) b.0) _ (arms_still C pay a _ _ (pairs_each RArm arms) b.0 b.1 b.2)
  in_statements (While test body node) = visited_still C pay a (walk_loop (look_operand known test) no_walk body.0) _ (while_still C pay a (look_operand known test) body.0 (run_operand C pay s test) body.1 node (of_operand test) body.2)
  in_statements (For first test next body node) = visited_still C pay a (walk_for known first (look_operand known test) next body.0) _ (in_for first test next body node)
  in_statements (Return o) = visited_still C pay a (walk_return (look_returned known o)) _ (returned_still C pay a (look_returned known o) (left_value C pay s o) (of_returned o))
  in_statements (Print items) = visited_still C pay a (walk_look (look_items known items)) _ (of_items items)

  of_statement : (e : TypedStatement) → RW (walk_statement known e) (run_statement C pay s e)
  of_statement e = statement_pair RW RArm (walk_form known) (walk_arm known) (statement_step C pay s) (arm_step C pay s) in_statements in_arm e

module _ (C : Type 0) (pay : ℕ → C → C) where
  stays : {V : Type 0} (w : VaryingSet) (good : V → Type 0) (p : Pixel C pay) (o : Outcome C pay V) → Keeps C pay w good p.env o → Stays C pay w p.env o
  stays w good p (Ok got) h = h.0
  stays w good p (Err fault) h = tt

  pub varying_places : VaryingPlaces C pay
  varying_places = record {
    statement = λ known a e h s p. stays a.set (Calm (walk_statement known e a true).leaves) p _ ((of_statement C pay known a s e h).by p);
    expr = λ known a e h s p. stays a.set anything p _ ((of_expr C pay known a s e h).by p);
  }
