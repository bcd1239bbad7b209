-- What is entered at a place of varying control has varying control.
use Rattle.std.proofs.Common.{ℕ, ◌+◌, List, [], ◌∷◌, ◌++◌, map, Option, Some, None, Bool, true, refl}
use Rattle.ctl_types.specs.declared.expression.Callee.{Callee}
use Rattle.ctl_types.specs.declared.expression.Callee.TheVariants as callee
use Rattle.ctl_types.specs.declared.expression.Argument.TheOpen as form
use Rattle.ctl_types.specs.declared.expression.Argument.TheOpen.{Argument-F, TypedExpr-F, TypedStep-F}
use Rattle.ctl_types.specs.declared.expression.Argument.TheFolds.{map-Argument, map-TypedExpr, map-TypedStep}
use Rattle.ctl_types.specs.declared.expression.TypedExpr.{TypedExpr}
use Rattle.ctl_types.specs.declared.expression.Operand.{Operand}
use Rattle.ctl_types.specs.declared.expression.TypedCall.{TypedCall}
use Rattle.ctl_types.specs.declared.expression.TypedPlace.{TypedPlace}
use Rattle.ctl_types.specs.declared.shape.Size.{Size}
use Rattle.ctl_types.specs.declared.statement.Initialiser.{Initialiser}
use Rattle.ctl_types.specs.declared.statement.Initialiser.TheOpen as initial
use Rattle.ctl_types.specs.declared.statement.Declaration.{Declaration}
use Rattle.ctl_types.specs.declared.statement.Assignment.{Assignment}
use Rattle.ctl_types.specs.declared.statement.ForStart.{ForStart}
use Rattle.ctl_types.specs.declared.statement.ForStart.TheVariants as start
use Rattle.ctl_types.specs.declared.statement.PrintItem.{PrintItem}
use Rattle.ctl_types.specs.declared.statement.PrintItem.TheVariants as item
use Rattle.ctl_types.specs.declared.statement.TypedStatement.TheOpen.{Empty, Block, Declare, Assign, Call, If, While, For, Return, Print}
use Rattle.ctl_types.specs.Pairs.{Pair, KeepsExprs, KeepsInitialiser, KeepsStatement, KeepsArm, expr_pair, operand_pair, call_pair, place_pair, initialiser_pair, statement_pair}
use Rattle.level_rules.specs.declared.instance.Holder.{Holder}
use Rattle.level_rules.specs.declared.instance.Holder.TheVariants.{Result, Variable}
use Rattle.level_rules.specs.declared.instance.Instance.{Instance}
use Rattle.level_laws.specs.Uniform.{AllVary, EntersVarying}
use Rattle.level_rules.specs.Rules.{Known, Around, Look, Walk, ArmWalk, PlaceLook, ArgumentLook, still, seen_all, seen_logic, arguments_found, outputs_found, seen_callee, no_walk, walk_all, walk_placed, tested, walk_set, walk_loop, walk_arms, look_argument, look_step, look_form, look_fold, look_expr, look_operand, look_call, look_place, initialiser_step, look_first, walk_declaration, look_assignment, walk_assignment, walk_start, look_item, look_items, look_returned, walk_arm, walk_for, walk_form}

all_vary : (a b : List Instance) → AllVary a → AllVary b → AllVary (a ++ b)
all_vary [] b h k = k
all_vary (i ∷ a) b h k = (h.0, all_vary a b h.1 k)

module _ (known : Known) where
  abbrev Enters : Look → Type 0
  Enters l = (s : Around) → AllVary (l s true).found.calls

  abbrev EntersEither : Look → Look → Type 0
  EntersEither l m = Enters l

  abbrev EntersPlace : PlaceLook → PlaceLook → Type 0
  EntersPlace l m = Enters l.indices

  abbrev EntersArgument : ArgumentLook → ArgumentLook → Type 0
  EntersArgument l m = Enters l.look

  enter_still : Enters still
  enter_still s = tt

  enter_all : (ls : List (Pair EntersEither)) → Enters (seen_all (map (λ (l : Pair EntersEither). l.0) ls))
  enter_all [] s = tt
  enter_all (l ∷ ls) s = all_vary _ _ (l.2 s) (enter_all ls s)

  enter_logic : (ls : List (Pair EntersEither)) → Enters (seen_logic (map (λ (l : Pair EntersEither). l.0) ls))
  enter_logic [] s = tt
  enter_logic (l ∷ ls) s = all_vary _ _ (l.2 s) (enter_logic ls s)

  enter_arguments : (args : List (Pair EntersArgument)) (us : List Bool) (k : ℕ) (s : Around) → AllVary (arguments_found us k (map (λ (a : Pair EntersArgument). a.0) args) s true).calls
  enter_arguments [] us k s = tt
  enter_arguments (a ∷ args) us k s = all_vary _ _ (all_vary _ [] (a.2 s) tt) (enter_arguments args us (k + 1) s)

  enter_outputs : (args : List (Pair EntersArgument)) (v : ℕ → Bool) (k : ℕ) (s : Around) → AllVary (outputs_found v k (map (λ (a : Pair EntersArgument). a.0) args) s true).calls
  enter_outputs [] v k s = tt
  enter_outputs (a ∷ args) v k s = enter_outputs args v (k + 1) s

  enter_callee : (c : Callee) (sizes : List Size) (args : List (Pair EntersArgument)) → Enters (seen_callee known c sizes (map (λ (a : Pair EntersArgument). a.0) args))
  enter_callee (callee.Program n) sizes args s = all_vary _ _ (all_vary _ _ (enter_arguments args _ 0 s) (refl, tt)) (enter_outputs args _ 0 s)
  enter_callee (callee.Library id) sizes args s = all_vary _ _ (enter_arguments args [] 0 s) (enter_outputs args _ 0 s)

  enter_argument : (y : Argument-F (Pair EntersArgument) (Pair EntersEither) (Pair EntersEither) (Pair EntersEither) (Pair EntersEither) (Pair EntersEither) (Pair EntersPlace)) → Enters (look_argument (map-Argument (Pair EntersArgument) (Pair EntersEither) (Pair EntersEither) (Pair EntersEither) (Pair EntersEither) (Pair EntersEither) (Pair EntersPlace) ArgumentLook Look Look Look Look Look PlaceLook (λ e. e.0) (λ e. e.0) (λ e. e.0) (λ e. e.0) (λ e. e.0) (λ e. e.0) (λ e. e.0) y)).look
  enter_argument (form.Input o node) = o.2
  enter_argument (form.Output place c node) = place.2
  enter_argument form.Missing = enter_still

  enter_step : (y : TypedStep-F (Pair EntersArgument) (Pair EntersEither) (Pair EntersEither) (Pair EntersEither) (Pair EntersEither) (Pair EntersEither) (Pair EntersPlace)) → Enters (look_step (map-TypedStep (Pair EntersArgument) (Pair EntersEither) (Pair EntersEither) (Pair EntersEither) (Pair EntersEither) (Pair EntersEither) (Pair EntersPlace) ArgumentLook Look Look Look Look Look PlaceLook (λ e. e.0) (λ e. e.0) (λ e. e.0) (λ e. e.0) (λ e. e.0) (λ e. e.0) (λ e. e.0) y))
  enter_step (form.Index e node) = e.2
  enter_step (form.Field n) = enter_still

  enter_expr : (y : TypedExpr-F (Pair EntersArgument) (Pair EntersEither) (Pair EntersEither) (Pair EntersEither) (Pair EntersEither) (Pair EntersEither) (Pair EntersPlace)) → Enters (look_form known (map-TypedExpr (Pair EntersArgument) (Pair EntersEither) (Pair EntersEither) (Pair EntersEither) (Pair EntersEither) (Pair EntersEither) (Pair EntersPlace) ArgumentLook Look Look Look Look Look PlaceLook (λ e. e.0) (λ e. e.0) (λ e. e.0) (λ e. e.0) (λ e. e.0) (λ e. e.0) (λ e. e.0) y))
  enter_expr (form.Literal y) = enter_still
  enter_expr (form.Constant n) = enter_still
  enter_expr (form.Variable y) = λ s. tt
  enter_expr (form.Unary op k o) = o.2
  enter_expr (form.Chain o links) = enter_all (o ∷ links)
  enter_expr (form.Logic l os) = enter_logic os
  enter_expr (form.Path e steps) = enter_all (e ∷ steps)
  enter_expr (form.Size e size) = e.2
  enter_expr (form.Call c) = c.2

  enter_exprs : KeepsExprs EntersArgument EntersEither EntersEither EntersEither EntersEither EntersEither EntersPlace (look_fold known) (look_fold known)
  enter_exprs = record { argument = enter_argument; expr = enter_expr; step = enter_step; operand = λ o. o.value.2; call = λ c. enter_callee c.callee c.sizes c.arguments; link = λ l. l.right.2; place = λ p. enter_all p.steps }

  enter_of_expr : (e : TypedExpr) → Enters (look_expr known e)
  enter_of_expr e = expr_pair _ _ _ _ _ _ _ (look_fold known) (look_fold known) enter_exprs e

  enter_operand : (e : Operand) → Enters (look_operand known e)
  enter_operand e = operand_pair _ _ _ _ _ _ _ (look_fold known) (look_fold known) enter_exprs e

  enter_call : (e : TypedCall) → Enters (look_call known e)
  enter_call e = call_pair _ _ _ _ _ _ _ (look_fold known) (look_fold known) enter_exprs e

  enter_place : (e : TypedPlace) → Enters (look_place known e).indices
  enter_place e = place_pair _ _ _ _ _ _ _ (look_fold known) (look_fold known) enter_exprs e

  enter_initialisers : KeepsInitialiser EntersEither (initialiser_step known) (initialiser_step known)
  enter_initialisers (initial.Value o) = enter_operand o
  enter_initialisers (initial.Elements shape is) = enter_all is
  enter_initialisers (initial.Fields n is) = enter_all is

  enter_first : (i : Option Initialiser) → Enters (look_first known i)
  enter_first None = enter_still
  enter_first (Some i) = initialiser_pair EntersEither (initialiser_step known) (initialiser_step known) enter_initialisers i

  enter_returned : (o : Option Operand) → Enters (look_returned known o)
  enter_returned None = enter_still
  enter_returned (Some o) = enter_operand o

  enter_item : (i : PrintItem) → Enters (look_item known i)
  enter_item (item.Text text) = enter_still
  enter_item (item.Value e) = enter_of_expr e

  enter_items : (is : List PrintItem) → Enters (look_items known is)
  enter_items [] s = tt
  enter_items (i ∷ is) s = all_vary _ _ (enter_item i s) (enter_items is s)

  enter_assignment : (a : Assignment) → Enters (look_assignment known a)
  enter_assignment a s = all_vary _ _ (enter_place a.place s) (all_vary _ [] (enter_operand a.value s) tt)

  -- ---- statements

  abbrev Entered : Walk → Type 0
  Entered w = (s : Around) → AllVary (w s true).found.calls

  abbrev EnteredEither : Walk → Walk → Type 0
  EnteredEither v w = Entered v

  abbrev EnteredArm : ArmWalk → ArmWalk → Type 0
  EnteredArm a b = (w : Walk) → Entered w → Entered (a w)

  entered_walks : (ws : List (Pair EnteredEither)) → Entered (walk_all (map (λ (w : Pair EnteredEither). w.0) ws))
  entered_walks [] s = tt
  entered_walks (w ∷ ws) s = all_vary _ _ (w.2 s) (entered_walks ws s)

  entered_two : (v w : Walk) → Entered v → Entered w → Entered (walk_all (v ∷ w ∷ []))
  entered_two v w h k = entered_walks ((v, v, h) ∷ (w, w, k) ∷ [])

  entered_tested : (t : Look) (w : Walk) → Enters t → Entered w → Entered (tested t w)
  entered_tested t w h k s = all_vary _ _ (h s) (k s)

  entered_set : (y : Holder) (l : Look) → Enters l → Entered (walk_set y l)
  entered_set y l h s = all_vary _ [] (h s) tt

  entered_loop : (t : Look) (n w : Walk) → Enters t → Entered n → Entered w → Entered (walk_loop t n w)
  entered_loop t n w h k j s = all_vary _ _ (h s) (all_vary _ _ (k s) (j s))

  entered_declaration : (d : Declaration) → Entered (walk_declaration known d)
  entered_declaration d = entered_set (Variable d.variable) (look_first known d.first) (enter_first d.first)

  entered_assigned : (a : Assignment) → Entered (walk_assignment known a)
  entered_assigned a = entered_set (Variable (look_place known a.place).variable) (look_assignment known a) (enter_assignment a)

  entered_start : (f : ForStart) → Entered (walk_start known f)
  entered_start (start.Declare d) = entered_declaration d
  entered_start (start.Assign a) = entered_assigned a

  entered_arms : (args : List (Pair EnteredArm)) (w : Walk) → Entered w → Entered (walk_arms (map (λ (a : Pair EnteredArm). a.0) args) w)
  entered_arms [] w h = h
  entered_arms (a ∷ args) w h = a.2 (walk_arms (map (λ (a : Pair EnteredArm). a.0) args) w) (entered_arms args w h)

  entered_arm : KeepsArm EnteredEither EnteredArm (walk_arm known) (walk_arm known)
  entered_arm a w h = entered_tested (look_operand known a.test) (walk_all (a.body.0 ∷ w ∷ [])) (enter_operand a.test) (entered_two a.body.0 w a.body.2 h)

  entered_for : (f : ForStart) (t : Operand) (a : Assignment) (w : Walk) → Entered w → Entered (walk_for known f (look_operand known t) a w)
  entered_for f t a w h = entered_two (walk_placed (walk_start known f)) (walk_loop (look_operand known t) (walk_placed (walk_assignment known a)) w) (entered_start f) (entered_loop (look_operand known t) (walk_placed (walk_assignment known a)) w (enter_operand t) (entered_assigned a) h)

  entered_statements : KeepsStatement EnteredEither EnteredArm (walk_form known) (walk_form known)
  entered_statements Empty = λ s. tt
  entered_statements (Block ws) = entered_walks ws
  entered_statements (Declare d) = entered_declaration d
  entered_statements (Assign a) = entered_assigned a
  entered_statements (Call c) = enter_call c
  entered_statements (If arms None) = entered_arms arms no_walk (λ s. tt)
  entered_statements (If arms (Some b)) = entered_arms arms b.0 b.2
  entered_statements (While test body node) = entered_loop (look_operand known test) no_walk body.0 (enter_operand test) (λ s. tt) body.2
  entered_statements (For first test next body node) = entered_for first test next body.0 body.2
  entered_statements (Return o) = entered_set Result (look_returned known o) (enter_returned o)
  entered_statements (Print items) = enter_items items

pub enters_varying : EntersVarying
enters_varying known s e = statement_pair (EnteredEither known) (EnteredArm known) (walk_form known) (walk_arm known) (walk_form known) (walk_arm known) (entered_statements known) (entered_arm known) e s
