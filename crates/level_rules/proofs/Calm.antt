-- Where nothing varies, nothing is put into the set.
use Rattle.std.proofs.Common.{◌≡◌, ℕ, ◌+◌, List, [], ◌∷◌, ◌++◌, map, Option, Some, None, Bool, true, false, true≢false, ◌||◌, ap, ◌∙◌, refl}
use Rattle.ctl_types.specs.declared.expression.Callee.{Callee}
use Rattle.ctl_types.specs.declared.expression.Callee.TheVariants as callee
use Rattle.ctl_types.specs.declared.expression.Argument.TheOpen as form
use Rattle.ctl_types.specs.declared.expression.Argument.TheOpen.{Argument-F, TypedExpr-F, TypedStep-F}
use Rattle.ctl_types.specs.declared.expression.Argument.TheFolds.{map-Argument, map-TypedExpr, map-TypedStep}
use Rattle.ctl_types.specs.declared.expression.TypedExpr.{TypedExpr}
use Rattle.ctl_types.specs.declared.expression.Operand.{Operand}
use Rattle.ctl_types.specs.declared.expression.TypedCall.{TypedCall}
use Rattle.ctl_types.specs.declared.expression.TypedPlace.{TypedPlace}
use Rattle.ctl_types.specs.declared.shape.Size.{Size}
use Rattle.ctl_types.specs.declared.statement.Initialiser.{Initialiser}
use Rattle.ctl_types.specs.declared.statement.Initialiser.TheOpen as initial
use Rattle.ctl_types.specs.declared.statement.Declaration.{Declaration}
use Rattle.ctl_types.specs.declared.statement.Assignment.{Assignment}
use Rattle.ctl_types.specs.declared.statement.ForStart.{ForStart}
use Rattle.ctl_types.specs.declared.statement.ForStart.TheVariants as start
use Rattle.ctl_types.specs.declared.statement.PrintItem.{PrintItem}
use Rattle.ctl_types.specs.declared.statement.PrintItem.TheVariants as item
use Rattle.ctl_types.specs.declared.statement.TypedStatement.{TypedStatement}
use Rattle.ctl_types.specs.declared.statement.TypedStatement.TheOpen.{Empty, Block, Declare, Assign, Call, If, While, For, Return, Print}
use Rattle.ctl_types.specs.Shapes.{size_in}
use Rattle.ctl_types.specs.Pairs.{Pair, KeepsExprs, KeepsInitialiser, KeepsStatement, KeepsArm, expr_pair, operand_pair, call_pair, place_pair, initialiser_pair, statement_pair}
use Rattle.level_rules.specs.declared.instance.Holder.{Holder}
use Rattle.level_rules.specs.declared.instance.Holder.TheVariants.{Result, Variable}
use Rattle.level_rules.specs.Rules.{Known, Around, Seen, Look, Walked, Walk, ArmWalk, PlaceLook, ArgumentLook, one_if, variable_if, still, beside, seen_all, placed, seen_logic, unvaried, names, levels_of, any, of_input, any_input, arguments_found, outputs_found, instance_of, seen_callee, no_walk, walk_look, walk_all, walk_placed, tested, walk_set, walk_loop, walk_arms, walk_return, look_variable, look_argument, look_step, look_form, look_fold, look_expr, look_operand, look_call, look_place, initialiser_step, look_first, walk_declaration, look_assignment, walk_assignment, walk_start, look_item, look_items, look_returned, walk_arm, walk_for, walk_form, walk_statement}

-- nothing varies in an instance of uniform control none of whose parameters does
abbrev pub Calms : Known → Type 0
Calms known = (n : ℕ) (sizes : List ℕ) (levels : List Bool) (c : Bool) → c ≡ false → any levels ≡ false → (h : Holder) → known (instance_of n sizes levels c) h ≡ false

pub neither : (a b : Bool) → a ≡ false → b ≡ false → (a || b) ≡ false
neither true b h k = absurd (true≢false h)
neither false b h k = k

none_if : {A : Type 0} (b : Bool) (x : A) → b ≡ false → one_if b x ≡ []
none_if true x h = absurd (true≢false h)
none_if false x h = refl

no_variable : (b : Bool) (x : Option ℕ) → b ≡ false → variable_if b x ≡ []
no_variable b None h = refl
no_variable b (Some x) h = none_if b (Variable x) h

nil_append : {A : Type 0} (a b : List A) → a ≡ [] → b ≡ [] → (a ++ b) ≡ []
nil_append [] b h k = k
nil_append (x ∷ a) b h k = ap (λ l. l ++ b) h ∙ k

-- a place at which nothing varies
pub record Still : Type 0 where
  pub s : Around
  pub c : Bool
  pub none : (h : Holder) → s.set h ≡ false
  pub calm : c ≡ false

-- the same with more control, which is uniform
abbrev pub still_more : (x : Still) (b : Bool) → b ≡ false → Still
still_more x b h = record { s = x.s; c = x.c || b; none = x.none; calm = neither x.c b x.calm h }

module _ (known : Known) (calms : Calms known) where
  pub record Rests (u : Seen) : Type 0 where
    pub varies : u.varies ≡ false
    pub puts : u.found.puts ≡ []

  abbrev Rest : Look → Type 0
  Rest l = (x : Still) → Rests (l x.s x.c)

  abbrev RestEither : Look → Look → Type 0
  RestEither l m = Rest l

  abbrev RestPlace : PlaceLook → PlaceLook → Type 0
  RestPlace l m = Rest l.indices

  abbrev RestArgument : ArgumentLook → ArgumentLook → Type 0
  RestArgument l m = Rest l.look

  rest_still : Rest still
  rest_still x = record { varies = refl; puts = refl }

  rest_beside : (u v : Seen) → Rests u → Rests v → Rests (beside u v)
  rest_beside u v h k = record { varies = neither u.varies v.varies h.varies k.varies; puts = nil_append u.found.puts v.found.puts h.puts k.puts }

  rest_all : (ls : List (Pair RestEither)) → Rest (seen_all (map (λ (l : Pair RestEither). l.0) ls))
  rest_all [] x = rest_still x
  rest_all (l ∷ ls) x = rest_beside _ _ (l.2 x) (rest_all ls x)

  rest_placed : (l : Look) → Rest l → Rest (placed l)
  rest_placed l h x = let k = h x in record { varies = k.varies; puts = k.puts }

  rest_logic : (ls : List (Pair RestEither)) → Rest (seen_logic (map (λ (l : Pair RestEither). l.0) ls))
  rest_logic [] x = rest_still x
  rest_logic (l ∷ ls) x = rest_beside _ _ (rest_placed l.0 l.2 x) (rest_logic ls (still_more x _ (l.2 x).varies))

  rest_unvaried : (l : Look) → Rest l → Rest (unvaried l)
  rest_unvaried l h x = record { varies = refl; puts = (h x).puts }

  rest_variable : (y : ℕ) → Rest (look_variable y)
  rest_variable y x = record { varies = x.none (Variable y); puts = refl }

  rest_names : (o : Option ℕ) (x : Still) → names o x.s.set ≡ false
  rest_names None x = refl
  rest_names (Some y) x = x.none (Variable y)

  rest_levels : (args : List (Pair RestArgument)) (x : Still) → any (levels_of (map (λ (a : Pair RestArgument). a.0) args) x.s x.c) ≡ false
  rest_levels [] x = refl
  rest_levels (a ∷ args) x = neither _ _ (neither _ _ (rest_names a.0.output x) (a.2 x).varies) (rest_levels args x)

  rest_of_input : (o : Option ℕ) (b : Bool) → b ≡ false → of_input o b ≡ false
  rest_of_input None b h = h
  rest_of_input (Some y) b h = refl

  rest_inputs : (args : List (Pair RestArgument)) (x : Still) → any_input (map (λ (a : Pair RestArgument). a.0) args) x.s x.c ≡ false
  rest_inputs [] x = refl
  rest_inputs (a ∷ args) x = neither _ _ (rest_of_input a.0.output _ (a.2 x).varies) (rest_inputs args x)

  rest_arguments : (args : List (Pair RestArgument)) (us : List Bool) (k : ℕ) (x : Still) → (arguments_found us k (map (λ (a : Pair RestArgument). a.0) args) x.s x.c).puts ≡ []
  rest_arguments [] us k x = refl
  rest_arguments (a ∷ args) us k x = nil_append _ _ (nil_append _ [] (a.2 x).puts refl) (rest_arguments args us (k + 1) x)

  rest_outputs : (args : List (Pair RestArgument)) (v : ℕ → Bool) → ((k : ℕ) → v k ≡ false) → (k : ℕ) (x : Still) → (outputs_found v k (map (λ (a : Pair RestArgument). a.0) args) x.s x.c).puts ≡ []
  rest_outputs [] v h k x = refl
  rest_outputs (a ∷ args) v h k x = nil_append _ _ (no_variable _ a.0.output (neither _ _ x.calm (neither _ _ (h k) (a.2 x).varies))) (rest_outputs args v h (k + 1) x)

  rest_callee : (c : Callee) (sizes : List Size) (args : List (Pair RestArgument)) → Rest (seen_callee known c sizes (map (λ (a : Pair RestArgument). a.0) args))
  rest_callee (callee.Program n) sizes args x =
      let l = rest_levels args x in
      let u = calms n (map (size_in x.s.opens) sizes) _ x.c x.calm l in
      record {
        varies = neither _ _ l (u Result);
        puts = nil_append _ _ (nil_append _ [] (rest_arguments args _ 0 x) refl) (rest_outputs args _ (λ k. u (Variable k)) 0 x);
      }
  rest_callee (callee.Library id) sizes args x = record {
    varies = rest_levels args x;
    puts = nil_append _ _ (rest_arguments args [] 0 x) (rest_outputs args _ (λ k. rest_inputs args x) 0 x);
  }

  rest_argument : (y : Argument-F (Pair RestArgument) (Pair RestEither) (Pair RestEither) (Pair RestEither) (Pair RestEither) (Pair RestEither) (Pair RestPlace)) → Rest (look_argument (map-Argument (Pair RestArgument) (Pair RestEither) (Pair RestEither) (Pair RestEither) (Pair RestEither) (Pair RestEither) (Pair RestPlace) ArgumentLook Look Look Look Look Look PlaceLook (λ e. e.0) (λ e. e.0) (λ e. e.0) (λ e. e.0) (λ e. e.0) (λ e. e.0) (λ e. e.0) y)).look
  rest_argument (form.Input o node) = o.2
  rest_argument (form.Output place c node) = place.2
  rest_argument form.Missing = rest_still

  rest_step : (y : TypedStep-F (Pair RestArgument) (Pair RestEither) (Pair RestEither) (Pair RestEither) (Pair RestEither) (Pair RestEither) (Pair RestPlace)) → Rest (look_step (map-TypedStep (Pair RestArgument) (Pair RestEither) (Pair RestEither) (Pair RestEither) (Pair RestEither) (Pair RestEither) (Pair RestPlace) ArgumentLook Look Look Look Look Look PlaceLook (λ e. e.0) (λ e. e.0) (λ e. e.0) (λ e. e.0) (λ e. e.0) (λ e. e.0) (λ e. e.0) y))
  rest_step (form.Index e node) = e.2
  rest_step (form.Field n) = rest_still

  rest_expr : (y : TypedExpr-F (Pair RestArgument) (Pair RestEither) (Pair RestEither) (Pair RestEither) (Pair RestEither) (Pair RestEither) (Pair RestPlace)) → Rest (look_form known (map-TypedExpr (Pair RestArgument) (Pair RestEither) (Pair RestEither) (Pair RestEither) (Pair RestEither) (Pair RestEither) (Pair RestPlace) ArgumentLook Look Look Look Look Look PlaceLook (λ e. e.0) (λ e. e.0) (λ e. e.0) (λ e. e.0) (λ e. e.0) (λ e. e.0) (λ e. e.0) y))
  rest_expr (form.Literal y) = rest_still
  rest_expr (form.Constant n) = rest_still
  rest_expr (form.Variable y) = rest_variable y
  rest_expr (form.Unary op k o) = o.2
  rest_expr (form.Chain o links) = rest_all (o ∷ links)
  rest_expr (form.Logic l os) = rest_logic os
  rest_expr (form.Path e steps) = rest_all (e ∷ steps)
  rest_expr (form.Size e size) = rest_unvaried e.0 e.2
  rest_expr (form.Call c) = c.2

  rest_exprs : KeepsExprs RestArgument RestEither RestEither RestEither RestEither RestEither RestPlace (look_fold known) (look_fold known)
  rest_exprs = record { argument = rest_argument; expr = rest_expr; step = rest_step; operand = λ o. o.value.2; call = λ c. rest_callee c.callee c.sizes c.arguments; link = λ l. l.right.2; place = λ p. rest_all p.steps }

  rest_of_expr : (e : TypedExpr) → Rest (look_expr known e)
  rest_of_expr e = expr_pair _ _ _ _ _ _ _ (look_fold known) (look_fold known) rest_exprs e

  rest_operand : (e : Operand) → Rest (look_operand known e)
  rest_operand e = operand_pair _ _ _ _ _ _ _ (look_fold known) (look_fold known) rest_exprs e

  rest_call : (e : TypedCall) → Rest (look_call known e)
  rest_call e = call_pair _ _ _ _ _ _ _ (look_fold known) (look_fold known) rest_exprs e

  rest_place : (e : TypedPlace) → Rest (look_place known e).indices
  rest_place e = place_pair _ _ _ _ _ _ _ (look_fold known) (look_fold known) rest_exprs e

  rest_initialisers : KeepsInitialiser RestEither (initialiser_step known) (initialiser_step known)
  rest_initialisers (initial.Value o) = rest_operand o
  rest_initialisers (initial.Elements shape is) = rest_all is
  rest_initialisers (initial.Fields n is) = rest_all is

  rest_first : (i : Option Initialiser) → Rest (look_first known i)
  rest_first None = rest_still
  rest_first (Some i) = initialiser_pair RestEither (initialiser_step known) (initialiser_step known) rest_initialisers i

  rest_returned : (o : Option Operand) → Rest (look_returned known o)
  rest_returned None = rest_still
  rest_returned (Some o) = rest_operand o

  rest_item : (i : PrintItem) → Rest (look_item known i)
  rest_item (item.Text text) = rest_still
  rest_item (item.Value e) = rest_of_expr e

  rest_items : (is : List PrintItem) → Rest (look_items known is)
  rest_items [] x = rest_still x
  rest_items (i ∷ is) x = rest_beside _ _ (rest_item i x) (rest_items is x)

  rest_assignment : (a : Assignment) → Rest (look_assignment known a)
  rest_assignment a x = rest_beside _ _ (rest_place a.place x) (rest_beside _ _ (rest_operand a.value x) (rest_still x))

  -- ---- statements

  pub record Idles (u : Walked) : Type 0 where
    pub leaves : u.leaves ≡ false
    pub puts : u.found.puts ≡ []

  abbrev Idle : Walk → Type 0
  Idle w = (x : Still) → Idles (w x.s x.c)

  abbrev IdleEither : Walk → Walk → Type 0
  IdleEither v w = Idle v

  abbrev IdleArm : ArmWalk → ArmWalk → Type 0
  IdleArm a b = (w : Walk) → Idle w → Idle (a w)

  idle_none : Idle no_walk
  idle_none x = record { leaves = refl; puts = refl }

  idle_look : (l : Look) → Rest l → Idle (walk_look l)
  idle_look l h x = record { leaves = refl; puts = (h x).puts }

  idle_walks : (ws : List (Pair IdleEither)) → Idle (walk_all (map (λ (w : Pair IdleEither). w.0) ws))
  idle_walks [] x = idle_none x
  idle_walks (w ∷ ws) x =
      let h = w.2 x in
      let k = idle_walks ws (still_more x _ h.leaves) in
      record { leaves = neither _ _ h.leaves k.leaves; puts = nil_append _ _ h.puts k.puts }

  idle_two : (v w : Walk) → Idle v → Idle w → Idle (walk_all (v ∷ w ∷ []))
  idle_two v w h k = idle_walks ((v, v, h) ∷ (w, w, k) ∷ [])

  idle_placed : (w : Walk) → Idle w → Idle (walk_placed w)
  idle_placed w h x = let k = h x in record { leaves = k.leaves; puts = k.puts }

  idle_tested : (t : Look) (w : Walk) → Rest t → Idle w → Idle (tested t w)
  idle_tested t w h k x = let i = h x in let j = k (still_more x _ i.varies) in record { leaves = j.leaves; puts = nil_append _ _ i.puts j.puts }

  idle_set : (y : Holder) (l : Look) → Rest l → Idle (walk_set y l)
  idle_set y l h x = let i = h x in record { leaves = refl; puts = nil_append _ _ i.puts (none_if _ y (neither _ _ x.calm i.varies)) }

  idle_loop : (t : Look) (n w : Walk) → Rest t → Idle n → Idle w → Idle (walk_loop t n w)
  idle_loop t n w h k j x =
      let y = still_more x _ (h x).varies in
      let z = still_more y _ (j y).leaves in
      record { leaves = (j y).leaves; puts = nil_append _ _ (h z).puts (nil_append _ _ (k z).puts (j z).puts) }

  idle_return : (l : Look) → Rest l → Idle (walk_return l)
  idle_return l h x = record { leaves = x.calm; puts = (idle_set Result l h x).puts }

  idle_declaration : (d : Declaration) → Idle (walk_declaration known d)
  idle_declaration d = idle_set (Variable d.variable) (look_first known d.first) (rest_first d.first)

  idle_assigned : (a : Assignment) → Idle (walk_assignment known a)
  idle_assigned a = idle_set (Variable (look_place known a.place).variable) (look_assignment known a) (rest_assignment a)

  idle_start : (f : ForStart) → Idle (walk_start known f)
  idle_start (start.Declare d) = idle_declaration d
  idle_start (start.Assign a) = idle_assigned a

  idle_arms : (args : List (Pair IdleArm)) (w : Walk) → Idle w → Idle (walk_arms (map (λ (a : Pair IdleArm). a.0) args) w)
  idle_arms [] w h = h
  idle_arms (a ∷ args) w h = a.2 (walk_arms (map (λ (a : Pair IdleArm). a.0) args) w) (idle_arms args w h)

  idle_arm : KeepsArm IdleEither IdleArm (walk_arm known) (walk_arm known)
  idle_arm a w h = idle_placed _ (idle_tested (look_operand known a.test) _ (rest_operand a.test) (idle_two a.body.0 w a.body.2 h))

  idle_for : (f : ForStart) (t : Operand) (a : Assignment) (w : Walk) → Idle w → Idle (walk_for known f (look_operand known t) a w)
  idle_for f t a w h = idle_two _ _ (idle_placed _ (idle_start f)) (idle_loop (look_operand known t) _ w (rest_operand t) (idle_placed _ (idle_assigned a)) h)

  idle_statements : KeepsStatement IdleEither IdleArm (walk_form known) (walk_form known)
  idle_statements Empty = idle_placed _ idle_none
  idle_statements (Block ws) = idle_placed _ (idle_walks ws)
  idle_statements (Declare d) = idle_placed _ (idle_declaration d)
  idle_statements (Assign a) = idle_placed _ (idle_assigned a)
  idle_statements (Call c) = idle_placed _ (idle_look (look_call known c) (rest_call c))
  idle_statements (If arms None) = idle_placed _ (idle_arms arms no_walk idle_none)
  idle_statements (If arms (Some b)) = idle_placed _ (idle_arms arms b.0 b.2)
  idle_statements (While test body node) = idle_placed _ (idle_loop (look_operand known test) no_walk body.0 (rest_operand test) idle_none body.2)
  idle_statements (For first test next body node) = idle_placed _ (idle_for first test next body.0 body.2)
  idle_statements (Return o) = idle_placed _ (idle_return (look_returned known o) (rest_returned o))
  idle_statements (Print items) = idle_placed _ (idle_look (look_items known items) (rest_items items))

  -- statements
  pub idle_statement : (e : TypedStatement) → Idle (walk_statement known e)
  idle_statement e = statement_pair IdleEither IdleArm (walk_form known) (walk_arm known) (walk_form known) (walk_arm known) idle_statements idle_arm e
