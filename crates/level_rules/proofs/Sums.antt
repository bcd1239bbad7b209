-- Each rule has one premise: what varies, and what is put into the set, is the union of what two halves give.
use Rattle.std.proofs.Common.{◌≡◌, ℕ, ◌+◌, List, [], ◌∷◌, ◌++◌, map, Option, Some, None, Bool, true, false, ◌||◌, ap, sym, ◌∙◌, subst, refl}
use Rattle.ctl_types.specs.declared.expression.Callee.{Callee}
use Rattle.ctl_types.specs.declared.expression.Callee.TheVariants as callee
use Rattle.ctl_types.specs.declared.expression.Argument.TheOpen as form
use Rattle.ctl_types.specs.declared.expression.Argument.TheOpen.{Argument-F, TypedExpr-F, TypedStep-F}
use Rattle.ctl_types.specs.declared.expression.Argument.TheFolds.{map-Argument, map-TypedExpr, map-TypedStep}
use Rattle.ctl_types.specs.declared.expression.TypedExpr.{TypedExpr}
use Rattle.ctl_types.specs.declared.expression.Operand.{Operand}
use Rattle.ctl_types.specs.declared.expression.TypedCall.{TypedCall}
use Rattle.ctl_types.specs.declared.expression.TypedPlace.{TypedPlace}
use Rattle.ctl_types.specs.declared.shape.Size.{Size}
use Rattle.ctl_types.specs.declared.statement.Initialiser.{Initialiser}
use Rattle.ctl_types.specs.declared.statement.Initialiser.TheOpen as initial
use Rattle.ctl_types.specs.declared.statement.Declaration.{Declaration}
use Rattle.ctl_types.specs.declared.statement.Assignment.{Assignment}
use Rattle.ctl_types.specs.declared.statement.ForStart.{ForStart}
use Rattle.ctl_types.specs.declared.statement.ForStart.TheVariants as start
use Rattle.ctl_types.specs.declared.statement.PrintItem.{PrintItem}
use Rattle.ctl_types.specs.declared.statement.PrintItem.TheVariants as item
use Rattle.ctl_types.specs.declared.statement.TypedStatement.{TypedStatement}
use Rattle.ctl_types.specs.declared.statement.TypedStatement.TheOpen.{Empty, Block, Declare, Assign, Call, If, While, For, Return, Print}
use Rattle.ctl_types.specs.Shapes.{size_in}
use Rattle.ctl_types.specs.Pairs.{Pair, KeepsExprs, KeepsInitialiser, KeepsStatement, KeepsArm, expr_pair, operand_pair, call_pair, place_pair, initialiser_pair, statement_pair}
use Rattle.level_rules.specs.declared.instance.Holder.{Holder}
use Rattle.level_rules.specs.declared.instance.Holder.TheVariants.{Result, Variable}
use Rattle.level_rules.specs.Rules.{VaryingSet, Known, Around, Seen, Look, Walked, Walk, ArmWalk, PlaceLook, ArgumentLook, one_if, variable_if, still, beside, seen_all, placed, seen_logic, unvaried, names, levels_of, any, of_input, any_input, arguments_found, outputs_found, instance_of, seen_callee, no_walk, walk_look, followed, walk_all, walk_placed, tested, walk_set, walk_loop, walk_arms, walk_return, look_variable, look_argument, look_step, look_form, look_fold, look_expr, look_operand, look_call, look_place, initialiser_step, look_initialiser, look_first, walk_declaration, look_assignment, walk_assignment, walk_start, look_item, look_items, look_returned, walk_arm, walk_for, walk_form, walk_statement}
use Rattle.level_rules.specs.Levels.{AllIn}

pub record IsOr (v a b : Bool) : Type 0 where
  pub is : v ≡ (a || b)

mix : (a b c d : Bool) → ((a || b) || (c || d)) ≡ ((a || c) || (b || d))
mix true b true d = refl
mix true b false d = refl
mix false true true d = refl
mix false true false d = refl
mix false false c d = refl

pub or4 : (v a b w c d : Bool) → IsOr v a b → IsOr w c d → IsOr (v || w) (a || c) (b || d)
or4 v a b w c d e f = record { is = ap (λ v. v || w) e.is ∙ ap (λ w. (a || b) || w) f.is ∙ mix a b c d }

pub or_none : IsOr false false false
or_none = record { is = refl }

-- one set is the union of two
abbrev pub IsUnion : VaryingSet → VaryingSet → VaryingSet → Type 0
IsUnion v a b = (h : Holder) → v h ≡ (a h || b h)

abbrev pub UnionLevels : List Bool → List Bool → List Bool → Type 0
UnionLevels [] [] [] = Unit {0}
UnionLevels [] [] (b ∷ bs) = ⊥
UnionLevels [] (a ∷ rest) bs = ⊥
UnionLevels (v ∷ vs) [] bs = ⊥
UnionLevels (v ∷ vs) (a ∷ rest) [] = ⊥
UnionLevels (v ∷ vs) (a ∷ rest) (b ∷ bs) = (v ≡ (a || b)) × UnionLevels vs rest bs

-- what is known of an instance is the union of what is known of two whose levels and controls are its own together
abbrev pub Unites : Known → Type 0
Unites known = (n : ℕ) (sizes left right : List ℕ) (vs us ws : List Bool) (c d e : Bool) → UnionLevels vs us ws → c ≡ (d || e) → IsUnion (known (instance_of n sizes vs c)) (known (instance_of n left us d)) (known (instance_of n right ws e))

all_append : (l : VaryingSet) (a b : List Holder) → AllIn l a → AllIn l b → AllIn l (a ++ b)
all_append l [] b h k = k
all_append l (x ∷ a) b h k = (h.0, all_append l a b h.1 k)

all_split : (l : VaryingSet) (a b : List Holder) → AllIn l (a ++ b) → AllIn l a × AllIn l b
all_split l [] b h = (tt, h)
all_split l (x ∷ a) b h = let r = all_split l a b h.1 in ((h.0, r.0), r.1)

-- what is in both is in the whole, and the other way round
pub record Halves (l : VaryingSet) (u a b : List Holder) : Type 0 where
  pub to : AllIn l u → AllIn l a × AllIn l b
  pub from : AllIn l a → AllIn l b → AllIn l u

halves_none : (l : VaryingSet) → Halves l [] [] []
halves_none l = record { to = λ h. (tt, tt); from = λ h k. tt }

halves_append : (l : VaryingSet) (u a b v c d : List Holder) → Halves l u a b → Halves l v c d → Halves l (u ++ v) (a ++ c) (b ++ d)
halves_append l u a b v c d h k = record {
  to = λ i. let r = all_split l u v i in let x = h.to r.0 in let y = k.to r.1 in (all_append l a c x.0 y.0, all_append l b d x.1 y.1);
  from = λ i j. let x = all_split l a c i in let y = all_split l b d j in all_append l u v (h.from x.0 y.0) (k.from x.1 y.1);
}

halves_one : (l : VaryingSet) (x : Holder) (v a b : Bool) → IsOr v a b → Halves l (one_if v x) (one_if a x) (one_if b x)
halves_one l x v a b e = subst (λ v. Halves l (one_if v x) (one_if a x) (one_if b x)) (sym e.is) (one a b) where
  one : (a b : Bool) → Halves l (one_if (a || b) x) (one_if a x) (one_if b x)
  one true true = record { to = λ h. (h, h); from = λ h k. h }
  one true false = record { to = λ h. (h, tt); from = λ h k. h }
  one false true = record { to = λ h. (tt, h); from = λ h k. k }
  one false false = record { to = λ h. (tt, tt); from = λ h k. tt }

halves_variable : (l : VaryingSet) (x : Option ℕ) (v a b : Bool) → IsOr v a b → Halves l (variable_if v x) (variable_if a x) (variable_if b x)
halves_variable l None v a b e = halves_none l
halves_variable l (Some x) v a b e = halves_one l (Variable x) v a b e

-- a place whose set and control are those of two others together
pub record Split : Type 0 where
  pub s : Around
  pub p : Around
  pub q : Around
  pub c : Bool
  pub d : Bool
  pub e : Bool
  pub union : IsUnion s.set p.set q.set
  pub or : IsOr c d e

-- the same with more control
abbrev pub split_more : (x : Split) (v a b : Bool) → IsOr v a b → Split
split_more x v a b h = record { s = x.s; p = x.p; q = x.q; c = x.c || v; d = x.d || a; e = x.e || b; union = x.union; or = or4 x.c x.d x.e v a b x.or h }

module _ (known : Known) (unites : Unites known) (goal : VaryingSet) where
  pub record Adds (u a b : Seen) : Type 0 where
    pub varies : IsOr u.varies a.varies b.varies
    pub puts : Halves goal u.found.puts a.found.puts b.found.puts

  abbrev pub Sums : Look → Type 0
  Sums l = (x : Split) → Adds (l x.s x.c) (l x.p x.d) (l x.q x.e)

  abbrev SumsEither : Look → Look → Type 0
  SumsEither l m = Sums l

  abbrev SumsPlace : PlaceLook → PlaceLook → Type 0
  SumsPlace l m = Sums l.indices

  abbrev SumsArgument : ArgumentLook → ArgumentLook → Type 0
  SumsArgument l m = Sums l.look

  sum_still : Sums still
  sum_still x = record { varies = or_none; puts = halves_none goal }

  sum_beside : (u a b u' a' b' : Seen) → Adds u a b → Adds u' a' b' → Adds (beside u u') (beside a a') (beside b b')
  sum_beside u a b u' a' b' h k = record { varies = or4 _ _ _ _ _ _ h.varies k.varies; puts = halves_append goal _ _ _ _ _ _ h.puts k.puts }

  sum_all : (ls : List (Pair SumsEither)) → Sums (seen_all (map (λ (l : Pair SumsEither). l.0) ls))
  sum_all [] x = sum_still x
  sum_all (l ∷ ls) x = sum_beside _ _ _ _ _ _ (l.2 x) (sum_all ls x)

  sum_placed : (l : Look) → Sums l → Sums (placed l)
  sum_placed l h x = let k = h x in record { varies = k.varies; puts = k.puts }

  sum_logic : (ls : List (Pair SumsEither)) → Sums (seen_logic (map (λ (l : Pair SumsEither). l.0) ls))
  sum_logic [] x = sum_still x
  sum_logic (l ∷ ls) x = sum_beside _ _ _ _ _ _ (sum_placed l.0 l.2 x) (sum_logic ls (split_more x _ _ _ (l.2 x).varies))

  sum_unvaried : (l : Look) → Sums l → Sums (unvaried l)
  sum_unvaried l h x = record { varies = or_none; puts = (h x).puts }

  sum_variable : (y : ℕ) → Sums (look_variable y)
  sum_variable y x = record { varies = record { is = x.union (Variable y) }; puts = halves_none goal }

  sum_names : (o : Option ℕ) (x : Split) → IsOr (names o x.s.set) (names o x.p.set) (names o x.q.set)
  sum_names None x = or_none
  sum_names (Some y) x = record { is = x.union (Variable y) }

  -- ---- calls

  sum_levels : (args : List (Pair SumsArgument)) (x : Split) → UnionLevels (levels_of (map (λ (a : Pair SumsArgument). a.0) args) x.s x.c) (levels_of (map (λ (a : Pair SumsArgument). a.0) args) x.p x.d) (levels_of (map (λ (a : Pair SumsArgument). a.0) args) x.q x.e)
  sum_levels [] x = tt
  sum_levels (a ∷ rest) x = ((or4 _ _ _ _ _ _ (sum_names a.0.output x) (a.2 x).varies).is, sum_levels rest x)

  sum_any : (vs us ws : List Bool) → UnionLevels vs us ws → IsOr (any vs) (any us) (any ws)
  sum_any [] [] [] h = or_none
  sum_any [] [] (b ∷ ws) h = absurd h
  sum_any [] (a ∷ us) ws h = absurd h
  sum_any (v ∷ vs) [] ws h = absurd h
  sum_any (v ∷ vs) (a ∷ us) [] h = absurd h
  sum_any (v ∷ vs) (a ∷ us) (b ∷ ws) h = or4 _ _ _ _ _ _ (record { is = h.0 }) (sum_any vs us ws h.1)

  sum_of_input : (o : Option ℕ) (v a b : Bool) → IsOr v a b → IsOr (of_input o v) (of_input o a) (of_input o b)
  sum_of_input None v a b h = h
  sum_of_input (Some y) v a b h = or_none

  sum_inputs : (args : List (Pair SumsArgument)) (x : Split) → IsOr (any_input (map (λ (a : Pair SumsArgument). a.0) args) x.s x.c) (any_input (map (λ (a : Pair SumsArgument). a.0) args) x.p x.d) (any_input (map (λ (a : Pair SumsArgument). a.0) args) x.q x.e)
  sum_inputs [] x = or_none
  sum_inputs (a ∷ rest) x = or4 _ _ _ _ _ _ (sum_of_input a.0.output _ _ _ (a.2 x).varies) (sum_inputs rest x)

  sum_arguments : (args : List (Pair SumsArgument)) (us ps qs : List Bool) (k : ℕ) (x : Split) → Halves goal (arguments_found us k (map (λ (a : Pair SumsArgument). a.0) args) x.s x.c).puts (arguments_found ps k (map (λ (a : Pair SumsArgument). a.0) args) x.p x.d).puts (arguments_found qs k (map (λ (a : Pair SumsArgument). a.0) args) x.q x.e).puts
  sum_arguments [] us ps qs k x = halves_none goal
  sum_arguments (a ∷ rest) us ps qs k x = halves_append goal _ _ _ _ _ _ (halves_append goal _ _ _ _ _ _ (a.2 x).puts (halves_none goal)) (sum_arguments rest us ps qs (k + 1) x)

  sum_outputs : (args : List (Pair SumsArgument)) (v a b : ℕ → Bool) → ((k : ℕ) → IsOr (v k) (a k) (b k)) → (k : ℕ) (x : Split) → Halves goal (outputs_found v k (map (λ (a : Pair SumsArgument). a.0) args) x.s x.c).puts (outputs_found a k (map (λ (a : Pair SumsArgument). a.0) args) x.p x.d).puts (outputs_found b k (map (λ (a : Pair SumsArgument). a.0) args) x.q x.e).puts
  sum_outputs [] v a b h k x = halves_none goal
  sum_outputs (y ∷ rest) v a b h k x = halves_append goal _ _ _ _ _ _ (halves_variable goal y.0.output _ _ _ (or4 _ _ _ _ _ _ x.or (or4 _ _ _ _ _ _ (h k) (y.2 x).varies))) (sum_outputs rest v a b h (k + 1) x)

  sum_callee : (c : Callee) (sizes : List Size) (args : List (Pair SumsArgument)) → Sums (seen_callee known c sizes (map (λ (a : Pair SumsArgument). a.0) args))
  sum_callee (callee.Program n) sizes args x =
      let l = sum_levels args x in
      let u = unites n (map (size_in x.s.opens) sizes) (map (size_in x.p.opens) sizes) (map (size_in x.q.opens) sizes) _ _ _ x.c x.d x.e l x.or.is in
      record {
        varies = or4 _ _ _ _ _ _ (sum_any _ _ _ l) (record { is = u Result });
        puts = halves_append goal _ _ _ _ _ _ (halves_append goal _ _ _ _ _ _ (sum_arguments args _ _ _ 0 x) (halves_none goal)) (sum_outputs args _ _ _ (λ k. record { is = u (Variable k) }) 0 x);
      }
  sum_callee (callee.Library id) sizes args x = record {
    varies = sum_any _ _ _ (sum_levels args x);
    puts = halves_append goal _ _ _ _ _ _ (sum_arguments args [] [] [] 0 x) (sum_outputs args _ _ _ (λ k. sum_inputs args x) 0 x);
  }

  -- ---- expressions

  sum_argument : (y : Argument-F (Pair SumsArgument) (Pair SumsEither) (Pair SumsEither) (Pair SumsEither) (Pair SumsEither) (Pair SumsEither) (Pair SumsPlace)) → Sums (look_argument (map-Argument (Pair SumsArgument) (Pair SumsEither) (Pair SumsEither) (Pair SumsEither) (Pair SumsEither) (Pair SumsEither) (Pair SumsPlace) ArgumentLook Look Look Look Look Look PlaceLook (λ e. e.0) (λ e. e.0) (λ e. e.0) (λ e. e.0) (λ e. e.0) (λ e. e.0) (λ e. e.0) y)).look
  sum_argument (form.Input o node) = o.2
  sum_argument (form.Output place c node) = place.2
  sum_argument form.Missing = sum_still

  sum_step : (y : TypedStep-F (Pair SumsArgument) (Pair SumsEither) (Pair SumsEither) (Pair SumsEither) (Pair SumsEither) (Pair SumsEither) (Pair SumsPlace)) → Sums (look_step (map-TypedStep (Pair SumsArgument) (Pair SumsEither) (Pair SumsEither) (Pair SumsEither) (Pair SumsEither) (Pair SumsEither) (Pair SumsPlace) ArgumentLook Look Look Look Look Look PlaceLook (λ e. e.0) (λ e. e.0) (λ e. e.0) (λ e. e.0) (λ e. e.0) (λ e. e.0) (λ e. e.0) y))
  sum_step (form.Index e node) = e.2
  sum_step (form.Field n) = sum_still

  sum_expr : (y : TypedExpr-F (Pair SumsArgument) (Pair SumsEither) (Pair SumsEither) (Pair SumsEither) (Pair SumsEither) (Pair SumsEither) (Pair SumsPlace)) → Sums (look_form known (map-TypedExpr (Pair SumsArgument) (Pair SumsEither) (Pair SumsEither) (Pair SumsEither) (Pair SumsEither) (Pair SumsEither) (Pair SumsPlace) ArgumentLook Look Look Look Look Look PlaceLook (λ e. e.0) (λ e. e.0) (λ e. e.0) (λ e. e.0) (λ e. e.0) (λ e. e.0) (λ e. e.0) y))
  sum_expr (form.Literal y) = sum_still
  sum_expr (form.Constant n) = sum_still
  sum_expr (form.Variable y) = sum_variable y
  sum_expr (form.Unary op k o) = o.2
  sum_expr (form.Chain o links) = sum_all (o ∷ links)
  sum_expr (form.Logic l os) = sum_logic os
  sum_expr (form.Path e steps) = sum_all (e ∷ steps)
  sum_expr (form.Size e size) = sum_unvaried e.0 e.2
  sum_expr (form.Call c) = c.2

  sum_exprs : KeepsExprs SumsArgument SumsEither SumsEither SumsEither SumsEither SumsEither SumsPlace (look_fold known) (look_fold known)
  sum_exprs = record { argument = sum_argument; expr = sum_expr; step = sum_step; operand = λ o. o.value.2; call = λ c. sum_callee c.callee c.sizes c.arguments; link = λ l. l.right.2; place = λ p. sum_all p.steps }

  sum_of_expr : (e : TypedExpr) → Sums (look_expr known e)
  sum_of_expr e = expr_pair _ _ _ _ _ _ _ (look_fold known) (look_fold known) sum_exprs e

  sum_operand : (e : Operand) → Sums (look_operand known e)
  sum_operand e = operand_pair _ _ _ _ _ _ _ (look_fold known) (look_fold known) sum_exprs e

  sum_call : (e : TypedCall) → Sums (look_call known e)
  sum_call e = call_pair _ _ _ _ _ _ _ (look_fold known) (look_fold known) sum_exprs e

  sum_place : (e : TypedPlace) → Sums (look_place known e).indices
  sum_place e = place_pair _ _ _ _ _ _ _ (look_fold known) (look_fold known) sum_exprs e

  sum_initialisers : KeepsInitialiser SumsEither (initialiser_step known) (initialiser_step known)
  sum_initialisers (initial.Value o) = sum_operand o
  sum_initialisers (initial.Elements shape is) = sum_all is
  sum_initialisers (initial.Fields n is) = sum_all is

  sum_initialiser : (i : Initialiser) → Sums (look_initialiser known i)
  sum_initialiser i = initialiser_pair SumsEither (initialiser_step known) (initialiser_step known) sum_initialisers i

  sum_first : (i : Option Initialiser) → Sums (look_first known i)
  sum_first None = sum_still
  sum_first (Some i) = sum_initialiser i

  sum_returned : (o : Option Operand) → Sums (look_returned known o)
  sum_returned None = sum_still
  sum_returned (Some o) = sum_operand o

  sum_item : (i : PrintItem) → Sums (look_item known i)
  sum_item (item.Text text) = sum_still
  sum_item (item.Value e) = sum_of_expr e

  sum_items : (is : List PrintItem) → Sums (look_items known is)
  sum_items [] x = sum_still x
  sum_items (i ∷ is) x = sum_beside _ _ _ _ _ _ (sum_item i x) (sum_items is x)

  sum_assignment : (a : Assignment) → Sums (look_assignment known a)
  sum_assignment a x = sum_beside _ _ _ _ _ _ (sum_place a.place x) (sum_beside _ _ _ _ _ _ (sum_operand a.value x) (sum_still x))

  -- ---- statements

  pub record Follows (u a b : Walked) : Type 0 where
    pub leaves : IsOr u.leaves a.leaves b.leaves
    pub puts : Halves goal u.found.puts a.found.puts b.found.puts

  abbrev pub SumsWalk : Walk → Type 0
  SumsWalk w = (x : Split) → Follows (w x.s x.c) (w x.p x.d) (w x.q x.e)

  abbrev SumsWalks : Walk → Walk → Type 0
  SumsWalks v w = SumsWalk v

  abbrev SumsArm : ArmWalk → ArmWalk → Type 0
  SumsArm a b = (w : Walk) → SumsWalk w → SumsWalk (a w)

  sum_no_walk : SumsWalk no_walk
  sum_no_walk x = record { leaves = or_none; puts = halves_none goal }

  sum_look : (l : Look) → Sums l → SumsWalk (walk_look l)
  sum_look l h x = record { leaves = or_none; puts = (h x).puts }

  sum_followed : (u a b u' a' b' : Walked) → Follows u a b → Follows u' a' b' → Follows (followed u u') (followed a a') (followed b b')
  sum_followed u a b u' a' b' h k = record { leaves = or4 _ _ _ _ _ _ h.leaves k.leaves; puts = halves_append goal _ _ _ _ _ _ h.puts k.puts }

  sum_walks : (ws : List (Pair SumsWalks)) → SumsWalk (walk_all (map (λ (w : Pair SumsWalks). w.0) ws))
  sum_walks [] x = sum_no_walk x
  sum_walks (w ∷ ws) x = sum_followed _ _ _ _ _ _ (w.2 x) (sum_walks ws (split_more x _ _ _ (w.2 x).leaves))

  sum_two : (v w : Walk) → SumsWalk v → SumsWalk w → SumsWalk (walk_all (v ∷ w ∷ []))
  sum_two v w h k = sum_walks ((v, v, h) ∷ (w, w, k) ∷ [])

  sum_walk_placed : (w : Walk) → SumsWalk w → SumsWalk (walk_placed w)
  sum_walk_placed w h x = let k = h x in record { leaves = k.leaves; puts = k.puts }

  sum_tested : (t : Look) (w : Walk) → Sums t → SumsWalk w → SumsWalk (tested t w)
  sum_tested t w h k x = let i = h x in let j = k (split_more x _ _ _ i.varies) in record { leaves = j.leaves; puts = halves_append goal _ _ _ _ _ _ i.puts j.puts }

  sum_set : (y : Holder) (l : Look) → Sums l → SumsWalk (walk_set y l)
  sum_set y l h x = let i = h x in record { leaves = or_none; puts = halves_append goal _ _ _ _ _ _ i.puts (halves_one goal y _ _ _ (or4 _ _ _ _ _ _ x.or i.varies)) }

  sum_loop : (t : Look) (n w : Walk) → Sums t → SumsWalk n → SumsWalk w → SumsWalk (walk_loop t n w)
  sum_loop t n w h k j x =
      let y = split_more x _ _ _ (h x).varies in
      let z = split_more y _ _ _ (j y).leaves in
      record { leaves = (j y).leaves; puts = halves_append goal _ _ _ _ _ _ (h z).puts (halves_append goal _ _ _ _ _ _ (k z).puts (j z).puts) }

  sum_return : (l : Look) → Sums l → SumsWalk (walk_return l)
  sum_return l h x = record { leaves = x.or; puts = (sum_set Result l h x).puts }

  sum_declaration : (d : Declaration) → SumsWalk (walk_declaration known d)
  sum_declaration d = sum_set (Variable d.variable) (look_first known d.first) (sum_first d.first)

  sum_assigned : (a : Assignment) → SumsWalk (walk_assignment known a)
  sum_assigned a = sum_set (Variable (look_place known a.place).variable) (look_assignment known a) (sum_assignment a)

  sum_start : (f : ForStart) → SumsWalk (walk_start known f)
  sum_start (start.Declare d) = sum_declaration d
  sum_start (start.Assign a) = sum_assigned a

  sum_arms : (args : List (Pair SumsArm)) (w : Walk) → SumsWalk w → SumsWalk (walk_arms (map (λ (a : Pair SumsArm). a.0) args) w)
  sum_arms [] w h = h
  sum_arms (a ∷ args) w h = a.2 (walk_arms (map (λ (a : Pair SumsArm). a.0) args) w) (sum_arms args w h)

  sum_arm : KeepsArm SumsWalks SumsArm (walk_arm known) (walk_arm known)
  sum_arm a w h = sum_walk_placed _ (sum_tested (look_operand known a.test) _ (sum_operand a.test) (sum_two a.body.0 w a.body.2 h))

  sum_for : (f : ForStart) (t : Operand) (a : Assignment) (w : Walk) → SumsWalk w → SumsWalk (walk_for known f (look_operand known t) a w)
  sum_for f t a w h = sum_two _ _ (sum_walk_placed _ (sum_start f)) (sum_loop (look_operand known t) _ w (sum_operand t) (sum_walk_placed _ (sum_assigned a)) h)

  sum_statements : KeepsStatement SumsWalks SumsArm (walk_form known) (walk_form known)
  sum_statements Empty = sum_walk_placed _ sum_no_walk
  sum_statements (Block ws) = sum_walk_placed _ (sum_walks ws)
  sum_statements (Declare d) = sum_walk_placed _ (sum_declaration d)
  sum_statements (Assign a) = sum_walk_placed _ (sum_assigned a)
  sum_statements (Call c) = sum_walk_placed _ (sum_look (look_call known c) (sum_call c))
  sum_statements (If arms None) = sum_walk_placed _ (sum_arms arms no_walk sum_no_walk)
  sum_statements (If arms (Some b)) = sum_walk_placed _ (sum_arms arms b.0 b.2)
  sum_statements (While test body node) = sum_walk_placed _ (sum_loop (look_operand known test) no_walk body.0 (sum_operand test) sum_no_walk body.2)
  sum_statements (For first test next body node) = sum_walk_placed _ (sum_for first test next body.0 body.2)
  sum_statements (Return o) = sum_walk_placed _ (sum_return (look_returned known o) (sum_returned o))
  sum_statements (Print items) = sum_walk_placed _ (sum_look (look_items known items) (sum_items items))

  -- statements
  pub sum_statement : (e : TypedStatement) → SumsWalk (walk_statement known e)
  sum_statement e = statement_pair SumsWalks SumsArm (walk_form known) (walk_arm known) (walk_form known) (walk_arm known) sum_statements sum_arm e
