-- The turns that are left never rise: expressions.
use Rattle.std.proofs.Common.{◌≡◌, ◌≤◌, ◌^◌, ◌+◌, ℕ, ℤ, pos, List, [], ◌∷◌, ◌++◌, map, length, Option, Some, None, Result, Ok, Err, Bool, true, false, not, ◌&&◌, if◌then◌else◌, nat_lt, int_lt, unsigned_abs, sum_by, slice_get, sym, subst, ◌∙◌, refl, arith}
use Rattle.fix_num.specs.declared.TheConstants.{FRACTION}
use Rattle.fix_num.specs.Whole.{truth, of_bool}
use Rattle.ctl_base.specs.declared.kind.Node.{Node}
use Rattle.ctl_base.specs.declared.kind.ScalarKind.{ScalarKind}
use Rattle.ctl_base.specs.declared.kind.ScalarKind.TheVariants as kind
use Rattle.ctl_types.specs.declared.scalar.Scalar.TheVariants as scalar_form
use Rattle.ctl_types.specs.declared.shape.LocalShape.{LocalShape}
use Rattle.ctl_types.specs.declared.value.Value.{Value, out-Value}
use Rattle.ctl_types.specs.declared.value.Value.TheOpen as layer
use Rattle.ctl_types.specs.declared.value.Value.TheOpen.{Value-F}
use Rattle.ctl_types.specs.declared.expression.Conversion.{Conversion}
use Rattle.ctl_types.specs.declared.expression.Conversion.TheVariants.{Same, Between}
use Rattle.ctl_types.specs.declared.expression.Callee.{Callee}
use Rattle.ctl_types.specs.declared.expression.Callee.TheVariants as callee
use Rattle.ctl_types.specs.declared.expression.TypedExpr.{TypedExpr}
use Rattle.ctl_types.specs.declared.expression.Operand.{Operand}
use Rattle.ctl_types.specs.declared.expression.TypedCall.{TypedCall}
use Rattle.ctl_types.specs.declared.expression.TypedPlace.{TypedPlace}
use Rattle.ctl_types.specs.declared.expression.Argument.TheOpen as form
use Rattle.ctl_types.specs.declared.expression.Argument.TheOpen.{Argument-F, TypedExpr-F, TypedStep-F}
use Rattle.ctl_types.specs.declared.expression.Argument.TheFolds.{map-Argument, map-TypedExpr, map-TypedStep}
use Rattle.ctl_types.specs.declared.statement.Initialiser.{Initialiser}
use Rattle.ctl_types.specs.declared.statement.Initialiser.TheOpen as initial
use Rattle.ctl_types.specs.Scalars.{kind_of, word_of, same_kind, scalar, converted, operate, operator_kind, operate_alone}
use Rattle.ctl_types.specs.Shapes.{size_in}
use Rattle.ctl_types.specs.Values.{Env, one, var_of, part_of, scalars}
use Rattle.ctl_types.specs.Library.{LibraryAnswer, Unfit, Refused, Given, library_answer}
use Rattle.ctl_types.specs.Pairs.{Pair, KeepsExprs, KeepsInitialiser, expr_pair, operand_pair, call_pair, place_pair, initialiser_pair}
use Rattle.ctl_types.specs.Run.{Fault, Wrong, Pixel, Outcome, Run, go_on, give, held, paid, evaluated, word_in, word, give_scalar, convert, chosen, index_number, index_in, field_in, StepRun, steps_run, found, path_run, PlaceRun, Passed, Target, given, scalars_in, Came, Called, Setting, ArgumentRun, put_back, brought, came_to, called, library_came, callee_of, LinkRun, linked, decided, decider, listed, argument_step, step_step, expr_step, run_fold, run_expr, run_operand, run_call, run_place, initialiser_step, first_value, left_value}

-- each of these
abbrev pub All : {A : Type 0} → (A → Type 0) → List A → Type 0
All P [] = Unit {0}
All P (x ∷ xs) = P x × All P xs

-- one of a pair that is taken twice
abbrev pub Once : {A : Type 0} → (A → Type 0) → A → A → Type 0
Once P x y = P x

pub pairs_all : {A : Type 0} (P : A → Type 0) (ps : List (Pair (Once P))) → All P (map (λ (p : Pair (Once P)). p.0) ps)
pairs_all P [] = tt
pairs_all P (p ∷ ps) = (p.2, pairs_all P ps)

module _ (C : Type 0) (pay : ℕ → C → C) where
  abbrev pub FallsTo : {V : Type 0} → ℕ → Outcome C pay V → Type 0
  FallsTo n (Ok got) = got.after.turns ≤ n
  FallsTo n (Err fault) = Unit {0}

  -- no more turns are left after a run
  pub record Falls {V : Type 0} (run : Run C pay V) : Type 0 where
    pub by : (p : Pixel C pay) → FallsTo p.turns (run p)

  pub falls_from : {V : Type 0} (m n : ℕ) (o : Outcome C pay V) → m ≤ n → FallsTo m o → FallsTo n o
  falls_from m n (Ok got) h k = omega arith
  falls_from m n (Err fault) h k = tt

  pub falls_then : {V W : Type 0} (run : Run C pay V) (next : V → Run C pay W) → Falls run → ((v : V) → Falls (next v)) → Falls (λ p. go_on C pay (run p) next)
  falls_then {V} {W} run next h k = record { by = λ p. after p.turns (run p) (h.by p) } where
    after : (n : ℕ) (o : Outcome C pay V) → FallsTo n o → FallsTo n (go_on C pay o next)
    after n (Ok got) h = falls_from got.after.turns n (next got.value got.after) h ((k got.value).by got.after)
    after n (Err fault) h = tt

  pub falls_give : {V : Type 0} (v : V) → Falls (give C pay v)
  falls_give v = record { by = λ p. omega arith }

  pub falls_paid : {V : Type 0} (v : V) (n : ℕ) → Falls (λ p. give C pay v (paid C pay n p))
  falls_paid v n = record { by = λ p. omega arith }

  pub falls_held : {V W : Type 0} (o : Option V) (next : V → Run C pay W) → ((v : V) → Falls (next v)) → Falls (held C pay o next)
  falls_held None next h = record { by = λ p. tt }
  falls_held (Some v) next h = record { by = λ p. (h v).by p }

  pub falls_found : {V W : Type 0} (find : Env → Option V) (next : V → Run C pay W) → ((v : V) → Falls (next v)) → Falls (λ p. held C pay (find p.env) next p)
  falls_found find next h = record { by = λ p. (falls_held (find p.env) next h).by p }

  pub falls_evaluated : (run : Run C pay Value) → Falls run → Falls (evaluated C pay run)
  falls_evaluated run h = falls_then run _ h (λ v. falls_paid v (1 + scalars v))

  pub falls_if : {V : Type 0} (b : Bool) (run other : Run C pay V) → Falls run → Falls other → Falls (λ p. if b then run p else other p)
  falls_if true run other h k = record { by = λ p. h.by p }
  falls_if false run other h k = record { by = λ p. k.by p }

  falls_word_in : {W : Type 0} (k : ScalarKind) (x : Value-F Value) (next : ℤ → Run C pay W) → ((z : ℤ) → Falls (next z)) → Falls (word_in C pay k x next)
  falls_word_in k (layer.One s) next h = falls_if (same_kind (kind_of s) k) (next (word_of s)) (λ p. Err Wrong) (h (word_of s)) (record { by = λ p. tt })
  falls_word_in k (layer.List vs) next h = record { by = λ p. tt }
  falls_word_in k (layer.Fields vs) next h = record { by = λ p. tt }

  pub falls_word : {W : Type 0} (k : ScalarKind) (next : ℤ → Run C pay W) (v : Value) → ((z : ℤ) → Falls (next z)) → Falls (word C pay k next v)
  falls_word k next v h = falls_word_in k (out-Value v) next h

  falls_scalar : (k : ScalarKind) (z : Option ℤ) → Falls (give_scalar C pay k z)
  falls_scalar k z = falls_held z _ (λ z. falls_give (one (scalar k z)))

  pub falls_convert : (c : Conversion) (v : Value) → Falls (convert C pay c v)
  falls_convert Same v = falls_give v
  falls_convert (Between a b) v = falls_word a _ v (λ z. falls_give (one (scalar b (converted FRACTION a b z))))

  pub falls_chosen : {V : Type 0} (run other : Run C pay V) (v : Value) → Falls run → Falls other → Falls (chosen C pay run other v)
  falls_chosen run other v h k = falls_word kind.Bool (λ z. if truth z then run else other) v (λ z. at (truth z)) where
    at : (b : Bool) → Falls (if b then run else other)
    at true = h
    at false = k

  falls_index : (node : Node) (z : ℤ) (x : Value-F Value) → Falls (index_in C pay node z x)
  falls_index node z (layer.One s) = record { by = λ p. tt }
  falls_index node z (layer.List vs) = falls_if (not (int_lt z (pos 0)) && nat_lt (unsigned_abs z) (length vs)) (give C pay (unsigned_abs z)) (λ p. Err _) (falls_give (unsigned_abs z)) (record { by = λ p. tt })
  falls_index node z (layer.Fields vs) = record { by = λ p. tt }

  falls_number : {W : Type 0} (x : Value-F Value) (next : ℤ → Run C pay W) → ((z : ℤ) → Falls (next z)) → Falls (index_number C pay x next)
  falls_number (layer.One (scalar_form.Bool b)) next h = record { by = λ p. (h (of_bool b)).by p }
  falls_number (layer.One (scalar_form.Int z)) next h = record { by = λ p. (h z).by p }
  falls_number (layer.One (scalar_form.Unsigned n)) next h = record { by = λ p. (h (pos n)).by p }
  falls_number (layer.One (scalar_form.Half z)) next h = record { by = λ p. tt }
  falls_number (layer.One (scalar_form.Float z)) next h = record { by = λ p. tt }
  falls_number (layer.List vs) next h = record { by = λ p. tt }
  falls_number (layer.Fields vs) next h = record { by = λ p. tt }

  falls_field : (n : ℕ) (x : Value-F Value) → Falls (field_in C pay n x)
  falls_field n (layer.One s) = record { by = λ p. tt }
  falls_field n (layer.List vs) = record { by = λ p. tt }
  falls_field n (layer.Fields vs) = falls_if (nat_lt n (length vs)) (give C pay n) (λ p. Err Wrong) (falls_give n) (record { by = λ p. tt })

  -- ---- forms

  abbrev FallsStep : StepRun C pay → Type 0
  FallsStep step = (find : Env → Option Value) → Falls (step find)

  abbrev FallsLink : LinkRun C pay → Type 0
  FallsLink link = (v : Value) → Falls (link v)

  abbrev FallsPlace : PlaceRun C pay → Type 0
  FallsPlace place = Falls place.path

  abbrev FallsArgument : ArgumentRun C pay → Type 0
  FallsArgument r = Falls r.run

  path_falls : (ss : List (StepRun C pay)) → All FallsStep ss → (x : ℕ) (done : List ℕ) → Falls (path_run C pay x ss done)
  path_falls [] e x done = falls_give done
  path_falls (s ∷ ss) e x done = falls_then _ _ (e.0 (found C pay x done)) (λ i. path_falls ss e.1 x (done ++ i ∷ []))

  steps_falls : (ss : List (StepRun C pay)) → All FallsStep ss → (v : Value) → Falls (steps_run C pay ss v)
  steps_falls [] e v = falls_give v
  steps_falls (s ∷ ss) e v = falls_then _ _ (e.0 (λ env. Some v)) (λ i. falls_held (part_of (Some v) i) _ (λ u. record { by = λ p. (steps_falls ss e.1 u).by (paid C pay (1 + scalars u) p) }))

  linked_falls : (ks : List (LinkRun C pay)) → All FallsLink ks → (v : Value) → Falls (linked C pay ks v)
  linked_falls [] e v = falls_give v
  linked_falls (k ∷ ks) e v = falls_then _ _ (e.0 v) (linked_falls ks e.1)

  next_falls : (t : Bool) (x rest : Run C pay Value) (v : Value) → Falls x → Falls rest → Falls ((if t then chosen C pay x rest else chosen C pay rest x) v)
  next_falls true x rest v h k = falls_chosen x rest v h k
  next_falls false x rest v h k = falls_chosen rest x v k h

  decided_falls : (t : Bool) (rs : List (Run C pay Value)) → All Falls rs → Falls (decided C pay t rs)
  decided_falls t [] e = falls_give _
  decided_falls t (r ∷ rs) e = falls_then r _ e.0 (λ v. next_falls t _ (decided C pay t rs) v (falls_give _) (decided_falls t rs e.1))

  listed_falls : {V : Type 0} (rs : List (Run C pay V)) → All Falls rs → Falls (listed C pay rs)
  listed_falls [] e = falls_give []
  listed_falls (r ∷ rs) e = falls_then r _ e.0 (λ v. falls_then _ _ (listed_falls rs e.1) (λ vs. falls_give (v ∷ vs)))

  runs_fall : (rs : List (ArgumentRun C pay)) → All FallsArgument rs → All Falls (map (λ (r : ArgumentRun C pay). r.run) rs)
  runs_fall [] e = tt
  runs_fall (r ∷ rs) e = (e.0, runs_fall rs e.1)

  -- a function gives back no more turns
  abbrev pub CameFalls : ℕ → Result (Came C pay) Fault → Type 0
  CameFalls n (Ok came) = came.turns ≤ n
  CameFalls n (Err fault) = Unit {0}

  abbrev pub AllFall : List (Called C pay) → Type 0
  AllFall functions = (k : ℕ) (f : Called C pay) → slice_get functions k ≡ Some f → (opens : List ℕ) (frame : Env) (turns : ℕ) (spent : C) → CameFalls turns (f.run opens frame turns spent)

  put_turns : (t : Option Target) (path : List ℕ) (v : Value) (p : Pixel C pay) → (put_back C pay t path v p).turns ≡ p.turns
  put_turns None path v p = refl
  put_turns (Some t) path v p = refl

  brought_turns : (ts : List (Option Target)) (qs : List Passed) (frame : Env) (p : Pixel C pay) → (brought C pay ts qs frame p).turns ≡ p.turns
  brought_turns [] qs frame p = refl
  brought_turns (t ∷ ts) [] frame p = refl
  brought_turns (t ∷ ts) (q ∷ qs) [] p = refl
  brought_turns (t ∷ ts) (q ∷ qs) (None ∷ frame) p = brought_turns ts qs frame p
  brought_turns (t ∷ ts) (q ∷ qs) (Some v ∷ frame) p = brought_turns ts qs frame (put_back C pay t q.path v p) ∙ put_turns t q.path v p

  came_falls : (ts : List (Option Target)) (qs : List Passed) (env : Env) (n : ℕ) (o : Result (Came C pay) Fault) → CameFalls n o → FallsTo n (came_to C pay ts qs env o)
  came_falls ts qs env n (Ok came) h = subst (λ m. m ≤ n) (sym (brought_turns ts qs came.frame (record { env = env; turns = came.turns; spent = came.spent }))) h
  came_falls ts qs env n (Err fault) h = tt

  called_falls : (opens : List ℕ) (ts : List (Option Target)) (qs : List Passed) (f : Called C pay) → ((opens : List ℕ) (frame : Env) (turns : ℕ) (spent : C) → CameFalls turns (f.run opens frame turns spent)) → Falls (called C pay opens ts qs f)
  called_falls opens ts qs f h = record { by = λ p. came_falls ts qs p.env p.turns _ (h opens (given f.defaults qs) p.turns (pay (sum_by scalars_in (given f.defaults qs)) p.spent)) }

  library_falls : (node : Node) (turns : ℕ) (spent : C) (x : LibraryAnswer) → CameFalls turns (library_came C pay node turns spent x)
  library_falls node turns spent Unfit = tt
  library_falls node turns spent Refused = tt
  library_falls node turns spent (Given v frame) = omega arith

  module _ (s : Setting C pay) (serves : AllFall s.functions) where
    callee_falls : (c : Callee) (node : Node) (opens : List ℕ) (ts : List (Option Target)) (qs : List Passed) → Falls (held C pay (callee_of C pay s c node) (called C pay opens ts qs))
    callee_falls (callee.Program k) node opens ts qs = at (slice_get s.functions k) (λ f e. serves k f e) where
      at : (o : Option (Called C pay)) → ((f : Called C pay) → o ≡ Some f → (opens : List ℕ) (frame : Env) (turns : ℕ) (spent : C) → CameFalls turns (f.run opens frame turns spent)) → Falls (held C pay o (called C pay opens ts qs))
      at None h = record { by = λ p. tt }
      at (Some f) h = record { by = λ p. (called_falls opens ts qs f (h f refl)).by p }
    callee_falls (callee.Library id) node opens ts qs = record { by = λ p. (called_falls opens ts qs _ (λ opens frame turns spent. library_falls node turns spent (library_answer s.structs id opens frame))).by p }

    abbrev PA : ArgumentRun C pay → ArgumentRun C pay → Type 0
    PA = Once FallsArgument

    abbrev PE : Run C pay Value → Run C pay Value → Type 0
    PE = Once Falls

    abbrev PS : StepRun C pay → StepRun C pay → Type 0
    PS = Once FallsStep

    abbrev PL : LinkRun C pay → LinkRun C pay → Type 0
    PL = Once FallsLink

    abbrev PP : PlaceRun C pay → PlaceRun C pay → Type 0
    PP = Once FallsPlace

    in_argument : (y : Argument-F (Pair PA) (Pair PE) (Pair PS) (Pair PE) (Pair PE) (Pair PL) (Pair PP)) → FallsArgument (argument_step C pay (map-Argument (Pair PA) (Pair PE) (Pair PS) (Pair PE) (Pair PE) (Pair PL) (Pair PP) (ArgumentRun C pay) (Run C pay Value) (StepRun C pay) (Run C pay Value) (Run C pay Value) (LinkRun C pay) (PlaceRun C pay) (λ e. e.0) (λ e. e.0) (λ e. e.0) (λ e. e.0) (λ e. e.0) (λ e. e.0) (λ e. e.0) y))
    in_argument (form.Input o node) = falls_then o.0 _ o.2 (λ v. falls_give _)
    in_argument (form.Output place c node) = falls_then place.0.path _ place.2 (λ path. falls_found (found C pay place.0.variable path) _ (λ v. falls_then _ _ (falls_convert c v) (λ u. falls_give _)))
    in_argument form.Missing = falls_give _

    in_step : (y : TypedStep-F (Pair PA) (Pair PE) (Pair PS) (Pair PE) (Pair PE) (Pair PL) (Pair PP)) → FallsStep (step_step C pay (map-TypedStep (Pair PA) (Pair PE) (Pair PS) (Pair PE) (Pair PE) (Pair PL) (Pair PP) (ArgumentRun C pay) (Run C pay Value) (StepRun C pay) (Run C pay Value) (Run C pay Value) (LinkRun C pay) (PlaceRun C pay) (λ e. e.0) (λ e. e.0) (λ e. e.0) (λ e. e.0) (λ e. e.0) (λ e. e.0) (λ e. e.0) y))
    in_step (form.Index e node) = λ find. falls_then e.0 _ e.2 (λ v. falls_number (out-Value v) _ (λ z. falls_found find _ (λ v. falls_index node z (out-Value v))))
    in_step (form.Field n) = λ find. falls_found find _ (λ v. falls_field n (out-Value v))

    in_expr : (y : TypedExpr-F (Pair PA) (Pair PE) (Pair PS) (Pair PE) (Pair PE) (Pair PL) (Pair PP)) → Falls (expr_step C pay s (map-TypedExpr (Pair PA) (Pair PE) (Pair PS) (Pair PE) (Pair PE) (Pair PL) (Pair PP) (ArgumentRun C pay) (Run C pay Value) (StepRun C pay) (Run C pay Value) (Run C pay Value) (LinkRun C pay) (PlaceRun C pay) (λ e. e.0) (λ e. e.0) (λ e. e.0) (λ e. e.0) (λ e. e.0) (λ e. e.0) (λ e. e.0) y))
    in_expr (form.Literal x) = falls_evaluated _ (falls_give _)
    in_expr (form.Constant n) = falls_evaluated _ (falls_held _ _ (λ v. falls_give v))
    in_expr (form.Variable x) = falls_evaluated _ (falls_found (λ env. var_of env x) (give C pay) (λ v. falls_give v))
    in_expr (form.Unary op k o) = falls_evaluated _ (falls_then o.0 _ o.2 (λ v. falls_word k _ v (λ a. falls_scalar k (operate_alone FRACTION op k a))))
    in_expr (form.Chain o links) = falls_evaluated _ (falls_then o.0 _ o.2 (λ v. linked_falls _ (pairs_all FallsLink links) v))
    in_expr (form.Logic l os) = falls_evaluated _ (decided_falls (decider l) _ (pairs_all Falls os))
    in_expr (form.Path e steps) = falls_then e.0 _ e.2 (λ v. steps_falls _ (pairs_all FallsStep steps) v)
    in_expr (form.Size e size) = falls_evaluated _ (falls_then e.0 _ e.2 (λ v. falls_if (nat_lt (size_in s.opens size) (2 ^ 31)) (give C pay (one (scalar_form.Int (pos (size_in s.opens size))))) (λ p. Err Wrong) (falls_give _) (record { by = λ p. tt })))
    in_expr (form.Call c) = c.2

    in_exprs : KeepsExprs PA PE PS PE PE PL PP (run_fold C pay s) (run_fold C pay s)
    in_exprs = record {
      argument = in_argument;
      expr = in_expr;
      step = in_step;
      operand = λ o. falls_then o.value.0 _ o.value.2 (falls_convert o.conversion);
      call = λ c. falls_evaluated _ (falls_then _ _ (listed_falls _ (runs_fall _ (pairs_all FallsArgument c.arguments))) (λ qs. callee_falls c.callee c.node _ _ qs));
      link = λ l v. falls_then l.right.0 _ l.right.2 (λ w. falls_then _ _ (falls_convert l.left v) (λ v. falls_word l.kind _ v (λ a. falls_word l.kind _ w (λ b. falls_scalar (operator_kind l.operator l.kind) (operate FRACTION l.operator l.kind a b)))));
      place = λ p. falls_found (λ env. var_of env p.variable) _ (λ v. path_falls _ (pairs_all FallsStep p.steps) p.variable []);
    }

    pub expr_falls : (e : TypedExpr) → Falls (run_expr C pay s e)
    expr_falls e = expr_pair PA PE PS PE PE PL PP (run_fold C pay s) (run_fold C pay s) in_exprs e

    pub operand_falls : (e : Operand) → Falls (run_operand C pay s e)
    operand_falls e = operand_pair PA PE PS PE PE PL PP (run_fold C pay s) (run_fold C pay s) in_exprs e

    pub call_falls : (e : TypedCall) → Falls (run_call C pay s e)
    call_falls e = call_pair PA PE PS PE PE PL PP (run_fold C pay s) (run_fold C pay s) in_exprs e

    pub place_falls : (e : TypedPlace) → Falls (run_place C pay s e).path
    place_falls e = place_pair PA PE PS PE PE PL PP (run_fold C pay s) (run_fold C pay s) in_exprs e

    in_initialisers : KeepsInitialiser PE (initialiser_step C pay s) (initialiser_step C pay s)
    in_initialisers (initial.Value o) = record { by = λ p. (operand_falls o).by p }
    in_initialisers (initial.Elements shape is) = falls_then _ _ (listed_falls _ (pairs_all Falls is)) (λ vs. falls_give _)
    in_initialisers (initial.Fields n is) = falls_then _ _ (listed_falls _ (pairs_all Falls is)) (λ vs. falls_give _)

    pub first_falls : (shape : LocalShape) (i : Option Initialiser) → Falls (first_value C pay s shape i)
    first_falls shape None = falls_give _
    first_falls shape (Some i) = initialiser_pair PE (initialiser_step C pay s) (initialiser_step C pay s) in_initialisers i

    pub left_falls : (o : Option Operand) → Falls (left_value C pay s o)
    left_falls None = falls_give _
    left_falls (Some o) = operand_falls o
