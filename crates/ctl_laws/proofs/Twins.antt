-- Two runs of one form, with two counts, where the second has some turns more.
use Rattle.std.proofs.Common.{◌≡◌, ℕ, zero, suc, ℤ, pos, ◌+◌, ◌^◌, ◌<◌, ◌≤◌, List, [], ◌∷◌, ◌++◌, map, replicate, length, sum_by, Option, Some, None, Ok, Err, Result, Bool, true, false, not, ◌&&◌, if◌then◌else◌, nat_lt, int_lt, unsigned_abs, inl, inr, refl, sym, ap, subst, ◌∙◌, arith, slice_get, slice_set}
use Rattle.std.specs.Prelude.{◌⊎◌}
use Rattle.fix_num.specs.declared.TheConstants.{FRACTION}
use Rattle.fix_num.specs.Whole.{truth}
use Rattle.ctl_base.specs.declared.kind.Node.{Node}
use Rattle.ctl_base.specs.declared.kind.ScalarKind.{ScalarKind}
use Rattle.ctl_base.specs.declared.kind.ScalarKind.TheVariants as kind
use Rattle.ctl_base.specs.declared.kind.TrapKind.{TrapKind}
use Rattle.ctl_base.specs.declared.kind.TrapKind.TheVariants as trap
use Rattle.ctl_types.specs.declared.scalar.Scalar.TheVariants as scalar_form
use Rattle.ctl_types.specs.declared.shape.Shape.{Shape}
use Rattle.ctl_types.specs.declared.shape.LocalShape.{LocalShape}
use Rattle.ctl_types.specs.declared.program.Struct.{Struct as StructForm}
use Rattle.ctl_types.specs.declared.program.Parameter.{Parameter}
use Rattle.ctl_types.specs.declared.program.Function.{Function}
use Rattle.ctl_types.specs.declared.value.Value.{Value, out-Value}
use Rattle.ctl_types.specs.declared.value.Value.TheOpen as layer
use Rattle.ctl_types.specs.declared.value.Value.TheOpen.{Value-F}
use Rattle.ctl_types.specs.declared.expression.Callee.{Callee}
use Rattle.ctl_types.specs.declared.expression.Callee.TheVariants as callee
use Rattle.ctl_types.specs.declared.expression.Conversion.{Conversion}
use Rattle.ctl_types.specs.declared.expression.Conversion.TheVariants.{Same, Between}
use Rattle.ctl_types.specs.declared.expression.LinkOperator.{LinkOperator}
use Rattle.ctl_types.specs.declared.expression.TypedExpr.{TypedExpr}
use Rattle.ctl_types.specs.declared.expression.Operand.{Operand}
use Rattle.ctl_types.specs.declared.expression.TypedCall.{TypedCall}
use Rattle.ctl_types.specs.declared.expression.TypedPlace.{TypedPlace}
use Rattle.ctl_types.specs.declared.expression.Argument.TheOpen as form
use Rattle.ctl_types.specs.declared.expression.Argument.TheFolds.{map-Argument, map-TypedExpr, map-TypedStep, map-Operand, map-TypedCall, map-TypedLink, map-TypedPlace}
use Rattle.ctl_types.specs.declared.statement.Initialiser.{Initialiser}
use Rattle.ctl_types.specs.declared.statement.Initialiser.TheOpen as initial
use Rattle.ctl_types.specs.declared.statement.Declaration.{Declaration}
use Rattle.ctl_types.specs.declared.statement.Assignment.{Assignment}
use Rattle.ctl_types.specs.declared.statement.ForStart.{ForStart}
use Rattle.ctl_types.specs.declared.statement.ForStart.TheVariants as start
use Rattle.ctl_types.specs.declared.statement.PrintItem.{PrintItem}
use Rattle.ctl_types.specs.declared.statement.PrintItem.TheVariants as item
use Rattle.ctl_types.specs.declared.statement.TypedStatement.{TypedStatement}
use Rattle.ctl_types.specs.declared.statement.TypedStatement.TheOpen.{Empty, Block, Declare, Assign, Call, If, While, For, Return, Print}
use Rattle.ctl_types.specs.Scalars.{kind_of, word_of, scalar, same_kind, operate, operator_kind, operate_alone, converted}
use Rattle.ctl_types.specs.Shapes.{size_in}
use Rattle.ctl_types.specs.Values.{Env, one, list, fields, nothing, part_of, var_of, stored, fits, alike, scalars, takes}
use Rattle.ctl_types.specs.Definitions.{Defined, constant_values}
use Rattle.ctl_types.specs.Library.{LibraryAnswer, Unfit, Refused, Given, library_answer}
use Rattle.ctl_types.specs.Run.{Fault, Trapped, Wrong, End, Normal, Left, Target, Passed, given, scalars_in, decider, whole_result, first_frame, first_scalars, outputs_of, Pixel, Outcome, Run, go_on, give, held, paid, visited, evaluated, listed, word_in, word, give_scalar, convert, chosen, sized, operated, index_number, checked, index_in, field_in, StepRun, index_run, stepped, steps_run, found, path_run, PlaceRun, Came, FunctionRun, Called, Setting, ArgumentRun, put_back, brought, came_to, call_with, called, library_came, library_run, callee_of, LinkRun, linked, decided, pass_value, pass_output, argument_step, step_step, operand_step, link_step, place_step, replaced, store, assigned, leave, unless_left, sequence, ArmRun, arms_run, take_turn, rounds, loop_run, call_step, expr_step, run_fold, run_expr, run_operand, run_call, run_place, initialiser_step, run_initialiser, first_value, declared, run_declaration, run_assignment, run_start, run_item, run_items, left_value, arm_step, statement_step, run_statement, fallen, end_of, ended, parameter_shapes, called_of, meanings, Ended, ended_with, entry_came, run_of, entry_frame, entry_of}
use Rattle.ctl_types.specs.Pairs.{Pair, KeepsExprs, KeepsInitialiser, KeepsStatement, KeepsArm, expr_pair, operand_pair, call_pair, place_pair, initialiser_pair, statement_pair}

module _ (C : Type 0) (pay : ℕ → C → C) (D : Type 0) (pad : ℕ → D → D) (R : C → D → Type 0) (keep : (n : ℕ) (c : C) (d : D) → R c d → R (pay n c) (pad n d)) (extra : ℕ) where
  -- the state of the second run
  abbrev pub later : Pixel C pay → D → Pixel D pad
  later p s = record { env = p.env; turns = p.turns + extra; spent = s }

  -- a trap that more turns do not change
  abbrev pub Stays : TrapKind → Type 0
  Stays k = (extra ≡ 0) ⊎ (k ≡ trap.Turns → ⊥)

  -- how the second run ends, by the end of the first: it began with so many turns
  abbrev pub Alike : {V : Type 0} → ℕ → Outcome C pay V → Outcome D pad V → Type 0
  Alike t (Ok got) o = (got.after.turns ≤ t) × (s : D) × R got.after.spent s × (o ≡ Ok (record { value = got.value; after = later got.after s }))
  Alike t (Err (Trapped k node)) o = Stays k → o ≡ Err (Trapped k node)
  Alike t (Err Wrong) o = o ≡ Err Wrong

  abbrev pub Follows : {V : Type 0} → Run C pay V → Run D pad V → Type 0
  Follows r r' = (p : Pixel C pay) (s : D) → R p.spent s → Alike p.turns (r p) (r' (later p s))

  alike_more : {V : Type 0} (a b : ℕ) (o : Outcome C pay V) (o' : Outcome D pad V) → a ≤ b → Alike a o o' → Alike b o o'
  alike_more a b (Ok got) o' l h = (let z = h.0 in omega arith, h.1, h.2, h.3)
  alike_more a b (Err (Trapped k node)) o' l h = h
  alike_more a b (Err Wrong) o' l h = h

  alike_then : {V W : Type 0} (t : ℕ) (o : Outcome C pay V) (o' : Outcome D pad V) (next : V → Run C pay W) (next' : V → Run D pad W) → Alike t o o' → ((v : V) (q : Pixel C pay) (s : D) → R q.spent s → q.turns ≤ t → Alike q.turns (next v q) (next' v (later q s))) → Alike t (go_on C pay o next) (go_on D pad o' next')
  alike_then {V} {W} t (Ok got) o' next next' h f = subst (λ (o : Outcome D pad V). Alike t (next got.value got.after) (go_on D pad o next')) (sym h.3) (alike_more got.after.turns t (next got.value got.after) (next' got.value (later got.after h.1)) h.0 (f got.value got.after h.1 h.2 h.0))
  alike_then {V} {W} t (Err (Trapped k node)) o' next next' h f = λ y. ap (λ (o : Outcome D pad V). go_on D pad o next') (h y)
  alike_then {V} {W} t (Err Wrong) o' next next' h f = ap (λ (o : Outcome D pad V). go_on D pad o next') h

  follow_then : {V W : Type 0} (r : Run C pay V) (r' : Run D pad V) (next : V → Run C pay W) (next' : V → Run D pad W) → Follows r r' → ((v : V) → Follows (next v) (next' v)) → Follows (λ p. go_on C pay (r p) next) (λ p. go_on D pad (r' p) next')
  follow_then r r' next next' h f p s k = alike_then p.turns (r p) (r' (later p s)) next next' (h p s k) (λ v q z j l. f v q z j)

  follow_give : {V : Type 0} (v : V) → Follows (give C pay v) (give D pad v)
  follow_give v p s k = (omega arith, s, k, refl)

  follow_held : {V W : Type 0} (o : Option V) (next : V → Run C pay W) (next' : V → Run D pad W) → ((v : V) → Follows (next v) (next' v)) → Follows (held C pay o next) (held D pad o next')
  follow_held None next next' f p s k = refl
  follow_held (Some v) next next' f p s k = f v p s k

  follow_if : {V : Type 0} (b : Bool) (r : Run C pay V) (r' : Run D pad V) (q : Run C pay V) (q' : Run D pad V) → Follows r r' → Follows q q' → Follows (if b then r else q) (if b then r' else q')
  follow_if true r r' q q' h j = h
  follow_if false r r' q q' h j = j

  alike_if : {V : Type 0} (t : ℕ) (b : Bool) (o : Outcome C pay V) (o' : Outcome D pad V) (u : Outcome C pay V) (u' : Outcome D pad V) → Alike t o o' → Alike t u u' → Alike t (if b then o else u) (if b then o' else u')
  alike_if t true o o' u u' h j = h
  alike_if t false o o' u u' h j = j

  follow_evaluated : (r : Run C pay Value) (r' : Run D pad Value) → Follows r r' → Follows (evaluated C pay r) (evaluated D pad r')
  follow_evaluated r r' h = follow_then r r' _ _ h (λ v p s k. (omega arith, pad (1 + scalars v) s, keep (1 + scalars v) p.spent s k, refl))

  follow_visited : {V : Type 0} (r : Run C pay V) (r' : Run D pad V) → Follows r r' → Follows (visited C pay r) (visited D pad r')
  follow_visited r r' h = follow_then r r' _ _ h (λ v p s k. (omega arith, pad 1 s, keep 1 p.spent s k, refl))

  abbrev Twins : (V : Type 0) → Type 0
  Twins V = Pair {A = Run C pay V} {B = Run D pad V} Follows

  follow_listed : {V : Type 0} (rs : List (Twins V)) → Follows (listed C pay (map (λ (e : Twins V). e.0) rs)) (listed D pad (map (λ (e : Twins V). e.1) rs))
  follow_listed [] = follow_give []
  follow_listed {V} (r ∷ rs) = follow_then r.0 r.1 _ _ r.2 (λ v. follow_then (listed C pay (map (λ (e : Twins V). e.0) rs)) (listed D pad (map (λ (e : Twins V). e.1) rs)) _ _ (follow_listed rs) (λ vs. follow_give (v ∷ vs)))

  -- ---- scalars

  follow_word_in : {W : Type 0} (k : ScalarKind) (x : Value-F Value) (next : ℤ → Run C pay W) (next' : ℤ → Run D pad W) → ((z : ℤ) → Follows (next z) (next' z)) → Follows (word_in C pay k x next) (word_in D pad k x next')
  follow_word_in k (layer.One s) next next' f p z j = alike_if p.turns (same_kind (kind_of s) k) (next (word_of s) p) (next' (word_of s) (later p z)) (Err Wrong) (Err Wrong) (f (word_of s) p z j) refl
  follow_word_in k (layer.List vs) next next' f p z j = refl
  follow_word_in k (layer.Fields vs) next next' f p z j = refl

  follow_word : {W : Type 0} (k : ScalarKind) (next : ℤ → Run C pay W) (next' : ℤ → Run D pad W) (v : Value) → ((z : ℤ) → Follows (next z) (next' z)) → Follows (word C pay k next v) (word D pad k next' v)
  follow_word k next next' v f = follow_word_in k (out-Value v) next next' f

  follow_scalar : (k : ScalarKind) (o : Option ℤ) → Follows (give_scalar C pay k o) (give_scalar D pad k o)
  follow_scalar k o = follow_held o _ _ (λ z. follow_give (one (scalar k z)))

  follow_convert : (c : Conversion) (v : Value) → Follows (convert C pay c v) (convert D pad c v)
  follow_convert Same v = follow_give v
  follow_convert (Between a b) v = follow_word a _ _ v (λ z. follow_give (one (scalar b (converted FRACTION a b z))))

  follow_chosen : {V : Type 0} (a : Run C pay V) (a' : Run D pad V) (b : Run C pay V) (b' : Run D pad V) (v : Value) → Follows a a' → Follows b b' → Follows (chosen C pay a b v) (chosen D pad a' b' v)
  follow_chosen a a' b b' v f g = follow_word kind.Bool (λ z. if truth z then a else b) (λ z. if truth z then a' else b') v (λ z. follow_if (truth z) a a' b b' f g)

  follow_sized : (n : ℕ) → Follows (sized C pay n) (sized D pad n)
  follow_sized n p s k = alike_if p.turns (nat_lt n (2 ^ 31)) (give C pay (one (scalar_form.Int (pos n))) p) (give D pad (one (scalar_form.Int (pos n))) (later p s)) (Err Wrong) (Err Wrong) (follow_give (one (scalar_form.Int (pos n))) p s k) refl

  follow_operated : (op : LinkOperator) (k : ScalarKind) (v u : Value) → Follows (operated C pay op k v u) (operated D pad op k v u)
  follow_operated op k v u = follow_word k _ _ v (λ a. follow_word k _ _ u (λ b. follow_scalar (operator_kind op k) (operate FRACTION op k a b)))

  -- ---- indices and places

  follow_number : {W : Type 0} (x : Value-F Value) (next : ℤ → Run C pay W) (next' : ℤ → Run D pad W) → ((z : ℤ) → Follows (next z) (next' z)) → Follows (index_number C pay x next) (index_number D pad x next')
  follow_number (layer.One (scalar_form.Bool b)) next next' f = f _
  follow_number (layer.One (scalar_form.Int z)) next next' f = f z
  follow_number (layer.One (scalar_form.Unsigned n)) next next' f = f (pos n)
  follow_number (layer.One (scalar_form.Half z)) next next' f = λ p s k. refl
  follow_number (layer.One (scalar_form.Float z)) next next' f = λ p s k. refl
  follow_number (layer.List vs) next next' f = λ p s k. refl
  follow_number (layer.Fields vs) next next' f = λ p s k. refl

  follow_checked : (node : Node) (z : ℤ) (size : ℕ) → Follows (checked C pay node z size) (checked D pad node z size)
  follow_checked node z size p s k = alike_if p.turns (not (int_lt z (pos 0)) && nat_lt (unsigned_abs z) size) (give C pay (unsigned_abs z) p) (give D pad (unsigned_abs z) (later p s)) (Err (Trapped trap.Index node)) (Err (Trapped trap.Index node)) (follow_give (unsigned_abs z) p s k) (λ y. refl)

  follow_index_in : (node : Node) (z : ℤ) (x : Value-F Value) → Follows (index_in C pay node z x) (index_in D pad node z x)
  follow_index_in node z (layer.One s) p t k = refl
  follow_index_in node z (layer.List vs) p t k = follow_checked node z (length vs) p t k
  follow_index_in node z (layer.Fields vs) p t k = refl

  follow_field_in : (n : ℕ) (x : Value-F Value) → Follows (field_in C pay n x) (field_in D pad n x)
  follow_field_in n (layer.One s) p t k = refl
  follow_field_in n (layer.List vs) p t k = refl
  follow_field_in n (layer.Fields vs) p t k = alike_if p.turns (nat_lt n (length vs)) (give C pay n p) (give D pad n (later p t)) (Err Wrong) (Err Wrong) (follow_give n p t k) refl

  abbrev FollowsStep : StepRun C pay → StepRun D pad → Type 0
  FollowsStep r r' = (find : Env → Option Value) → Follows (r find) (r' find)

  follow_index : (r : Run C pay Value) (r' : Run D pad Value) (node : Node) → Follows r r' → FollowsStep (index_run C pay r node) (index_run D pad r' node)
  follow_index r r' node h find = follow_then r r' _ _ h (λ v. follow_number (out-Value v) _ _ (λ z p s k. follow_held (find p.env) _ _ (λ v. follow_index_in node z (out-Value v)) p s k))

  abbrev Steps : Type 0
  Steps = Pair FollowsStep

  follow_steps : (ss : List Steps) (v : Value) → Follows (steps_run C pay (map (λ (e : Steps). e.0) ss) v) (steps_run D pad (map (λ (e : Steps). e.1) ss) v)
  follow_steps [] v = follow_give v
  follow_steps (t ∷ ss) v = follow_then (t.0 (λ env. Some v)) (t.1 (λ env. Some v)) _ _ (t.2 (λ env. Some v)) (λ i. follow_held (part_of (Some v) i) (stepped C pay (steps_run C pay (map (λ (e : Steps). e.0) ss))) (stepped D pad (steps_run D pad (map (λ (e : Steps). e.1) ss))) (λ u p s k. follow_steps ss u (paid C pay (1 + scalars u) p) (pad (1 + scalars u) s) (keep (1 + scalars u) p.spent s k)))

  follow_path : (x : ℕ) (ss : List Steps) (done : List ℕ) → Follows (path_run C pay x (map (λ (e : Steps). e.0) ss) done) (path_run D pad x (map (λ (e : Steps). e.1) ss) done)
  follow_path x [] done = follow_give done
  follow_path x (t ∷ ss) done = follow_then (t.0 (found C pay x done)) (t.1 (found D pad x done)) _ _ (t.2 (found C pay x done)) (λ i. follow_path x ss (done ++ i ∷ []))

  abbrev FollowsPlace : PlaceRun C pay → PlaceRun D pad → Type 0
  FollowsPlace r r' = (r'.variable ≡ r.variable) × Follows r.path r'.path

  abbrev FollowsLink : LinkRun C pay → LinkRun D pad → Type 0
  FollowsLink r r' = (v : Value) → Follows (r v) (r' v)

  abbrev FollowsArgument : ArgumentRun C pay → ArgumentRun D pad → Type 0
  FollowsArgument r r' = (r'.target ≡ r.target) × Follows r.run r'.run

  abbrev FollowsArm : ArmRun C pay → ArmRun D pad → Type 0
  FollowsArm r r' = (o : Run C pay End) (o' : Run D pad End) → Follows o o' → Follows (r o) (r' o')

  -- ---- calls

  abbrev pub AlikeCame : ℕ → Result (Came C pay) Fault → Result (Came D pad) Fault → Type 0
  AlikeCame t (Ok came) o = (came.turns ≤ t) × (s : D) × R came.spent s × (o ≡ Ok (record { value = came.value; frame = came.frame; turns = came.turns + extra; spent = s }))
  AlikeCame t (Err (Trapped k node)) o = Stays k → o ≡ Err (Trapped k node)
  AlikeCame t (Err Wrong) o = o ≡ Err Wrong

  abbrev pub FollowsFunction : FunctionRun C pay → FunctionRun D pad → Type 0
  FollowsFunction f f' = (opens : List ℕ) (frame : Env) (turns : ℕ) (c : C) (d : D) → R c d → AlikeCame turns (f opens frame turns c) (f' opens frame (turns + extra) d)

  pub record FollowsCalled (c : Called C pay) (c' : Called D pad) : Type 0 where
    pub defaults : c'.defaults ≡ c.defaults
    pub run : FollowsFunction c.run c'.run

  abbrev pub AllFollow : List (Called C pay) → List (Called D pad) → Type 0
  AllFollow [] [] = Unit {0}
  AllFollow [] (c' ∷ cs') = ⊥
  AllFollow (c ∷ cs) [] = ⊥
  AllFollow (c ∷ cs) (c' ∷ cs') = FollowsCalled c c' × AllFollow cs cs'

  abbrev FollowsOption : Option (Called C pay) → Option (Called D pad) → Type 0
  FollowsOption None o = o ≡ None
  FollowsOption (Some c) o = (c' : Called D pad) × (o ≡ Some c') × FollowsCalled c c'

  get_follow : (cs : List (Called C pay)) (cs' : List (Called D pad)) (k : ℕ) → AllFollow cs cs' → FollowsOption (slice_get cs k) (slice_get cs' k)
  get_follow [] [] k h = refl
  get_follow [] (c' ∷ cs') k h = absurd h
  get_follow (c ∷ cs) [] k h = absurd h
  get_follow (c ∷ cs) (c' ∷ cs') zero h = (c', refl, h.0)
  get_follow (c ∷ cs) (c' ∷ cs') (suc k) h = get_follow cs cs' k h.1

  all_more : (cs : List (Called C pay)) (cs' : List (Called D pad)) (c : Called C pay) (c' : Called D pad) → AllFollow cs cs' → FollowsCalled c c' → AllFollow (cs ++ c ∷ []) (cs' ++ c' ∷ [])
  all_more [] [] c c' h f = (f, tt)
  all_more [] (b' ∷ cs') c c' h f = absurd h
  all_more (b ∷ cs) [] c c' h f = absurd h
  all_more (b ∷ cs) (b' ∷ cs') c c' h f = (h.0, all_more cs cs' c c' h.1 f)

  -- what is brought back takes no turns
  abbrev BroughtAlike : Pixel C pay → Pixel C pay → Pixel D pad → Type 0
  BroughtAlike p q q' = (s : D) × R q.spent s × (q' ≡ later q s) × (q.turns ≡ p.turns)

  brought_alike : (ts : List (Option Target)) (qs : List Passed) (frame : Env) (p : Pixel C pay) (s : D) → R p.spent s → BroughtAlike p (brought C pay ts qs frame p) (brought D pad ts qs frame (later p s))
  brought_alike [] qs frame p s k = (s, k, refl, refl)
  brought_alike (t ∷ ts) [] frame p s k = (s, k, refl, refl)
  brought_alike (t ∷ ts) (q ∷ qs) [] p s k = (s, k, refl, refl)
  brought_alike (t ∷ ts) (q ∷ qs) (None ∷ frame) p s k = brought_alike ts qs frame p s k
  brought_alike (None ∷ ts) (q ∷ qs) (Some v ∷ frame) p s k = brought_alike ts qs frame p s k
  brought_alike (Some t ∷ ts) (q ∷ qs) (Some v ∷ frame) p s k =
      let b = brought_alike ts qs frame (put_back C pay (Some t) q.path v p) (pad (scalars v) s) (keep (scalars v) p.spent s k) in
      (b.0, b.1, b.2, b.3)

  came_alike : (ts : List (Option Target)) (qs : List Passed) (env : Env) (t : ℕ) (o : Result (Came C pay) Fault) (o' : Result (Came D pad) Fault) → AlikeCame t o o' → Alike t (came_to C pay ts qs env o) (came_to D pad ts qs env o')
  came_alike ts qs env t (Ok came) o' h =
      let p : Pixel C pay = record { env = env; turns = came.turns; spent = came.spent } in
      let b = brought_alike ts qs came.frame p h.1 h.2 in
      let l : (brought C pay ts qs came.frame p).turns ≤ t = let a = h.0 in let e = b.3 in omega arith in
      (l, b.0, b.1, ap (λ (o : Result (Came D pad) Fault). came_to D pad ts qs env o) h.3 ∙ ap (λ (q : Pixel D pad). Ok (record { value = came.value; after = q })) b.2)
  came_alike ts qs env t (Err (Trapped k node)) o' h = λ y. ap (λ (o : Result (Came D pad) Fault). came_to D pad ts qs env o) (h y)
  came_alike ts qs env t (Err Wrong) o' h = ap (λ (o : Result (Came D pad) Fault). came_to D pad ts qs env o) h

  follow_called : (opens : List ℕ) (ts : List (Option Target)) (qs : List Passed) (c : Called C pay) (c' : Called D pad) → FollowsCalled c c' → Follows (called C pay opens ts qs c) (called D pad opens ts qs c')
  follow_called opens ts qs c c' h p s k =
      let frame = given c.defaults qs in
      let n = sum_by scalars_in frame in
      subst (λ ds. Alike p.turns (called C pay opens ts qs c p) (call_with D pad ts qs (given ds qs) c'.run opens (later p s))) (sym h.defaults) (came_alike ts qs p.env p.turns (c.run opens frame p.turns (pay n p.spent)) (c'.run opens frame (p.turns + extra) (pad n s)) (h.run opens frame p.turns (pay n p.spent) (pad n s) (keep n p.spent s k)))

  answer_alike : (node : Node) (turns : ℕ) (c : C) (d : D) (a : LibraryAnswer) → R c d → AlikeCame turns (library_came C pay node turns c a) (library_came D pad node (turns + extra) d a)
  answer_alike node turns c d Unfit k = refl
  answer_alike node turns c d Refused k = λ y. refl
  answer_alike node turns c d (Given v frame) k = (omega arith, d, k, refl)

  held_alike : (opens : List ℕ) (ts : List (Option Target)) (qs : List Passed) (o : Option (Called C pay)) (o' : Option (Called D pad)) → FollowsOption o o' → Follows (held C pay o (called C pay opens ts qs)) (held D pad o' (called D pad opens ts qs))
  held_alike opens ts qs None o' h p s k = ap (λ (o : Option (Called D pad)). held D pad o (called D pad opens ts qs) (later p s)) h
  held_alike opens ts qs (Some c) o' h p s k = subst (λ (o : Option (Called D pad)). Alike p.turns (called C pay opens ts qs c p) (held D pad o (called D pad opens ts qs) (later p s))) (sym h.1) (follow_called opens ts qs c h.0 h.2 p s k)

  module _ (structs : List StructForm) (constants : List Value) (cs : List (Called C pay)) (cs' : List (Called D pad)) (all : AllFollow cs cs') (opens : List ℕ) where
    abbrev first : Setting C pay
    first = record { structs = structs; constants = constants; functions = cs; opens = opens }

    abbrev second : Setting D pad
    second = record { structs = structs; constants = constants; functions = cs'; opens = opens }

    callee_alike : (c : Callee) (node : Node) → FollowsOption (callee_of C pay first c node) (callee_of D pad second c node)
    callee_alike (callee.Program k) node = get_follow cs cs' k all
    callee_alike (callee.Library id) node = (record { defaults = []; run = library_run D pad structs id node }, refl, record { defaults = refl; run = λ opens frame turns c d k. answer_alike node turns c d (library_answer structs id opens frame) k })

    abbrev Args : Type 0
    Args = Pair FollowsArgument

    targets_same : (args : List Args) → map (λ (a : ArgumentRun D pad). a.target) (map (λ (e : Args). e.1) args) ≡ map (λ (a : ArgumentRun C pay). a.target) (map (λ (e : Args). e.0) args)
    targets_same [] = refl
    targets_same (a ∷ args) = let e = a.2.0 in let f = targets_same args in cc

    follow_arguments : (args : List Args) → Follows (listed C pay (map (λ (a : ArgumentRun C pay). a.run) (map (λ (e : Args). e.0) args))) (listed D pad (map (λ (a : ArgumentRun D pad). a.run) (map (λ (e : Args). e.1) args)))
    follow_arguments [] = follow_give []
    follow_arguments (a ∷ args) = follow_then a.0.run a.1.run _ _ a.2.1 (λ v. follow_then (listed C pay (map (λ (a : ArgumentRun C pay). a.run) (map (λ (e : Args). e.0) args))) (listed D pad (map (λ (a : ArgumentRun D pad). a.run) (map (λ (e : Args). e.1) args))) _ _ (follow_arguments args) (λ vs. follow_give (v ∷ vs)))

    follow_linked : (ls : List (Pair FollowsLink)) (v : Value) → Follows (linked C pay (map (λ (e : Pair FollowsLink). e.0) ls) v) (linked D pad (map (λ (e : Pair FollowsLink). e.1) ls) v)
    follow_linked [] v = follow_give v
    follow_linked (l ∷ ls) v = follow_then (l.0 v) (l.1 v) _ _ (l.2 v) (λ u. follow_linked ls u)

    follow_decided : (t : Bool) (rs : List (Twins Value)) → Follows (decided C pay t (map (λ (e : Twins Value). e.0) rs)) (decided D pad t (map (λ (e : Twins Value). e.1) rs))
    follow_decided t [] = follow_give (one (scalar_form.Bool (not t)))
    follow_decided true (r ∷ rs) = follow_then r.0 r.1 _ _ r.2 (λ v. follow_chosen (give C pay (one (scalar_form.Bool true))) (give D pad (one (scalar_form.Bool true))) (decided C pay true (map (λ (e : Twins Value). e.0) rs)) (decided D pad true (map (λ (e : Twins Value). e.1) rs)) v (follow_give (one (scalar_form.Bool true))) (follow_decided true rs))
    follow_decided false (r ∷ rs) = follow_then r.0 r.1 _ _ r.2 (λ v. follow_chosen (decided C pay false (map (λ (e : Twins Value). e.0) rs)) (decided D pad false (map (λ (e : Twins Value). e.1) rs)) (give C pay (one (scalar_form.Bool false))) (give D pad (one (scalar_form.Bool false))) v (follow_decided false rs) (follow_give (one (scalar_form.Bool false))))

    follow_output : (place : PlaceRun C pay) (place' : PlaceRun D pad) (c : Conversion) → FollowsPlace place place' → Follows (pass_output C pay place c) (pass_output D pad place' c)
    follow_output place place' c h p s k = subst (λ x. Alike p.turns (pass_output C pay place c p) (go_on D pad (place'.path (later p s)) (λ path p. held D pad (found D pad x path p.env) (λ v p. go_on D pad (convert D pad c v p) (pass_value D pad path)) p))) (sym h.0) (follow_then place.path place'.path (λ path p. held C pay (found C pay place.variable path p.env) (λ v p. go_on C pay (convert C pay c v p) (pass_value C pay path)) p) (λ path p. held D pad (found D pad place.variable path p.env) (λ v p. go_on D pad (convert D pad c v p) (pass_value D pad path)) p) h.1 (λ path q z j. follow_held (found C pay place.variable path q.env) (λ v p. go_on C pay (convert C pay c v p) (pass_value C pay path)) (λ v p. go_on D pad (convert D pad c v p) (pass_value D pad path)) (λ v. follow_then (convert C pay c v) (convert D pad c v) (pass_value C pay path) (pass_value D pad path) (follow_convert c v) (λ u. follow_give (record { value = Some u; path = path }))) q z j) p s k)

    argument_follows : (y : form.Argument-F Args (Twins Value) Steps (Twins Value) (Twins Value) (Pair FollowsLink) (Pair FollowsPlace)) → FollowsArgument (argument_step C pay (map-Argument Args (Twins Value) Steps (Twins Value) (Twins Value) (Pair FollowsLink) (Pair FollowsPlace) (ArgumentRun C pay) (Run C pay Value) (StepRun C pay) (Run C pay Value) (Run C pay Value) (LinkRun C pay) (PlaceRun C pay) (λ e. e.0) (λ e. e.0) (λ e. e.0) (λ e. e.0) (λ e. e.0) (λ e. e.0) (λ e. e.0) y)) (argument_step D pad (map-Argument Args (Twins Value) Steps (Twins Value) (Twins Value) (Pair FollowsLink) (Pair FollowsPlace) (ArgumentRun D pad) (Run D pad Value) (StepRun D pad) (Run D pad Value) (Run D pad Value) (LinkRun D pad) (PlaceRun D pad) (λ e. e.1) (λ e. e.1) (λ e. e.1) (λ e. e.1) (λ e. e.1) (λ e. e.1) (λ e. e.1) y))
    argument_follows (form.Input o node) = (refl, follow_then o.0 o.1 (pass_value C pay []) (pass_value D pad []) o.2 (λ v. follow_give (record { value = Some v; path = [] })))
    argument_follows (form.Output place c node) = (ap (λ x. Some (record { variable = x; conversion = c })) place.2.0, follow_output place.0 place.1 c place.2)
    argument_follows form.Missing = (refl, follow_give (record { value = None; path = [] }))

    step_follows : (y : form.TypedStep-F Args (Twins Value) Steps (Twins Value) (Twins Value) (Pair FollowsLink) (Pair FollowsPlace)) → FollowsStep (step_step C pay (map-TypedStep Args (Twins Value) Steps (Twins Value) (Twins Value) (Pair FollowsLink) (Pair FollowsPlace) (ArgumentRun C pay) (Run C pay Value) (StepRun C pay) (Run C pay Value) (Run C pay Value) (LinkRun C pay) (PlaceRun C pay) (λ e. e.0) (λ e. e.0) (λ e. e.0) (λ e. e.0) (λ e. e.0) (λ e. e.0) (λ e. e.0) y)) (step_step D pad (map-TypedStep Args (Twins Value) Steps (Twins Value) (Twins Value) (Pair FollowsLink) (Pair FollowsPlace) (ArgumentRun D pad) (Run D pad Value) (StepRun D pad) (Run D pad Value) (Run D pad Value) (LinkRun D pad) (PlaceRun D pad) (λ e. e.1) (λ e. e.1) (λ e. e.1) (λ e. e.1) (λ e. e.1) (λ e. e.1) (λ e. e.1) y))
    step_follows (form.Index e node) = follow_index e.0 e.1 node e.2
    step_follows (form.Field n) = λ find p s k. follow_held (find p.env) (λ v. field_in C pay n (out-Value v)) (λ v. field_in D pad n (out-Value v)) (λ v. follow_field_in n (out-Value v)) p s k

    expr_follows : (y : form.TypedExpr-F Args (Twins Value) Steps (Twins Value) (Twins Value) (Pair FollowsLink) (Pair FollowsPlace)) → Follows (expr_step C pay first (map-TypedExpr Args (Twins Value) Steps (Twins Value) (Twins Value) (Pair FollowsLink) (Pair FollowsPlace) (ArgumentRun C pay) (Run C pay Value) (StepRun C pay) (Run C pay Value) (Run C pay Value) (LinkRun C pay) (PlaceRun C pay) (λ e. e.0) (λ e. e.0) (λ e. e.0) (λ e. e.0) (λ e. e.0) (λ e. e.0) (λ e. e.0) y)) (expr_step D pad second (map-TypedExpr Args (Twins Value) Steps (Twins Value) (Twins Value) (Pair FollowsLink) (Pair FollowsPlace) (ArgumentRun D pad) (Run D pad Value) (StepRun D pad) (Run D pad Value) (Run D pad Value) (LinkRun D pad) (PlaceRun D pad) (λ e. e.1) (λ e. e.1) (λ e. e.1) (λ e. e.1) (λ e. e.1) (λ e. e.1) (λ e. e.1) y))
    expr_follows (form.Literal x) = follow_evaluated (give C pay (one x)) (give D pad (one x)) (follow_give (one x))
    expr_follows (form.Constant n) = follow_evaluated (held C pay (slice_get constants n) (give C pay)) (held D pad (slice_get constants n) (give D pad)) (follow_held (slice_get constants n) (give C pay) (give D pad) (λ v. follow_give v))
    expr_follows (form.Variable x) = follow_evaluated (λ p. held C pay (var_of p.env x) (give C pay) p) (λ p. held D pad (var_of p.env x) (give D pad) p) (λ p s k. follow_held (var_of p.env x) (give C pay) (give D pad) (λ v. follow_give v) p s k)
    expr_follows (form.Unary op j o) = follow_evaluated (λ p. go_on C pay (o.0 p) (word C pay j (λ a. give_scalar C pay j (operate_alone FRACTION op j a)))) (λ p. go_on D pad (o.1 p) (word D pad j (λ a. give_scalar D pad j (operate_alone FRACTION op j a)))) (follow_then o.0 o.1 (word C pay j (λ a. give_scalar C pay j (operate_alone FRACTION op j a))) (word D pad j (λ a. give_scalar D pad j (operate_alone FRACTION op j a))) o.2 (λ v. follow_word j (λ a. give_scalar C pay j (operate_alone FRACTION op j a)) (λ a. give_scalar D pad j (operate_alone FRACTION op j a)) v (λ a. follow_scalar j (operate_alone FRACTION op j a))))
    expr_follows (form.Chain o ls) =
        let r = linked C pay (map (λ (e : Pair FollowsLink). e.0) ls) in
        let r' = linked D pad (map (λ (e : Pair FollowsLink). e.1) ls) in
        follow_evaluated (λ p. go_on C pay (o.0 p) r) (λ p. go_on D pad (o.1 p) r') (follow_then o.0 o.1 r r' o.2 (λ v. follow_linked ls v))
    expr_follows (form.Logic l os) = follow_evaluated (decided C pay (decider l) (map (λ (e : Twins Value). e.0) os)) (decided D pad (decider l) (map (λ (e : Twins Value). e.1) os)) (follow_decided (decider l) os)
    expr_follows (form.Path e ss) =
        let r = steps_run C pay (map (λ (e : Steps). e.0) ss) in
        let r' = steps_run D pad (map (λ (e : Steps). e.1) ss) in
        follow_then e.0 e.1 r r' e.2 (λ v. follow_steps ss v)
    expr_follows (form.Size e size) = follow_evaluated (λ p. go_on C pay (e.0 p) (λ v. sized C pay (size_in opens size))) (λ p. go_on D pad (e.1 p) (λ v. sized D pad (size_in opens size))) (follow_then e.0 e.1 (λ v. sized C pay (size_in opens size)) (λ v. sized D pad (size_in opens size)) e.2 (λ v. follow_sized (size_in opens size)))
    expr_follows (form.Call c) = c.2

    operand_follows : (y : form.Operand-F Args (Twins Value) Steps (Twins Value) (Twins Value) (Pair FollowsLink) (Pair FollowsPlace)) → Follows (operand_step C pay (map-Operand Args (Twins Value) Steps (Twins Value) (Twins Value) (Pair FollowsLink) (Pair FollowsPlace) (ArgumentRun C pay) (Run C pay Value) (StepRun C pay) (Run C pay Value) (Run C pay Value) (LinkRun C pay) (PlaceRun C pay) (λ e. e.0) (λ e. e.0) (λ e. e.0) (λ e. e.0) (λ e. e.0) (λ e. e.0) (λ e. e.0) y)) (operand_step D pad (map-Operand Args (Twins Value) Steps (Twins Value) (Twins Value) (Pair FollowsLink) (Pair FollowsPlace) (ArgumentRun D pad) (Run D pad Value) (StepRun D pad) (Run D pad Value) (Run D pad Value) (LinkRun D pad) (PlaceRun D pad) (λ e. e.1) (λ e. e.1) (λ e. e.1) (λ e. e.1) (λ e. e.1) (λ e. e.1) (λ e. e.1) y))
    operand_follows y = follow_then y.value.0 y.value.1 (convert C pay y.conversion) (convert D pad y.conversion) y.value.2 (λ v. follow_convert y.conversion v)

    link_follows : (y : form.TypedLink-F Args (Twins Value) Steps (Twins Value) (Twins Value) (Pair FollowsLink) (Pair FollowsPlace)) → FollowsLink (link_step C pay (map-TypedLink Args (Twins Value) Steps (Twins Value) (Twins Value) (Pair FollowsLink) (Pair FollowsPlace) (ArgumentRun C pay) (Run C pay Value) (StepRun C pay) (Run C pay Value) (Run C pay Value) (LinkRun C pay) (PlaceRun C pay) (λ e. e.0) (λ e. e.0) (λ e. e.0) (λ e. e.0) (λ e. e.0) (λ e. e.0) (λ e. e.0) y)) (link_step D pad (map-TypedLink Args (Twins Value) Steps (Twins Value) (Twins Value) (Pair FollowsLink) (Pair FollowsPlace) (ArgumentRun D pad) (Run D pad Value) (StepRun D pad) (Run D pad Value) (Run D pad Value) (LinkRun D pad) (PlaceRun D pad) (λ e. e.1) (λ e. e.1) (λ e. e.1) (λ e. e.1) (λ e. e.1) (λ e. e.1) (λ e. e.1) y))
    link_follows y v = follow_then y.right.0 y.right.1 (λ w p. go_on C pay (convert C pay y.left v p) (λ v. operated C pay y.operator y.kind v w)) (λ w p. go_on D pad (convert D pad y.left v p) (λ v. operated D pad y.operator y.kind v w)) y.right.2 (λ w. follow_then (convert C pay y.left v) (convert D pad y.left v) (λ v. operated C pay y.operator y.kind v w) (λ v. operated D pad y.operator y.kind v w) (follow_convert y.left v) (λ u. follow_operated y.operator y.kind u w))

    place_follows : (y : form.TypedPlace-F Args (Twins Value) Steps (Twins Value) (Twins Value) (Pair FollowsLink) (Pair FollowsPlace)) → FollowsPlace (place_step C pay (map-TypedPlace Args (Twins Value) Steps (Twins Value) (Twins Value) (Pair FollowsLink) (Pair FollowsPlace) (ArgumentRun C pay) (Run C pay Value) (StepRun C pay) (Run C pay Value) (Run C pay Value) (LinkRun C pay) (PlaceRun C pay) (λ e. e.0) (λ e. e.0) (λ e. e.0) (λ e. e.0) (λ e. e.0) (λ e. e.0) (λ e. e.0) y)) (place_step D pad (map-TypedPlace Args (Twins Value) Steps (Twins Value) (Twins Value) (Pair FollowsLink) (Pair FollowsPlace) (ArgumentRun D pad) (Run D pad Value) (StepRun D pad) (Run D pad Value) (Run D pad Value) (LinkRun D pad) (PlaceRun D pad) (λ e. e.1) (λ e. e.1) (λ e. e.1) (λ e. e.1) (λ e. e.1) (λ e. e.1) (λ e. e.1) y))
    place_follows y =
        let r = λ (v : Value). path_run C pay y.variable (map (λ (e : Steps). e.0) y.steps) [] in
        let r' = λ (v : Value). path_run D pad y.variable (map (λ (e : Steps). e.1) y.steps) [] in
        (refl, λ p s k. follow_held (var_of p.env y.variable) r r' (λ v. follow_path y.variable y.steps []) p s k)

    call_follows : (y : form.TypedCall-F Args (Twins Value) Steps (Twins Value) (Twins Value) (Pair FollowsLink) (Pair FollowsPlace)) → Follows (call_step C pay first (map-TypedCall Args (Twins Value) Steps (Twins Value) (Twins Value) (Pair FollowsLink) (Pair FollowsPlace) (ArgumentRun C pay) (Run C pay Value) (StepRun C pay) (Run C pay Value) (Run C pay Value) (LinkRun C pay) (PlaceRun C pay) (λ e. e.0) (λ e. e.0) (λ e. e.0) (λ e. e.0) (λ e. e.0) (λ e. e.0) (λ e. e.0) y)) (call_step D pad second (map-TypedCall Args (Twins Value) Steps (Twins Value) (Twins Value) (Pair FollowsLink) (Pair FollowsPlace) (ArgumentRun D pad) (Run D pad Value) (StepRun D pad) (Run D pad Value) (Run D pad Value) (LinkRun D pad) (PlaceRun D pad) (λ e. e.1) (λ e. e.1) (λ e. e.1) (λ e. e.1) (λ e. e.1) (λ e. e.1) (λ e. e.1) y))
    call_follows y =
        let sizes = map (size_in opens) y.sizes in
        let ts = map (λ (a : ArgumentRun C pay). a.target) (map (λ (e : Args). e.0) y.arguments) in
        let rs = listed C pay (map (λ (a : ArgumentRun C pay). a.run) (map (λ (e : Args). e.0) y.arguments)) in
        let rs' = listed D pad (map (λ (a : ArgumentRun D pad). a.run) (map (λ (e : Args). e.1) y.arguments)) in
        let next = λ (qs : List Passed). held C pay (callee_of C pay first y.callee y.node) (called C pay sizes ts qs) in
        subst (λ us. Follows (evaluated C pay (λ p. go_on C pay (rs p) next)) (evaluated D pad (λ p. go_on D pad (rs' p) (λ qs. held D pad (callee_of D pad second y.callee y.node) (called D pad sizes us qs))))) (sym (targets_same y.arguments)) (follow_evaluated (λ p. go_on C pay (rs p) next) (λ p. go_on D pad (rs' p) (λ qs. held D pad (callee_of D pad second y.callee y.node) (called D pad sizes ts qs))) (follow_then rs rs' next (λ qs. held D pad (callee_of D pad second y.callee y.node) (called D pad sizes ts qs)) (follow_arguments y.arguments) (λ qs. held_alike sizes ts qs (callee_of C pay first y.callee y.node) (callee_of D pad second y.callee y.node) (callee_alike y.callee y.node))))

    forms_follow : KeepsExprs FollowsArgument Follows FollowsStep Follows Follows FollowsLink FollowsPlace (run_fold C pay first) (run_fold D pad second)
    forms_follow = record { argument = argument_follows; expr = expr_follows; step = step_follows; operand = operand_follows; call = call_follows; link = link_follows; place = place_follows }

    pub run_expr_follows : (e : TypedExpr) → Follows (run_expr C pay first e) (run_expr D pad second e)
    run_expr_follows e = expr_pair _ _ _ _ _ _ _ (run_fold C pay first) (run_fold D pad second) forms_follow e

    pub run_operand_follows : (e : Operand) → Follows (run_operand C pay first e) (run_operand D pad second e)
    run_operand_follows e = operand_pair _ _ _ _ _ _ _ (run_fold C pay first) (run_fold D pad second) forms_follow e

    run_call_follows : (e : TypedCall) → Follows (run_call C pay first e) (run_call D pad second e)
    run_call_follows e = call_pair _ _ _ _ _ _ _ (run_fold C pay first) (run_fold D pad second) forms_follow e

    run_place_follows : (e : TypedPlace) → FollowsPlace (run_place C pay first e) (run_place D pad second e)
    run_place_follows e = place_pair _ _ _ _ _ _ _ (run_fold C pay first) (run_fold D pad second) forms_follow e

    -- ---- initialisers

    initialiser_follows : KeepsInitialiser (Follows {V = Value}) (initialiser_step C pay first) (initialiser_step D pad second)
    initialiser_follows (initial.Value o) = run_operand_follows o
    initialiser_follows (initial.Elements m rs) = follow_then (listed C pay (map (λ (e : Twins Value). e.0) rs)) (listed D pad (map (λ (e : Twins Value). e.1) rs)) (λ vs. give C pay (list vs)) (λ vs. give D pad (list vs)) (follow_listed rs) (λ vs. follow_give (list vs))
    initialiser_follows (initial.Fields n rs) = follow_then (listed C pay (map (λ (e : Twins Value). e.0) rs)) (listed D pad (map (λ (e : Twins Value). e.1) rs)) (λ vs. give C pay (fields vs)) (λ vs. give D pad (fields vs)) (follow_listed rs) (λ vs. follow_give (fields vs))

    pub run_initialiser_follows : (i : Initialiser) → Follows (run_initialiser C pay first i) (run_initialiser D pad second i)
    run_initialiser_follows i = initialiser_pair (Follows {V = Value}) (initialiser_step C pay first) (initialiser_step D pad second) initialiser_follows i

    first_follows : (shape : LocalShape) (i : Option Initialiser) → Follows (first_value C pay first shape i) (first_value D pad second shape i)
    first_follows shape None = follow_give _
    first_follows shape (Some i) = run_initialiser_follows i

    -- ---- statements

    stored_alike : {V : Type 0} (v : V) (env : Env) (n : ℕ) (p : Pixel C pay) (s : D) → R p.spent s → Alike p.turns (give C pay v (record { env = env; turns = p.turns; spent = pay n p.spent })) (give D pad v (record { env = env; turns = p.turns + extra; spent = pad n s }))
    stored_alike v env n p s k = (omega arith, pad n s, keep n p.spent s k, refl)

    declared_follows : (x : ℕ) (shape : LocalShape) (v : Value) → Follows (declared C pay first x shape v) (declared D pad second x shape v)
    declared_follows x shape v p s k = alike_if p.turns (fits structs v (map (size_in opens) shape.sizes) (Some shape.base)) _ _ (Err Wrong) (Err Wrong) (stored_alike Normal (slice_set p.env x (Some v)) (scalars v) p s k) refl

    declaration_follows : (d : Declaration) → Follows (run_declaration C pay first d) (run_declaration D pad second d)
    declaration_follows d = follow_then (first_value C pay first d.shape d.first) (first_value D pad second d.shape d.first) (declared C pay first d.variable d.shape) (declared D pad second d.variable d.shape) (first_follows d.shape d.first) (λ v. declared_follows d.variable d.shape v)

    replaced_follows : (x : ℕ) (path : List ℕ) (v old : Value) → Follows (replaced C pay x path v old) (replaced D pad x path v old)
    replaced_follows x path v old p s k = alike_if p.turns (alike old v) _ _ (Err Wrong) (Err Wrong) (stored_alike Normal (stored x path v p.env) (scalars v) p s k) refl

    store_follows : (x : ℕ) (path : List ℕ) (v : Value) → Follows (store C pay x path v) (store D pad x path v)
    store_follows x path v p s k = follow_held (found C pay x path p.env) (replaced C pay x path v) (replaced D pad x path v) (λ old. replaced_follows x path v old) p s k

    assigned_follows : (place : PlaceRun C pay) (place' : PlaceRun D pad) (o : Run C pay Value) (o' : Run D pad Value) → FollowsPlace place place' → Follows o o' → Follows (assigned C pay place o) (assigned D pad place' o')
    assigned_follows place place' o o' h j = subst (λ x. Follows (assigned C pay place o) (λ p. go_on D pad (place'.path p) (λ path p. go_on D pad (o' p) (store D pad x path)))) (sym h.0) (follow_then place.path place'.path (λ path p. go_on C pay (o p) (store C pay place.variable path)) (λ path p. go_on D pad (o' p) (store D pad place.variable path)) h.1 (λ path. follow_then o o' (store C pay place.variable path) (store D pad place.variable path) j (λ v. store_follows place.variable path v)))

    assignment_follows : (a : Assignment) → Follows (run_assignment C pay first a) (run_assignment D pad second a)
    assignment_follows a = assigned_follows (run_place C pay first a.place) (run_place D pad second a.place) (run_operand C pay first a.value) (run_operand D pad second a.value) (run_place_follows a.place) (run_operand_follows a.value)

    start_follows : (s : ForStart) → Follows (run_start C pay first s) (run_start D pad second s)
    start_follows (start.Declare d) = declaration_follows d
    start_follows (start.Assign a) = assignment_follows a

    item_follows : (i : PrintItem) → Follows (run_item C pay first i) (run_item D pad second i)
    item_follows (item.Text text) = follow_give Normal
    item_follows (item.Value e) = follow_then (run_expr C pay first e) (run_expr D pad second e) (λ v. give C pay Normal) (λ v. give D pad Normal) (run_expr_follows e) (λ v. follow_give Normal)

    items_follow : (items : List PrintItem) → Follows (run_items C pay first items) (run_items D pad second items)
    items_follow [] = follow_give Normal
    items_follow (i ∷ items) = follow_then (run_item C pay first i) (run_item D pad second i) (λ e. run_items C pay first items) (λ e. run_items D pad second items) (item_follows i) (λ e. items_follow items)

    unless_follows : (e : End) (r : Run C pay End) (r' : Run D pad End) → Follows r r' → Follows (unless_left C pay e r) (unless_left D pad e r')
    unless_follows Normal r r' h = h
    unless_follows (Left v) r r' h = follow_give (Left v)

    sequence_follows : (rs : List (Twins End)) → Follows (sequence C pay (map (λ (e : Twins End). e.0) rs)) (sequence D pad (map (λ (e : Twins End). e.1) rs))
    sequence_follows [] = follow_give Normal
    sequence_follows (r ∷ rs) =
        let next = sequence C pay (map (λ (e : Twins End). e.0) rs) in
        let next' = sequence D pad (map (λ (e : Twins End). e.1) rs) in
        follow_then r.0 r.1 (λ e. unless_left C pay e next) (λ e. unless_left D pad e next') r.2 (λ e. unless_follows e next next' (sequence_follows rs))

    leave_follows : (v : Value) → Follows (leave C pay v) (leave D pad v)
    leave_follows v p s k = (omega arith, pad (scalars v) s, keep (scalars v) p.spent s k, refl)

    left_follows : (o : Option Operand) → Follows (left_value C pay first o) (left_value D pad second o)
    left_follows None = follow_give nothing
    left_follows (Some o) = run_operand_follows o

    -- ---- loops and arms

    either : {V : Type 0} (b : Bool) (r : Run C pay V) (r' : Run D pad V) (q : Run C pay V) (q' : Run D pad V) (p : Pixel C pay) (s : D) → Alike p.turns (r p) (r' (later p s)) → Alike p.turns (q p) (q' (later p s)) → Alike p.turns ((if b then r else q) p) ((if b then r' else q') (later p s))
    either true r r' q q' p s h j = h
    either false r r' q q' p s h j = j

    chosen_in : (x : Value-F Value) (a : Run C pay End) (a' : Run D pad End) (b : Run C pay End) (b' : Run D pad End) (p : Pixel C pay) (s : D) → Alike p.turns (a p) (a' (later p s)) → Alike p.turns (b p) (b' (later p s)) → Alike p.turns (word_in C pay kind.Bool x (λ z. if truth z then a else b) p) (word_in D pad kind.Bool x (λ z. if truth z then a' else b') (later p s))
    chosen_in (layer.One v) a a' b b' p s h j = alike_if p.turns (same_kind (kind_of v) kind.Bool) _ _ (Err Wrong) (Err Wrong) (either (truth (word_of v)) a a' b b' p s h j) refl
    chosen_in (layer.List vs) a a' b b' p s h j = refl
    chosen_in (layer.Fields vs) a a' b b' p s h j = refl

    turn_alike : (node : Node) (t : ℕ) (run : Run C pay End) (run' : Run D pad End) (p : Pixel C pay) (s : D) → R p.spent s → p.turns ≡ t → ((q : Pixel C pay) (z : D) → R q.spent z → q.turns < p.turns → Alike q.turns (run q) (run' (later q z))) → Alike p.turns (take_turn C pay node t run p.env p.spent) (take_turn D pad node (t + extra) run' p.env s)
    turn_alike node zero run run' p s k e f = none where
      none : Stays trap.Turns → take_turn D pad node (zero + extra) run' p.env s ≡ Err (Trapped trap.Turns node)
      none (inl z) = subst (λ n. take_turn D pad node n run' p.env s ≡ Err (Trapped trap.Turns node)) (let w : zero ≡ zero + extra = omega arith in w) refl
      none (inr g) = absurd (g refl)
    turn_alike node (suc t) run run' p s k e f =
        let q : Pixel C pay = record { env = p.env; turns = t; spent = p.spent } in
        let w : suc (t + extra) ≡ suc t + extra = omega arith in
        subst (λ n. Alike p.turns (run q) (take_turn D pad node n run' p.env s)) w (alike_more t p.turns (run q) (run' (later q s)) (omega arith) (f q s k (omega arith)))

    rounds_alike : (n m : ℕ) (node : Node) (test : Run C pay Value) (test' : Run D pad Value) (body : Run C pay End) (body' : Run D pad End) → Follows test test' → Follows body body' → (p : Pixel C pay) (s : D) → R p.spent s → p.turns < n → p.turns + extra < m → Alike p.turns (rounds C pay n node test body p) (rounds D pad m node test' body' (later p s))
    rounds_alike zero m node test test' body body' h j p s k l r = absurd (omega arith)
    rounds_alike (suc n) zero node test test' body body' h j p s k l r = absurd (omega arith)
    rounds_alike (suc n) (suc m) node test test' body body' h j p s k l r =
        let again = λ (e : End). unless_left C pay e (rounds C pay n node test body) in
        let again' = λ (e : End). unless_left D pad e (rounds D pad m node test' body') in
        let run : Run C pay End = λ p. go_on C pay (body p) again in
        let run' : Run D pad End = λ p. go_on D pad (body' p) again' in
        let a : Run C pay End = λ p. take_turn C pay node p.turns run p.env p.spent in
        let a' : Run D pad End = λ p. take_turn D pad node p.turns run' p.env p.spent in
        alike_then p.turns (test p) (test' (later p s)) (chosen C pay a (give C pay Normal)) (chosen D pad a' (give D pad Normal)) (h p s k) (λ v q z i low. chosen_in (out-Value v) a a' (give C pay Normal) (give D pad Normal) q z (turn_alike node q.turns run run' q z i refl (λ u y w less. alike_then u.turns (body u) (body' (later u y)) again again' (j u y w) (λ e x g i2 low2. unless_at n m e x g i2 (rounds_alike n m node test test' body body' h j x g i2 (omega arith) (omega arith))))) (follow_give Normal q z i)) where
          unless_at : (n m : ℕ) (e : End) (x : Pixel C pay) (g : D) → R x.spent g → Alike x.turns (rounds C pay n node test body x) (rounds D pad m node test' body' (later x g)) → Alike x.turns (unless_left C pay e (rounds C pay n node test body) x) (unless_left D pad e (rounds D pad m node test' body') (later x g))
          unless_at n m Normal x g i2 f = f
          unless_at n m (Left v) x g i2 f = follow_give (Left v) x g i2

    loop_follows : (node : Node) (test : Run C pay Value) (test' : Run D pad Value) (body : Run C pay End) (body' : Run D pad End) → Follows test test' → Follows body body' → Follows (loop_run C pay node test body) (loop_run D pad node test' body')
    loop_follows node test test' body body' h j p s k = rounds_alike (suc p.turns) (suc (p.turns + extra)) node test test' body body' h j p s k (omega arith) (omega arith)

    arms_follow : (arms : List (Pair FollowsArm)) (o : Run C pay End) (o' : Run D pad End) → Follows o o' → Follows (arms_run C pay (map (λ (e : Pair FollowsArm). e.0) arms) o) (arms_run D pad (map (λ (e : Pair FollowsArm). e.1) arms) o')
    arms_follow [] o o' h = h
    arms_follow (a ∷ arms) o o' h = a.2 (arms_run C pay (map (λ (e : Pair FollowsArm). e.0) arms) o) (arms_run D pad (map (λ (e : Pair FollowsArm). e.1) arms) o') (arms_follow arms o o' h)

    arm_follows : KeepsArm (Follows {V = End}) FollowsArm (arm_step C pay first) (arm_step D pad second)
    arm_follows a o o' h = follow_visited (λ p. go_on C pay (run_operand C pay first a.test p) (chosen C pay a.body.0 o)) (λ p. go_on D pad (run_operand D pad second a.test p) (chosen D pad a.body.1 o')) (follow_then (run_operand C pay first a.test) (run_operand D pad second a.test) (chosen C pay a.body.0 o) (chosen D pad a.body.1 o') (run_operand_follows a.test) (λ v. follow_chosen a.body.0 a.body.1 o o' v a.body.2 h))

    statement_follows : KeepsStatement (Follows {V = End}) FollowsArm (statement_step C pay first) (statement_step D pad second)
    statement_follows Empty = follow_visited (give C pay Normal) (give D pad Normal) (follow_give Normal)
    statement_follows (Block rs) = follow_visited (sequence C pay (map (λ (e : Twins End). e.0) rs)) (sequence D pad (map (λ (e : Twins End). e.1) rs)) (sequence_follows rs)
    statement_follows (Declare d) = follow_visited (run_declaration C pay first d) (run_declaration D pad second d) (declaration_follows d)
    statement_follows (Assign a) = follow_visited (run_assignment C pay first a) (run_assignment D pad second a) (assignment_follows a)
    statement_follows (Call c) = follow_visited (λ p. go_on C pay (run_call C pay first c p) (λ v. give C pay Normal)) (λ p. go_on D pad (run_call D pad second c p) (λ v. give D pad Normal)) (follow_then (run_call C pay first c) (run_call D pad second c) (λ v. give C pay Normal) (λ v. give D pad Normal) (run_call_follows c) (λ v. follow_give Normal))
    statement_follows (If arms None) = follow_visited (arms_run C pay (map (λ (e : Pair FollowsArm). e.0) arms) (give C pay Normal)) (arms_run D pad (map (λ (e : Pair FollowsArm). e.1) arms) (give D pad Normal)) (arms_follow arms (give C pay Normal) (give D pad Normal) (follow_give Normal))
    statement_follows (If arms (Some b)) = follow_visited (arms_run C pay (map (λ (e : Pair FollowsArm). e.0) arms) b.0) (arms_run D pad (map (λ (e : Pair FollowsArm). e.1) arms) b.1) (arms_follow arms b.0 b.1 b.2)
    statement_follows (While test body node) = follow_visited (loop_run C pay node (run_operand C pay first test) body.0) (loop_run D pad node (run_operand D pad second test) body.1) (loop_follows node (run_operand C pay first test) (run_operand D pad second test) body.0 body.1 (run_operand_follows test) body.2)
    statement_follows (For head test next body node) =
        let step : Twins End = (visited C pay (run_assignment C pay first next), visited D pad (run_assignment D pad second next), follow_visited (run_assignment C pay first next) (run_assignment D pad second next) (assignment_follows next)) in
        let inner : List (Twins End) = body ∷ step ∷ [] in
        let turn = sequence C pay (map (λ (e : Twins End). e.0) inner) in
        let turn' = sequence D pad (map (λ (e : Twins End). e.1) inner) in
        let loop : Twins End = (loop_run C pay node (run_operand C pay first test) turn, loop_run D pad node (run_operand D pad second test) turn', loop_follows node (run_operand C pay first test) (run_operand D pad second test) turn turn' (run_operand_follows test) (sequence_follows inner)) in
        let begin : Twins End = (visited C pay (run_start C pay first head), visited D pad (run_start D pad second head), follow_visited (run_start C pay first head) (run_start D pad second head) (start_follows head)) in
        let both : List (Twins End) = begin ∷ loop ∷ [] in
        follow_visited (sequence C pay (map (λ (e : Twins End). e.0) both)) (sequence D pad (map (λ (e : Twins End). e.1) both)) (sequence_follows both)
    statement_follows (Return o) = follow_visited (λ p. go_on C pay (left_value C pay first o p) (leave C pay)) (λ p. go_on D pad (left_value D pad second o p) (leave D pad)) (follow_then (left_value C pay first o) (left_value D pad second o) (leave C pay) (leave D pad) (left_follows o) leave_follows)
    statement_follows (Print items) = follow_visited (run_items C pay first items) (run_items D pad second items) (items_follow items)

    pub run_statement_follows : (e : TypedStatement) → Follows (run_statement C pay first e) (run_statement D pad second e)
    run_statement_follows e = statement_pair (Follows {V = End}) FollowsArm (statement_step C pay first) (arm_step C pay first) (statement_step D pad second) (arm_step D pad second) statement_follows arm_follows e

  -- ---- functions and entries

  fallen_alike : (result : Option Shape) (t : ℕ) (p : Pixel C pay) (s : D) → R p.spent s → p.turns ≤ t → AlikeCame t (fallen C pay result p) (fallen D pad result (later p s))
  fallen_alike None t p s k l = (l, s, k, refl)
  fallen_alike (Some m) t p s k l = refl

  came_if : (t : ℕ) (b : Bool) (o : Result (Came C pay) Fault) (o' : Result (Came D pad) Fault) → AlikeCame t o o' → AlikeCame t (if b then o else Err Wrong) (if b then o' else Err Wrong)
  came_if t true o o' h = h
  came_if t false o o' h = refl

  end_alike : (structs : List StructForm) (result : Option Shape) (t : ℕ) (e : End) (p : Pixel C pay) (s : D) → R p.spent s → p.turns ≤ t → AlikeCame t (end_of C pay structs result e p) (end_of D pad structs result e (later p s))
  end_alike structs result t Normal p s k l = fallen_alike result t p s k l
  end_alike structs result t (Left v) p s k l = came_if t (fits structs v (whole_result result).sizes (whole_result result).base) _ _ (l, s, k, refl)

  ended_alike : (structs : List StructForm) (result : Option Shape) (t : ℕ) (o : Outcome C pay End) (o' : Outcome D pad End) → Alike t o o' → AlikeCame t (ended C pay structs result o) (ended D pad structs result o')
  ended_alike structs result t (Ok got) o' h = subst (λ (o : Outcome D pad End). AlikeCame t (ended C pay structs result (Ok got)) (ended D pad structs result o)) (sym h.3) (end_alike structs result t got.value got.after h.1 h.2 h.0)
  ended_alike structs result t (Err (Trapped k node)) o' h = λ y. ap (ended D pad structs result) (h y)
  ended_alike structs result t (Err Wrong) o' h = ap (ended D pad structs result) h

  function_follows : (structs : List StructForm) (constants : List Value) (cs : List (Called C pay)) (cs' : List (Called D pad)) (f : Function) → AllFollow cs cs' → FollowsCalled (called_of C pay structs constants cs f) (called_of D pad structs constants cs' f)
  function_follows structs constants cs cs' f all = record {
    defaults = refl;
    run = λ opens frame turns c d k.
        let p : Pixel C pay = record { env = frame ++ replicate f.variables None; turns = turns; spent = c } in
        came_if turns (takes structs (parameter_shapes C pay f.parameters) opens frame) _ _ (ended_alike structs f.result turns (run_statement C pay (first structs constants cs cs' all opens) f.body p) (run_statement D pad (second structs constants cs cs' all opens) f.body (later p d)) (run_statement_follows structs constants cs cs' all opens f.body p d k));
  }

  pub meanings_follow : (structs : List StructForm) (constants : List Value) (cs : List (Called C pay)) (cs' : List (Called D pad)) (fs : List Function) → AllFollow cs cs' → AllFollow (meanings C pay structs constants cs fs) (meanings D pad structs constants cs' fs)
  meanings_follow structs constants cs cs' [] all = all
  meanings_follow structs constants cs cs' (f ∷ fs) all = meanings_follow structs constants (cs ++ called_of C pay structs constants cs f ∷ []) (cs' ++ called_of D pad structs constants cs' f ∷ []) fs (all_more cs cs' (called_of C pay structs constants cs f) (called_of D pad structs constants cs' f) all (function_follows structs constants cs cs' f all))

  abbrev pub AlikeEnded : ℕ → Result (Ended C pay) Fault → Result (Ended D pad) Fault → Type 0
  AlikeEnded t (Ok e) o = (e.turns ≤ t) × (s : D) × R e.spent s × (o ≡ Ok (record { outputs = e.outputs; turns = e.turns + extra; spent = s }))
  AlikeEnded t (Err (Trapped k node)) o = Stays k → o ≡ Err (Trapped k node)
  AlikeEnded t (Err Wrong) o = o ≡ Err Wrong

  outputs_alike : (t turns : ℕ) (c : C) (s : D) (o : Option (List Value)) → turns ≤ t → R c s → AlikeEnded t (ended_with C pay turns c o) (ended_with D pad (turns + extra) s o)
  outputs_alike t turns c s None l k = refl
  outputs_alike t turns c s (Some outputs) l k = (l, s, k, refl)

  entry_alike : (ps : List Parameter) (t : ℕ) (o : Result (Came C pay) Fault) (o' : Result (Came D pad) Fault) → AlikeCame t o o' → AlikeEnded t (entry_came C pay ps o) (entry_came D pad ps o')
  entry_alike ps t (Ok came) o' h = subst (λ (o : Result (Came D pad) Fault). AlikeEnded t (entry_came C pay ps (Ok came)) (entry_came D pad ps o)) (sym h.3) (outputs_alike t came.turns came.spent h.1 (outputs_of ps came.frame) h.0 h.2)
  entry_alike ps t (Err (Trapped k node)) o' h = λ y. ap (entry_came D pad ps) (h y)
  entry_alike ps t (Err Wrong) o' h = ap (entry_came D pad ps) h

  run_alike : (o : Option (Called C pay)) (o' : Option (Called D pad)) (opens : List ℕ) (frame : Env) (turns : ℕ) (c : C) (d : D) → FollowsOption o o' → R c d → AlikeCame turns (run_of C pay o opens frame turns c) (run_of D pad o' opens frame (turns + extra) d)
  run_alike None o' opens frame turns c d h k = ap (λ (o : Option (Called D pad)). run_of D pad o opens frame (turns + extra) d) h
  run_alike (Some r) o' opens frame turns c d h k = subst (λ (o : Option (Called D pad)). AlikeCame turns (r.run opens frame turns c) (run_of D pad o opens frame (turns + extra) d)) (sym h.1) (h.2.run opens frame turns c d k)

  frame_alike : (cs : List (Called C pay)) (cs' : List (Called D pad)) (entry : ℕ) (ps : List Parameter) (turns : ℕ) (c : C) (d : D) (o : Option Env) → AllFollow cs cs' → R c d → AlikeEnded turns (entry_frame C pay cs entry ps turns c o) (entry_frame D pad cs' entry ps (turns + extra) d o)
  frame_alike cs cs' entry ps turns c d None all k = refl
  frame_alike cs cs' entry ps turns c d (Some frame) all k = entry_alike ps turns _ _ (run_alike (slice_get cs entry) (slice_get cs' entry) _ frame turns (pay (first_scalars ps frame) c) (pad (first_scalars ps frame) d) (get_follow cs cs' entry all) (keep (first_scalars ps frame) c d k))

  pub call_alike : (d : Defined) (entry : ℕ) (o : Option Function) (inputs : List Value) (turns : ℕ) (c : C) (s : D) → R c s → AlikeEnded turns (entry_of C pay d entry o inputs turns c) (entry_of D pad d entry o inputs (turns + extra) s)
  call_alike d entry None inputs turns c s k = refl
  call_alike d entry (Some f) inputs turns c s k =
      let n = sum_by scalars (constant_values d) in
      frame_alike (meanings C pay d.structs (constant_values d) [] d.functions) (meanings D pad d.structs (constant_values d) [] d.functions) entry f.parameters turns (pay n c) (pad n s) (first_frame d.structs f.parameters inputs) (meanings_follow d.structs (constant_values d) [] [] d.functions tt) (keep n c s k)
