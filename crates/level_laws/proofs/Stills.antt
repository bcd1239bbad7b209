-- Expressions at a place of varying control: nothing changes that does not vary.
use Rattle.std.proofs.Common.{◌≡◌, ◌+◌, ℕ, List, [], ◌∷◌, ◌++◌, map, Option, Some, None, Result, Ok, Err, Bool, true, false, if◌then◌else◌, sum_by, ap, sym, ◌∙◌}
use Rattle.fix_num.specs.Whole.{truth}
use Rattle.ctl_base.specs.declared.kind.Node.{Node}
use Rattle.ctl_base.specs.declared.kind.ScalarKind.TheVariants as kind
use Rattle.ctl_base.specs.declared.kind.ScalarKind.{ScalarKind}
use Rattle.ctl_types.specs.declared.shape.Size.{Size}
use Rattle.ctl_types.specs.declared.value.Value.{Value}
use Rattle.ctl_types.specs.Shapes.{size_in}
use Rattle.ctl_types.specs.declared.expression.Conversion.{Conversion}
use Rattle.ctl_types.specs.declared.expression.LinkOperator.{LinkOperator}
use Rattle.ctl_types.specs.declared.expression.Callee.{Callee}
use Rattle.ctl_types.specs.declared.expression.Callee.TheVariants as callee
use Rattle.ctl_types.specs.Values.{Env, var_of, part_of, scalars}
use Rattle.ctl_types.specs.Run.{Fault, Pixel, Run, go_on, paid, chosen, convert, operated, StepRun, index_run, field_run, stepped, steps_run, found, path_run, PlaceRun, place_path, Passed, Target, Came, Called, Setting, ArgumentRun, put_back, brought, came_to, given, called, callee_of, LinkRun, linked, decided, listed, pass_input, pass_output, call_step, scalars_in}
use Rattle.level_rules.specs.Rules.{VaryingSet, Known, Around, Look, still, seen_all, seen_logic, PlaceLook, ArgumentLook, variable_if, arguments_found, outputs_found, seen_callee}
use Rattle.level_rules.specs.declared.instance.Holder.TheVariants.{Variable}
use Rattle.level_rules.specs.Levels.{AllIn}
use Rattle.level_laws.specs.Uniform.{Alike}
use Rattle.level_laws.proofs.Envs.{all_left, all_right, alike_refl, alike_trans, set_in}
use Rattle.level_laws.proofs.Runs.{anything, Keeps, Still, still_then, still_give, still_evaluated, still_held, still_found, still_word}
use Rattle.level_laws.proofs.Likes.{like_convert, like_operated, like_index, like_field}

-- one by one
abbrev pub Each : {A B : Type 0} → (A → B → Type 0) → List A → List B → Type 0
Each R [] [] = Unit {0}
Each R [] (b ∷ bs) = ⊥
Each R (a ∷ more) [] = ⊥
Each R (a ∷ more) (b ∷ bs) = R a b × Each R more bs

-- an output has a target, whose variable is that of its place
abbrev pub OutputIs : Option ℕ → Option Target → Type 0
OutputIs None None = Unit {0}
OutputIs None (Some t) = ⊥
OutputIs (Some x) None = ⊥
OutputIs (Some x) (Some t) = x ≡ t.variable

module _ (C : Type 0) (pay : ℕ → C → C) (a : Around) where
  abbrev w : VaryingSet
  w = a.set

  abbrev pub StillOf : {V : Type 0} → Look → Run C pay V → Type 0
  StillOf look run = AllIn a.set (look a true).found.puts → Still C pay a.set anything run

  abbrev pub StillStep : Look → StepRun C pay → Type 0
  StillStep look step = AllIn a.set (look a true).found.puts → (find : Env → Option Value) → Still C pay a.set anything (step find)

  abbrev pub StillLink : Look → LinkRun C pay → Type 0
  StillLink look link = AllIn a.set (look a true).found.puts → (v : Value) → Still C pay a.set anything (link v)

  abbrev pub StillPlace : PlaceLook → PlaceRun C pay → Type 0
  StillPlace look place = (look.variable ≡ place.variable) × StillOf look.indices place.path

  abbrev pub StillArgument : ArgumentLook → ArgumentRun C pay → Type 0
  StillArgument look argument = OutputIs look.output argument.target × StillOf look.look argument.run

  pub chosen_still : {V : Type 0} (good : V → Type 0) (r q : Run C pay V) (v : Value) → Still C pay w good r → Still C pay w good q → Still C pay w good (chosen C pay r q v)
  chosen_still good r q v h k = still_word C pay w good kind.Bool (λ z. if truth z then r else q) v (λ z. one (truth z)) where
    one : (b : Bool) → Still C pay w good (if b then r else q)
    one true = h
    one false = k

  -- ---- steps, links, operands

  pub path_still : (ls : List Look) (ss : List (StepRun C pay)) → Each StillStep ls ss → (x : ℕ) (done : List ℕ) → AllIn w (seen_all ls a true).found.puts → Still C pay w anything (path_run C pay x ss done)
  path_still [] [] e x done h = still_give C pay w anything done tt
  path_still [] (s ∷ ss) e x done h = absurd e
  path_still (l ∷ ls) [] e x done h = absurd e
  path_still (l ∷ ls) (s ∷ ss) e x done h = still_then C pay w anything anything _ _ (e.0 (all_left w _ _ h) (found C pay x done)) (λ i g. path_still ls ss e.1 x (done ++ i ∷ []) (all_right w _ _ h))

  pub steps_still : (ls : List Look) (ss : List (StepRun C pay)) → Each StillStep ls ss → (v : Value) → AllIn w (seen_all ls a true).found.puts → Still C pay w anything (steps_run C pay ss v)
  steps_still [] [] e v h = still_give C pay w anything v tt
  steps_still [] (s ∷ ss) e v h = absurd e
  steps_still (l ∷ ls) [] e v h = absurd e
  steps_still (l ∷ ls) (s ∷ ss) e v h = still_then C pay w anything anything _ _ (e.0 (all_left w _ _ h) (λ env. Some v)) (λ i g. still_held C pay w anything (part_of (Some v) i) (stepped C pay (steps_run C pay ss)) (λ u k. record { by = λ p. (steps_still ls ss e.1 u (all_right w _ _ h)).by (paid C pay (1 + scalars u) p) }))

  pub place_still : (ls : List Look) (ss : List (StepRun C pay)) → Each StillStep ls ss → (x : ℕ) → AllIn w (seen_all ls a true).found.puts → Still C pay w anything (place_path C pay x ss)
  place_still ls ss e x h = still_found C pay w anything (λ env. var_of env x) (λ v. path_run C pay x ss []) (λ v. path_still ls ss e x [] h)

  pub linked_still : (ls : List Look) (ks : List (LinkRun C pay)) → Each StillLink ls ks → (v : Value) → AllIn w (seen_all ls a true).found.puts → Still C pay w anything (linked C pay ks v)
  linked_still [] [] e v h = still_give C pay w anything v tt
  linked_still [] (k ∷ ks) e v h = absurd e
  linked_still (l ∷ ls) [] e v h = absurd e
  linked_still (l ∷ ls) (k ∷ ks) e v h = still_then C pay w anything anything _ _ (e.0 (all_left w _ _ h) v) (λ u g. linked_still ls ks e.1 u (all_right w _ _ h))

  pub next_still : (t : Bool) (x : Run C pay Value) (rest : Run C pay Value) (v : Value) → Still C pay w anything x → Still C pay w anything rest → Still C pay w anything ((if t then chosen C pay x rest else chosen C pay rest x) v)
  next_still true x rest v h k = chosen_still anything x rest v h k
  next_still false x rest v h k = chosen_still anything rest x v k h

  pub decided_still : (t : Bool) (ls : List Look) (rs : List (Run C pay Value)) → Each StillOf ls rs → AllIn w (seen_logic ls a true).found.puts → Still C pay w anything (decided C pay t rs)
  decided_still t [] [] e h = still_give C pay w anything _ tt
  decided_still t [] (r ∷ rs) e h = absurd e
  decided_still t (l ∷ ls) [] e h = absurd e
  decided_still t (l ∷ ls) (r ∷ rs) e h = still_then C pay w anything anything r _ (e.0 (all_left w _ _ h)) (λ v g. next_still t _ (decided C pay t rs) v (still_give C pay w anything _ tt) (decided_still t ls rs e.1 (all_right w _ _ h)))

  -- ---- calls

  pub listed_still : (ls : List ArgumentLook) (rs : List (ArgumentRun C pay)) → Each StillArgument ls rs → (us : List Bool) (k : ℕ) → AllIn w (arguments_found us k ls a true).puts → Still C pay w anything (listed C pay (map (λ (r : ArgumentRun C pay). r.run) rs))
  listed_still [] [] e us k h = still_give C pay w anything [] tt
  listed_still [] (r ∷ rs) e us k h = absurd e
  listed_still (l ∷ ls) [] e us k h = absurd e
  listed_still (l ∷ ls) (r ∷ rs) e us k h = still_then C pay w anything anything r.run _ (e.0.1 (all_left w _ _ (all_left w _ _ h))) (λ v g. still_then C pay w anything anything _ _ (listed_still ls rs e.1 us (k + 1) (all_right w _ _ h)) (λ vs j. still_give C pay w anything (v ∷ vs) tt))

  put_still : (o : Option ℕ) (t : Option Target) → OutputIs o t → AllIn w (variable_if true o) → (path : List ℕ) (v : Value) (p : Pixel C pay) → Alike w p.env (put_back C pay t path v p).env
  put_still None None e h path v p = alike_refl w p.env
  put_still None (Some t) e h path v p = absurd e
  put_still (Some x) None e h path v p = absurd e
  put_still (Some x) (Some t) e h path v p = set_in w t.variable _ p.env (ap (λ x. w (Variable x)) (sym e) ∙ h.0)

  pub brought_still : (ls : List ArgumentLook) (rs : List (ArgumentRun C pay)) → Each StillArgument ls rs → (f : ℕ → Bool) (k : ℕ) → AllIn w (outputs_found f k ls a true).puts → (qs : List Passed) (frame : Env) (p : Pixel C pay) → Alike w p.env (brought C pay (map (λ (r : ArgumentRun C pay). r.target) rs) qs frame p).env
  brought_still [] [] e f k h qs frame p = alike_refl w p.env
  brought_still [] (r ∷ rs) e f k h qs frame p = absurd e
  brought_still (l ∷ ls) [] e f k h qs frame p = absurd e
  brought_still (l ∷ ls) (r ∷ rs) e f k h [] frame p = alike_refl w p.env
  brought_still (l ∷ ls) (r ∷ rs) e f k h (q ∷ qs) [] p = alike_refl w p.env
  brought_still (l ∷ ls) (r ∷ rs) e f k h (q ∷ qs) (None ∷ frame) p = brought_still ls rs e.1 f (k + 1) (all_right w _ _ h) qs frame p
  brought_still (l ∷ ls) (r ∷ rs) e f k h (q ∷ qs) (Some v ∷ frame) p = alike_trans (put_still l.output r.target e.0.0 (all_left w _ _ h) q.path v p) (brought_still ls rs e.1 f (k + 1) (all_right w _ _ h) qs frame (put_back C pay r.target q.path v p))

  came_still : (ts : List (Option Target)) (qs : List Passed) (env : Env) (o : Result (Came C pay) Fault) → ((frame : Env) (p : Pixel C pay) → Alike w p.env (brought C pay ts qs frame p).env) → Keeps C pay w anything env (came_to C pay ts qs env o)
  came_still ts qs env (Ok came) f = (f came.frame (record { env = env; turns = came.turns; spent = came.spent }), tt)
  came_still ts qs env (Err fault) f = tt

  called_still : (opens : List ℕ) (ts : List (Option Target)) (qs : List Passed) (f : Called C pay) → ((frame : Env) (p : Pixel C pay) → Alike w p.env (brought C pay ts qs frame p).env) → Still C pay w anything (called C pay opens ts qs f)
  called_still opens ts qs f h = record { by = λ p. came_still ts qs p.env (f.run opens (given f.defaults qs) p.turns (pay (sum_by scalars_in (given f.defaults qs)) p.spent)) h }

  pub call_still : (known : Known) (s : Setting C pay) (c : Callee) (sizes : List Size) (node : Node) (ls : List ArgumentLook) (rs : List (ArgumentRun C pay)) → Each StillArgument ls rs → StillOf (seen_callee known c sizes ls) (call_step C pay s (record { callee = c; sizes = sizes; arguments = rs; node = node }))
  call_still known s (callee.Program n) sizes node ls rs e h =
      still_evaluated C pay w anything _ (still_then C pay w anything anything _ _ (listed_still ls rs e _ 0 (all_left w _ _ (all_left w _ _ h))) (λ qs g.
      still_held C pay w anything (callee_of C pay s (callee.Program n) node) _ (λ f i. called_still (map (size_in s.opens) sizes) _ qs f (brought_still ls rs e _ 0 (all_right w _ _ h) qs))))
  call_still known s (callee.Library id) sizes node ls rs e h =
      still_evaluated C pay w anything _ (still_then C pay w anything anything _ _ (listed_still ls rs e [] 0 (all_left w _ _ h)) (λ qs g.
      still_held C pay w anything (callee_of C pay s (callee.Library id) node) _ (λ f i. called_still (map (size_in s.opens) sizes) _ qs f (brought_still ls rs e _ 0 (all_right w _ _ h) qs))))

  -- ---- parts of forms

  pub converted_still : (c : Conversion) (look : Look) (run : Run C pay Value) → StillOf look run → StillOf look (λ p. go_on C pay (run p) (convert C pay c))
  converted_still c look run e h = still_then C pay w anything anything run _ (e h) (λ v g. (like_convert C pay w c v).left)

  pub index_still : (look : Look) (run : Run C pay Value) (node : Node) → StillOf look run → StillStep look (index_run C pay run node)
  index_still look run node e h find = still_then C pay w anything anything run _ (e h) (λ v g. (like_index C pay w node find find v).left)

  pub field_still : (n : ℕ) → StillStep still (field_run C pay n)
  field_still n h find = (like_field C pay w n find find).left

  pub link_still : (op : LinkOperator) (k : ScalarKind) (c : Conversion) (look : Look) (run : Run C pay Value) → StillOf look run → StillLink look (λ v p. go_on C pay (run p) (λ w p. go_on C pay (convert C pay c v p) (λ v. operated C pay op k v w)))
  link_still op k c look run e h v = still_then C pay w anything anything run _ (e h) (λ u g. still_then C pay w anything anything _ _ (like_convert C pay w c v).left (λ x j. (like_operated C pay w op k (x, u)).left))

  pub input_still : (look : Look) (run : Run C pay Value) → StillOf look run → StillOf look (pass_input C pay run)
  input_still look run e h = still_then C pay w anything anything run _ (e h) (λ v g. still_give C pay w anything _ tt)

  pub output_still : (look : Look) (place : PlaceRun C pay) (c : Conversion) → StillOf look place.path → StillOf look (pass_output C pay place c)
  output_still look place c e h = still_then C pay w anything anything place.path _ (e h) (λ path g. still_found C pay w anything (found C pay place.variable path) _ (λ v. still_then C pay w anything anything _ _ (like_convert C pay w c v).left (λ u j. still_give C pay w anything _ tt)))
