-- Expressions at a place of uniform control: two runs stay the same in what does not vary.
use Rattle.std.proofs.Common.{◌≡◌, ◌+◌, ℕ, List, [], ◌∷◌, ◌++◌, map, Option, Some, None, Bool, true, false, true≢false, ◌||◌, if◌then◌else◌, ap, sym, ◌∙◌, refl}
use Rattle.fix_num.specs.Whole.{truth}
use Rattle.ctl_base.specs.declared.kind.Node.{Node}
use Rattle.ctl_base.specs.declared.kind.ScalarKind.{ScalarKind}
use Rattle.ctl_base.specs.declared.kind.ScalarKind.TheVariants as kind
use Rattle.ctl_types.specs.declared.value.Value.{Value}
use Rattle.ctl_types.specs.declared.expression.Conversion.{Conversion}
use Rattle.ctl_types.specs.declared.expression.LinkOperator.{LinkOperator}
use Rattle.ctl_types.specs.Values.{Env, var_of, part_of, part_at, scalars}
use Rattle.ctl_types.specs.Run.{Run, go_on, paid, chosen, convert, operated, StepRun, index_run, field_run, stepped, steps_run, found, path_run, PlaceRun, place_path, Passed, ArgumentRun, LinkRun, linked, decided, listed, pass_input, pass_output}
use Rattle.level_rules.specs.declared.instance.Holder.TheVariants.{Variable}
use Rattle.level_rules.specs.Rules.{VaryingSet, Around, Look, still, seen_all, seen_logic, ArgumentLook, argument_varies, arguments_found}
use Rattle.level_rules.specs.Levels.{AllIn}
use Rattle.level_laws.proofs.Envs.{all_left, all_right, or_left, or_right, or_assoc}
use Rattle.level_laws.proofs.Runs.{anything, SameIf, Even, even_then, even_still, even_weaker, even_give, even_held, even_found, even_word, still_give}
use Rattle.level_laws.proofs.Likes.{even_like, like_convert, like_operated, like_index, like_field}
use Rattle.level_laws.proofs.Stills.{Each, OutputIs, StillOf, next_still, decided_still}

pub each_map : {A B : Type 0} (R S : A → B → Type 0) → ((x : A) (y : B) → R x y → S x y) → (xs : List A) (ys : List B) → Each R xs ys → Each S xs ys
each_map R S f [] [] e = tt
each_map R S f [] (y ∷ ys) e = absurd e
each_map R S f (x ∷ xs) [] e = absurd e
each_map R S f (x ∷ xs) (y ∷ ys) e = (f x y e.0, each_map R S f xs ys e.1)

pub some_same : {A : Type 0} {x y : A} → Some x ≡ Some y → x ≡ y
some_same {A} {x} {y} e = ap (from x) e where
  from : A → Option A → A
  from d None = d
  from d (Some z) = z

module _ (C : Type 0) (pay : ℕ → C → C) (a : Around) where
  abbrev w : VaryingSet
  w = a.set

  abbrev pub EvenOf : {V : Type 0} → Look → Run C pay V → Type 0
  EvenOf look run = AllIn a.set (look a false).found.puts → Even C pay a.set (SameIf (look a false).varies) run run

  abbrev pub EvenStep : Look → StepRun C pay → Type 0
  EvenStep look step = AllIn a.set (look a false).found.puts → (find other : Env → Option Value) → Even C pay a.set (SameIf (look a false).varies) (step find) (step other)

  abbrev pub EvenLink : Look → LinkRun C pay → Type 0
  EvenLink look link = AllIn a.set (look a false).found.puts → (b : Bool) (u v : Value) → SameIf b u v → Even C pay a.set (SameIf (b || (look a false).varies)) (link u) (link v)

  -- what an argument passes in two runs
  abbrev pub PassedAlike : ArgumentLook → Passed → Passed → Type 0
  PassedAlike l u v = (argument_varies l a false ≡ false → u.value ≡ v.value) × ((l.look a false).varies ≡ false → u.path ≡ v.path)

  abbrev pub PassedAll : List ArgumentLook → List Passed → List Passed → Type 0
  PassedAll [] [] [] = Unit {0}
  PassedAll [] [] (v ∷ vs) = ⊥
  PassedAll [] (u ∷ us) vs = ⊥
  PassedAll (l ∷ ls) [] vs = ⊥
  PassedAll (l ∷ ls) (u ∷ us) [] = ⊥
  PassedAll (l ∷ ls) (u ∷ us) (v ∷ vs) = PassedAlike l u v × PassedAll ls us vs

  abbrev pub EvenArgument : ArgumentLook → ArgumentRun C pay → Type 0
  EvenArgument look argument = OutputIs look.output argument.target × (AllIn a.set (look.look a false).found.puts → Even C pay a.set (PassedAlike look) argument.run argument.run)

  -- at both controls
  abbrev pub SoundOf : {V : Type 0} → Look → Run C pay V → Type 0
  SoundOf look run = StillOf C pay a look run × EvenOf look run

  pub chosen_even : {V : Type 0} (same : V → V → Type 0) (r q r2 q2 : Run C pay V) (u v : Value) → u ≡ v → Even C pay w same r r2 → Even C pay w same q q2 → Even C pay w same (chosen C pay r q u) (chosen C pay r2 q2 v)
  chosen_even same r q r2 q2 u v e h k = even_word C pay w same kind.Bool (λ z. if truth z then r else q) (λ z. if truth z then r2 else q2) u v e (λ z. one (truth z)) where
    one : (b : Bool) → Even C pay w same (if b then r else q) (if b then r2 else q2)
    one true = h
    one false = k

  -- ---- steps, links, operands

  pub path_even : (ls : List Look) (ss : List (StepRun C pay)) → Each EvenStep ls ss → (x : ℕ) (b : Bool) (done other : List ℕ) → AllIn w (seen_all ls a false).found.puts → SameIf b done other → Even C pay w (SameIf (b || (seen_all ls a false).varies)) (path_run C pay x ss done) (path_run C pay x ss other)
  path_even [] [] e x b done other h s = even_give C pay w _ done other (λ q. s (or_left b false q))
  path_even [] (r ∷ ss) e x b done other h s = absurd e
  path_even (l ∷ ls) [] e x b done other h s = absurd e
  path_even (l ∷ ls) (r ∷ ss) e x b done other h s =
      let m = (l a false).varies in
      let n = (seen_all ls a false).varies in
      even_weaker C pay w (SameIf ((b || m) || n)) _ _ _ (λ u v k q. k (or_assoc b m n ∙ q))
      (even_then C pay w (SameIf m) _ _ _ _ _ (e.0 (all_left w _ _ h) (found C pay x done) (found C pay x other)) (λ i j k.
      path_even ls ss e.1 x (b || m) (done ++ i ∷ []) (other ++ j ∷ []) (all_right w _ _ h) (λ q. ap (λ d. d ++ i ∷ []) (s (or_left b m q)) ∙ ap (λ i. other ++ i ∷ []) (k (or_right b m q)))))

  pub steps_even : (ls : List Look) (ss : List (StepRun C pay)) → Each EvenStep ls ss → (b : Bool) (u v : Value) → AllIn w (seen_all ls a false).found.puts → SameIf b u v → Even C pay w (SameIf (b || (seen_all ls a false).varies)) (steps_run C pay ss u) (steps_run C pay ss v)
  steps_even [] [] e b u v h s = even_give C pay w _ u v (λ q. s (or_left b false q))
  steps_even [] (r ∷ ss) e b u v h s = absurd e
  steps_even (l ∷ ls) [] e b u v h s = absurd e
  steps_even (l ∷ ls) (r ∷ ss) e b u v h s =
      let m = (l a false).varies in
      let n = (seen_all ls a false).varies in
      even_weaker C pay w (SameIf ((b || m) || n)) _ _ _ (λ x y k q. k (or_assoc b m n ∙ q))
      (even_then C pay w (SameIf m) _ _ _ _ _ (e.0 (all_left w _ _ h) (λ env. Some u) (λ env. Some v)) (λ i j k.
      even_held C pay w _ (part_of (Some u) i) (part_of (Some v) j) (stepped C pay (steps_run C pay ss)) (stepped C pay (steps_run C pay ss)) (λ x y f g.
      record { by = λ p q z. (steps_even ls ss e.1 (b || m) x y (all_right w _ _ h) (λ o. some_same (sym f ∙ ap (λ u. part_of (Some u) i) (s (or_left b m o)) ∙ ap (λ i. part_of (Some v) i) (k (or_right b m o)) ∙ g))).by (paid C pay (1 + scalars x) p) (paid C pay (1 + scalars y) q) z })))

  pub place_even : (ls : List Look) (ss : List (StepRun C pay)) → Each EvenStep ls ss → (x : ℕ) → AllIn w (seen_all ls a false).found.puts → Even C pay w (SameIf (seen_all ls a false).varies) (place_path C pay x ss) (place_path C pay x ss)
  place_even ls ss e x h = even_found C pay w _ (λ env. var_of env x) (λ env. var_of env x) (λ v. path_run C pay x ss []) (λ v. path_run C pay x ss []) (λ env more u v z f g. path_even ls ss e x false [] [] h (λ q. refl))

  pub linked_even : (ls : List Look) (ks : List (LinkRun C pay)) → Each EvenLink ls ks → (b : Bool) (u v : Value) → AllIn w (seen_all ls a false).found.puts → SameIf b u v → Even C pay w (SameIf (b || (seen_all ls a false).varies)) (linked C pay ks u) (linked C pay ks v)
  linked_even [] [] e b u v h s = even_give C pay w _ u v (λ q. s (or_left b false q))
  linked_even [] (k ∷ ks) e b u v h s = absurd e
  linked_even (l ∷ ls) [] e b u v h s = absurd e
  linked_even (l ∷ ls) (k ∷ ks) e b u v h s =
      let m = (l a false).varies in
      let n = (seen_all ls a false).varies in
      even_weaker C pay w (SameIf ((b || m) || n)) _ _ _ (λ x y k q. k (or_assoc b m n ∙ q))
      (even_then C pay w (SameIf (b || m)) _ _ _ _ _ (e.0 (all_left w _ _ h) b u v s) (λ x y k. linked_even ls ks e.1 (b || m) x y (all_right w _ _ h) k))

  next_even : {same : Value → Value → Type 0} (t : Bool) (x rest : Run C pay Value) (u v : Value) → u ≡ v → Even C pay w same x x → Even C pay w same rest rest → Even C pay w same ((if t then chosen C pay x rest else chosen C pay rest x) u) ((if t then chosen C pay x rest else chosen C pay rest x) v)
  next_even {same} true x rest u v e h k = chosen_even same x rest x rest u v e h k
  next_even {same} false x rest u v e h k = chosen_even same rest x rest x u v e k h

  pub decided_even : (t : Bool) (ls : List Look) (rs : List (Run C pay Value)) → Each SoundOf ls rs → AllIn w (seen_logic ls a false).found.puts → Even C pay w (SameIf (seen_logic ls a false).varies) (decided C pay t rs) (decided C pay t rs)
  decided_even t [] [] e h = even_give C pay w _ _ _ (λ q. refl)
  decided_even t [] (r ∷ rs) e h = absurd e
  decided_even t (l ∷ ls) [] e h = absurd e
  decided_even t (l ∷ ls) (r ∷ rs) e h = after (l a false).varies (all_right w (l a false).found.puts _ h) (e.0.1 (all_left w _ _ h)) (decided_even t ls rs e.1) where
    after : (m : Bool) → AllIn w (seen_logic ls a m).found.puts → Even C pay w (SameIf m) r r → (AllIn w (seen_logic ls a false).found.puts → Even C pay w (SameIf (seen_logic ls a false).varies) (decided C pay t rs) (decided C pay t rs)) → Even C pay w (SameIf (m || (seen_logic ls a m).varies)) (decided C pay t (r ∷ rs)) (decided C pay t (r ∷ rs))
    after true k s f =
        let rest = decided_still C pay a t ls rs (each_map SoundOf (StillOf C pay a) (λ x y h. h.0) ls rs e.1) k in
        even_then C pay w (SameIf true) _ r r _ _ s (λ u v j. even_still C pay w anything anything _ _ _ (next_still C pay a t _ (decided C pay t rs) u (still_give C pay w anything _ tt) rest) (next_still C pay a t _ (decided C pay t rs) v (still_give C pay w anything _ tt) rest) (λ x y i j q. absurd (true≢false q)))
    after false k s f = even_then C pay w (SameIf false) _ r r _ _ s (λ u v j. next_even t _ (decided C pay t rs) u v (j refl) (even_give C pay w _ _ _ (λ q. refl)) (f k))

  pub listed_even : (ls : List ArgumentLook) (rs : List (ArgumentRun C pay)) → Each EvenArgument ls rs → (us : List Bool) (k : ℕ) → AllIn w (arguments_found us k ls a false).puts → Even C pay w (PassedAll ls) (listed C pay (map (λ (r : ArgumentRun C pay). r.run) rs)) (listed C pay (map (λ (r : ArgumentRun C pay). r.run) rs))
  listed_even [] [] e us k h = even_give C pay w (PassedAll []) [] [] tt
  listed_even [] (r ∷ rs) e us k h = absurd e
  listed_even (l ∷ ls) [] e us k h = absurd e
  listed_even (l ∷ ls) (r ∷ rs) e us k h = even_then C pay w (PassedAlike l) _ r.run r.run _ _ (e.0.1 (all_left w _ _ (all_left w _ _ h))) (λ u v g. even_then C pay w (PassedAll ls) _ _ _ _ _ (listed_even ls rs e.1 us (k + 1) (all_right w _ _ h)) (λ xs ys j. even_give C pay w (PassedAll (l ∷ ls)) (u ∷ xs) (v ∷ ys) (g, j)))

  -- ---- parts of forms

  pub converted_even : (c : Conversion) (look : Look) (run : Run C pay Value) → EvenOf look run → EvenOf look (λ p. go_on C pay (run p) (convert C pay c))
  converted_even c look run e h = even_then C pay w (SameIf (look a false).varies) _ run run _ _ (e h) (λ u v k. even_like C pay w (look a false).varies (convert C pay c) (convert C pay c) u v k (like_convert C pay w c))

  pub index_even : (look : Look) (run : Run C pay Value) (node : Node) → EvenOf look run → EvenStep look (index_run C pay run node)
  index_even look run node e h find other = even_then C pay w (SameIf (look a false).varies) _ run run _ _ (e h) (λ u v k. even_like C pay w (look a false).varies _ _ u v k (like_index C pay w node find other))

  pub field_even : (n : ℕ) → EvenStep still (field_run C pay n)
  field_even n h find other = even_like C pay w false (λ (u : Unit {0}). field_run C pay n find) (λ (u : Unit {0}). field_run C pay n other) tt tt (λ q. refl) (λ u. like_field C pay w n find other)

  pub link_even : (op : LinkOperator) (k : ScalarKind) (c : Conversion) (look : Look) (run : Run C pay Value) → EvenOf look run → EvenLink look (λ v p. go_on C pay (run p) (λ w p. go_on C pay (convert C pay c v p) (λ v. operated C pay op k v w)))
  link_even op k c look run e h b u v s =
      let m = (look a false).varies in
      even_then C pay w (SameIf m) _ run run _ _ (e h) (λ x y i. even_then C pay w (SameIf b) _ _ _ _ _ (even_like C pay w b (convert C pay c) (convert C pay c) u v s (like_convert C pay w c)) (λ z t j.
      even_like C pay w (b || m) (λ (vw : Value × Value). operated C pay op k vw.0 vw.1) (λ (vw : Value × Value). operated C pay op k vw.0 vw.1) (z, x) (t, y) (λ q. ap (λ z. (z, x)) (j (or_left b m q)) ∙ ap (λ x. (t, x)) (i (or_right b m q))) (like_operated C pay w op k)))

  pub input_even : (look : Look) (run : Run C pay Value) (node : Option Node) → EvenOf look run → AllIn w (look a false).found.puts → Even C pay w (PassedAlike (record { output = None; node = node; look = look })) (pass_input C pay run) (pass_input C pay run)
  input_even look run node e h = even_then C pay w (SameIf (look a false).varies) _ run run _ _ (e h) (λ u v k. even_give C pay w _ _ _ (λ q. ap (λ v. Some v) (k q), λ q. refl))

  pub output_even : (x : ℕ) (look : Look) (place : PlaceRun C pay) (c : Conversion) (node : Option Node) → x ≡ place.variable → EvenOf look place.path → AllIn w (look a false).found.puts → Even C pay w (PassedAlike (record { output = Some x; node = node; look = look })) (pass_output C pay place c) (pass_output C pay place c)
  output_even x look place c node is e h =
      let m = (look a false).varies in
      even_then C pay w (SameIf m) _ place.path place.path _ _ (e h) (λ path other k.
      even_found C pay w _ (found C pay place.variable path) (found C pay place.variable other) _ _ (λ env more u v z f g.
      let s : SameIf (w (Variable x) || m) u v = λ q. some_same (sym f ∙ ap (part_at path) (z.at place.variable (ap (λ y. w (Variable y)) (sym is) ∙ or_left (w (Variable x)) m q)) ∙ ap (λ path. part_at path (var_of more place.variable)) (k (or_right (w (Variable x)) m q)) ∙ g) in
      even_then C pay w (SameIf (w (Variable x) || m)) _ _ _ _ _ (even_like C pay w (w (Variable x) || m) (convert C pay c) (convert C pay c) u v s (like_convert C pay w c)) (λ y t j.
      even_give C pay w _ _ _ (λ q. ap (λ v. Some v) (j q), k))))
