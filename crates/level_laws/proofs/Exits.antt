-- Statements at a place of uniform control: two runs stay the same in what does not vary, and end alike.
use Rattle.std.proofs.Common.{◌≡◌, ◌<◌, ◌≤◌, ℕ, zero, suc, ℤ, List, [], ◌∷◌, ◌++◌, map, Some, Ok, Err, Bool, true, false, true≢false, ◌||◌, if◌then◌else◌, ap, sym, subst, ◌∙◌, refl, arith}
use Rattle.fix_num.specs.Whole.{truth}
use Rattle.ctl_base.specs.declared.kind.Node.{Node}
use Rattle.ctl_base.specs.declared.kind.ScalarKind.{ScalarKind}
use Rattle.ctl_base.specs.declared.kind.ScalarKind.TheVariants as kind
use Rattle.ctl_types.specs.declared.shape.LocalShape.{LocalShape}
use Rattle.ctl_types.specs.declared.value.Value.{Value, out-Value}
use Rattle.ctl_types.specs.declared.value.Value.TheOpen as layer
use Rattle.ctl_types.specs.declared.value.Value.TheOpen.{Value-F}
use Rattle.ctl_types.specs.Scalars.{kind_of, word_of, same_kind}
use Rattle.ctl_types.specs.Shapes.{size_in}
use Rattle.ctl_types.specs.Values.{Env, fits, alike, scalars}
use Rattle.ctl_types.specs.Run.{Wrong, End, Normal, Left, Pixel, Outcome, Run, go_on, give, visited, word_in, chosen, found, PlaceRun, Setting, replaced, store, assigned, leave, unless_left, sequence, ArmRun, arms_run, take_turn, rounds, loop_run, declared}
use Rattle.level_rules.specs.declared.instance.Holder.{Holder}
use Rattle.level_rules.specs.declared.instance.Holder.TheVariants.{Result, Variable}
use Rattle.level_rules.specs.Rules.{VaryingSet, Around, Look, PlaceLook, one_if, seen_all, Walk, ArmWalk, no_walk, walk_look, walk_all, walk_placed, tested, walk_set, walk_loop, walk_arms, walk_return}
use Rattle.level_rules.specs.Levels.{AllIn}
use Rattle.level_laws.specs.Uniform.{Alike}
use Rattle.level_laws.proofs.Envs.{all_left, all_right, or_left, or_right, set_alike, stored_alike}
use Rattle.level_laws.proofs.Runs.{SameIf, Agrees, Still, Even, even_then, even_still, even_weaker, even_give, even_paid, even_visited, even_found, even_if, agrees_err}
use Rattle.level_laws.proofs.Falls.{FallsTo, Falls}
use Rattle.level_laws.proofs.Stills.{Each}
use Rattle.level_laws.proofs.Evens.{EvenOf, SoundOf, chosen_even, each_map}
use Rattle.level_laws.proofs.Calm.{Calm, StillWalk, StillArm, unless_still, sequence_still, choice_still, arms_still, turns_still}

-- without a return of varying control two runs end alike
abbrev pub Exits : Bool → Bool → End → End → Type 0
Exits true r a b = Unit {0}
Exits false r Normal Normal = Unit {0}
Exits false r Normal (Left v) = ⊥
Exits false r (Left u) Normal = ⊥
Exits false r (Left u) (Left v) = SameIf r u v

calm_exits : (l r : Bool) (a b : End) → Calm l a → Calm l b → Exits l r a b
calm_exits true r a b h k = tt
calm_exits false r Normal Normal h k = tt
calm_exits false r Normal (Left v) h k = absurd k
calm_exits false r (Left u) b h k = absurd h

exits_weaker : (l r : Bool) (a b : End) → Exits false r a b → Exits l r a b
exits_weaker true r a b h = tt
exits_weaker false r a b h = h

exits_or : (l r : Bool) (a b : End) → Exits l r a b → Exits (l || false) r a b
exits_or true r a b h = tt
exits_or false r a b h = h

pub not_in : (set : VaryingSet) (b : Bool) (h : Holder) → AllIn set (one_if b h) → set h ≡ false → b ≡ false
not_in set true h k e = absurd (true≢false (sym k.0 ∙ e))
not_in set false h k e = refl

module _ (C : Type 0) (pay : ℕ → C → C) (a : Around) where
  abbrev w : VaryingSet
  w = a.set

  abbrev r : Bool
  r = a.set Result

  abbrev pub EvenWalk : Walk → Run C pay End → Type 0
  EvenWalk walk run = AllIn a.set (walk a false).found.puts → Even C pay a.set (Exits (walk a false).leaves (a.set Result)) run run

  -- at both controls
  abbrev pub SoundWalk : Walk → Run C pay End → Type 0
  SoundWalk walk run = StillWalk C pay a walk run × EvenWalk walk run

  abbrev pub SoundArm : ArmWalk → ArmRun C pay → Type 0
  SoundArm arm run = StillArm C pay a arm run × ((walk : Walk) (other : Run C pay End) → SoundWalk walk other → EvenWalk (arm walk) (run other))

  unless_even : (m : Bool) (x y : End) (next other : Run C pay End) → Exits false r x y → Even C pay w (Exits m r) next other → Even C pay w (Exits m r) (unless_left C pay x next) (unless_left C pay y other)
  unless_even m Normal Normal next other h k = k
  unless_even m Normal (Left v) next other h k = absurd h
  unless_even m (Left u) Normal next other h k = absurd h
  unless_even m (Left u) (Left v) next other h k = even_give C pay w (Exits m r) (Left u) (Left v) (exits_weaker m r (Left u) (Left v) h)

  pub sequence_even : (ws : List Walk) (rs : List (Run C pay End)) → Each SoundWalk ws rs → EvenWalk (walk_all ws) (sequence C pay rs)
  sequence_even [] [] e h = even_give C pay w (Exits false r) Normal Normal tt
  sequence_even [] (x ∷ rs) e h = absurd e
  sequence_even (l ∷ ws) [] e h = absurd e
  sequence_even (l ∷ ws) (x ∷ rs) e h = after (l a false).leaves (all_right w (l a false).found.puts _ h) (e.0.1 (all_left w _ _ h)) (sequence_even ws rs e.1) where
    after : (m : Bool) → AllIn w (walk_all ws a m).found.puts → Even C pay w (Exits m r) x x → EvenWalk (walk_all ws) (sequence C pay rs) → Even C pay w (Exits (m || (walk_all ws a m).leaves) r) (sequence C pay (x ∷ rs)) (sequence C pay (x ∷ rs))
    after true k s f =
        let rest = sequence_still C pay a ws rs (each_map SoundWalk (StillWalk C pay a) (λ x y h. h.0) ws rs e.1) k in
        let l = (walk_all ws a true).leaves in
        even_then C pay w (Exits true r) (Exits true r) x x _ _ s (λ i j g. even_still C pay w (Calm true) (Calm true) (Exits true r) _ _ (unless_still C pay a true l i _ tt rest) (unless_still C pay a true l j _ tt rest) (λ u v g h. tt))
    after false k s f = even_then C pay w (Exits false r) _ x x _ _ s (λ i j g. unless_even _ i j _ _ g (f k))

  pub visited_even : (walk : Walk) (run : Run C pay End) → EvenWalk walk run → EvenWalk (walk_placed walk) (visited C pay run)
  visited_even walk run e h = even_visited C pay w (Exits (walk a false).leaves r) run run (e h)

  pub nothing_even : EvenWalk no_walk (give C pay Normal)
  nothing_even h = even_give C pay w (Exits false r) Normal Normal tt

  -- ---- arms

  pub arm_even : (look : Look) (walk other : Walk) (test : Run C pay Value) (run rest : Run C pay End) → EvenOf C pay a look test → SoundWalk walk run → SoundWalk other rest → EvenWalk (tested look (walk_all (walk ∷ other ∷ []))) (λ p. go_on C pay (test p) (chosen C pay run rest))
  arm_even look walk other test run rest t e f h = at (look a false).varies (all_right w (look a false).found.puts _ h) (t (all_left w _ _ h)) where
    after : (m : Bool) → AllIn w (other a m).found.puts → Even C pay w (Exits m r) run run → Even C pay w (SameIf false) test test → Even C pay w (Exits (m || ((other a m).leaves || false)) r) (λ p. go_on C pay (test p) (chosen C pay run rest)) (λ p. go_on C pay (test p) (chosen C pay run rest))
    after true k s t =
        let still = f.0 k in
        even_then C pay w (SameIf false) (Exits true r) test test _ _ t (λ u v g. chosen_even C pay a (Exits true r) run rest run rest u v (g refl) s (even_still C pay w (Calm (other a true).leaves) (Calm (other a true).leaves) (Exits true r) rest rest still still (λ i j x y. tt)))
    after false k s t =
        let m = (other a false).leaves in
        even_then C pay w (SameIf false) (Exits (m || false) r) test test _ _ t (λ u v g. chosen_even C pay a (Exits (m || false) r) run rest run rest u v (g refl)
        (even_weaker C pay w (Exits false r) (Exits (m || false) r) run run (λ i j x. exits_weaker (m || false) r i j x) s)
        (even_weaker C pay w (Exits m r) (Exits (m || false) r) rest rest (λ i j x. exits_or m r i j x) (f.1 k)))

    at : (b : Bool) → AllIn w (walk_all (walk ∷ other ∷ []) a b).found.puts → Even C pay w (SameIf b) test test → Even C pay w (Exits (walk_all (walk ∷ other ∷ []) a b).leaves r) (λ p. go_on C pay (test p) (chosen C pay run rest)) (λ p. go_on C pay (test p) (chosen C pay run rest))
    at true k t =
        let l = (walk_all (walk ∷ other ∷ []) a true).leaves in
        even_then C pay w (SameIf true) (Exits l r) test test _ _ t (λ u v g. even_still C pay w (Calm l) (Calm l) (Exits l r) _ _ (choice_still C pay a walk other run rest e.0 f.0 k u) (choice_still C pay a walk other run rest e.0 f.0 k v) (λ i j x y. calm_exits l r i j x y))
    at false k t = after (walk a false).leaves (all_left w _ [] (all_right w (walk a false).found.puts _ k)) (e.1 (all_left w _ _ k)) t

  pub arms_even : (xs : List ArmWalk) (rs : List (ArmRun C pay)) → Each SoundArm xs rs → (walk : Walk) (run : Run C pay End) → SoundWalk walk run → EvenWalk (walk_arms xs walk) (arms_run C pay rs run)
  arms_even [] [] e walk run h = h.1
  arms_even [] (y ∷ rs) e walk run h = absurd e
  arms_even (x ∷ xs) [] e walk run h = absurd e
  arms_even (x ∷ xs) (y ∷ rs) e walk run h = e.0.1 (walk_arms xs walk) (arms_run C pay rs run) (arms_still C pay a xs rs (each_map SoundArm (StillArm C pay a) (λ x y h. h.0) xs rs e.1) walk run h.0, arms_even xs rs e.1 walk run h)

  -- ---- loops

  bounded_then : {V W : Type 0} (same : V → V → Type 0) (more : W → W → Type 0) (m n : ℕ) (o p : Outcome C pay V) (next after : V → Run C pay W) → Agrees C pay w same o p → FallsTo C pay m o → FallsTo C pay n p → ((u v : V) → same u v → (x y : Pixel C pay) → x.turns ≤ m → y.turns ≤ n → Alike w x.env y.env → Agrees C pay w more (next u x) (after v y)) → Agrees C pay w more (go_on C pay o next) (go_on C pay p after)
  bounded_then same more m n (Ok x) (Ok y) next after h k j f = f x.value y.value h.1 x.after y.after k j h.0
  bounded_then same more m n (Ok x) (Err fault) next after h k j f = agrees_err C pay w more _ fault
  bounded_then same more m n (Err fault) o next after h k j f = tt

  word_at : {W : Type 0} (same : W → W → Type 0) (k : ScalarKind) (v : Value-F Value) (next after : ℤ → Run C pay W) (x y : Pixel C pay) → ((z : ℤ) → Agrees C pay w same (next z x) (after z y)) → Agrees C pay w same (word_in C pay k v next x) (word_in C pay k v after y)
  word_at same k (layer.One s) next after x y h = at (same_kind (kind_of s) k) where
    at : (b : Bool) → Agrees C pay w same (if b then next (word_of s) x else Err Wrong) (if b then after (word_of s) y else Err Wrong)
    at true = h (word_of s)
    at false = tt
  word_at same k (layer.List vs) next after x y h = tt
  word_at same k (layer.Fields vs) next after x y h = tt

  chosen_at : (same : End → End → Type 0) (run other rest more : Run C pay End) (u v : Value) (x y : Pixel C pay) → u ≡ v → Agrees C pay w same (run x) (rest y) → Agrees C pay w same (other x) (more y) → Agrees C pay w same (chosen C pay run other u x) (chosen C pay rest more v y)
  chosen_at same run other rest more u v x y e h k = subst (λ v. Agrees C pay w same (chosen C pay run other u x) (chosen C pay rest more v y)) e
      (word_at same kind.Bool (out-Value u) (λ z. if truth z then run else other) (λ z. if truth z then rest else more) x y (λ z. at (truth z))) where
        at : (b : Bool) → Agrees C pay w same ((if b then run else other) x) ((if b then rest else more) y)
        at true = h
        at false = k

  turn_at : (same : End → End → Type 0) (node : Node) (t u : ℕ) (next after : Run C pay End) (env more : Env) (s d : C) → ((m n : ℕ) → t ≡ suc m → u ≡ suc n → Agrees C pay w same (next (record { env = env; turns = m; spent = s })) (after (record { env = more; turns = n; spent = d }))) → Agrees C pay w same (take_turn C pay node t next env s) (take_turn C pay node u after more d)
  turn_at same node zero u next after env more s d h = tt
  turn_at same node (suc m) zero next after env more s d h = agrees_err C pay w same _ _
  turn_at same node (suc m) (suc n) next after env more s d h = h m n refl refl

  unless_at : (x y : End) (next other : Run C pay End) (p q : Pixel C pay) → Alike w p.env q.env → Exits false r x y → Agrees C pay w (Exits false r) (next p) (other q) → Agrees C pay w (Exits false r) (unless_left C pay x next p) (unless_left C pay y other q)
  unless_at Normal Normal next other p q z h k = k
  unless_at Normal (Left v) next other p q z h k = absurd h
  unless_at (Left u) Normal next other p q z h k = absurd h
  unless_at (Left u) (Left v) next other p q z h k = (z, h)

  -- a loop has more rounds than turns, so two loops end alike however many of both they have
  rounds_even : (node : Node) (test : Run C pay Value) (body : Run C pay End) → Falls C pay test → Falls C pay body → Even C pay w (SameIf false) test test → Even C pay w (Exits false r) body body → (m n : ℕ) (p q : Pixel C pay) → p.turns < m → q.turns < n → Alike w p.env q.env → Agrees C pay w (Exits false r) (rounds C pay m node test body p) (rounds C pay n node test body q)
  rounds_even node test body ft fb t b zero n p q l k z = absurd (omega arith)
  rounds_even node test body ft fb t b (suc m) zero p q l k z = absurd (omega arith)
  rounds_even node test body ft fb t b (suc m) (suc n) p q l k z =
      bounded_then (SameIf false) (Exits false r) p.turns q.turns (test p) (test q) _ _ (t.by p q z) (ft.by p) (ft.by q) (λ u v e x y i j z.
      chosen_at (Exits false r) _ (give C pay Normal) _ (give C pay Normal) u v x y (e refl)
      (turn_at (Exits false r) node x.turns y.turns _ _ x.env y.env x.spent y.spent (λ c d f g.
      let s : Pixel C pay = record { env = x.env; turns = c; spent = x.spent } in
      let o : Pixel C pay = record { env = y.env; turns = d; spent = y.spent } in
      bounded_then (Exits false r) (Exits false r) c d (body s) (body o) _ _ (b.by s o z) (fb.by s) (fb.by o) (λ end other h x2 y2 i2 j2 z2.
      unless_at end other _ _ x2 y2 z2 h (rounds_even node test body ft fb t b m n x2 y2 (omega arith) (omega arith) z2))))
      (z, tt))

  pub loop_even : (look : Look) (next body : Walk) (test : Run C pay Value) (inner : Run C pay End) (node : Node) → SoundOf C pay a look test → Falls C pay test → Falls C pay inner → (AllIn w (next a true).found.puts → AllIn w (body a true).found.puts → Still C pay w (Calm (body a true).leaves) inner) → ((body a false).leaves ≡ false → AllIn w (next a false).found.puts → AllIn w (body a false).found.puts → Even C pay w (Exits false r) inner inner) → EvenWalk (walk_loop look next body) (loop_run C pay node test inner)
  loop_even look next body test inner node t ft fi si ei h = at (look a false).varies h t.1 where
    puts : Bool → List Holder
    puts d = (look a d).found.puts ++ ((next a d).found.puts ++ (body a d).found.puts)

    still : AllIn w ((look a true).found.puts ++ ((next a true).found.puts ++ (body a true).found.puts)) → Still C pay w (Calm (body a true).leaves) (loop_run C pay node test inner)
    still h =
        let both = all_right w (look a true).found.puts _ h in
        turns_still C pay a (body a true).leaves node test inner (t.0 (all_left w _ _ h)) (si (all_left w (next a true).found.puts _ both) (all_right w (next a true).found.puts _ both))

    leaving : (l : Bool) → (body a false).leaves ≡ l → AllIn w ((look a l).found.puts ++ ((next a l).found.puts ++ (body a l).found.puts)) → (AllIn w (look a false).found.puts → Even C pay w (SameIf false) test test) → Even C pay w (Exits l r) (loop_run C pay node test inner) (loop_run C pay node test inner)
    leaving true e h t = even_still C pay w (Calm (body a true).leaves) (Calm (body a true).leaves) (Exits true r) _ _ (still h) (still h) (λ i j x y. tt)
    leaving false e h t =
        let both = all_right w (look a false).found.puts _ h in
        let i = ei e (all_left w (next a false).found.puts _ both) (all_right w (next a false).found.puts _ both) in
        record { by = λ p q z. rounds_even node test inner ft fi (t (all_left w _ _ h)) i (suc p.turns) (suc q.turns) p q (omega arith) (omega arith) z }

    at : (b : Bool) → AllIn w ((look a (b || (body a b).leaves)).found.puts ++ ((next a (b || (body a b).leaves)).found.puts ++ (body a (b || (body a b).leaves)).found.puts)) → (AllIn w (look a false).found.puts → Even C pay w (SameIf b) test test) → Even C pay w (Exits (body a b).leaves r) (loop_run C pay node test inner) (loop_run C pay node test inner)
    at true h t = even_still C pay w (Calm (body a true).leaves) (Calm (body a true).leaves) (Exits (body a true).leaves r) _ _ (still h) (still h) (λ i j x y. calm_exits (body a true).leaves r i j x y)
    at false h t = leaving (body a false).leaves refl h t

  -- a body with a last assignment behind it
  pub last_even : (next body : Walk) (last run : Run C pay End) → (next a false).leaves ≡ false → EvenWalk next last → EvenWalk body run → (body a false).leaves ≡ false → AllIn w (next a false).found.puts → AllIn w (body a false).found.puts → Even C pay w (Exits false r) (sequence C pay (run ∷ last ∷ [])) (sequence C pay (run ∷ last ∷ []))
  last_even next body last run n e f b h g =
      let k : Even C pay w (Exits false r) last last = subst (λ b. Even C pay w (Exits b r) last last) n (e h) in
      let j : Even C pay w (Exits false r) run run = subst (λ b. Even C pay w (Exits b r) run run) b (f g) in
      even_then C pay w (Exits false r) (Exits false r) run run _ _ j (λ x y i. unless_even false x y _ _ i
      (even_then C pay w (Exits false r) (Exits false r) last last _ _ k (λ x y i. unless_even false x y _ _ i (even_give C pay w (Exits false r) Normal Normal tt))))

  -- ---- variables are set

  pub declared_even : (s : Setting C pay) (look : Look) (first : Run C pay Value) (x : ℕ) (shape : LocalShape) → EvenOf C pay a look first → EvenWalk (walk_set (Variable x) look) (λ p. go_on C pay (first p) (declared C pay s x shape))
  declared_even s look first x shape e h =
      let l = (look a false).varies in
      even_then C pay w (SameIf l) (Exits false r) first first _ _ (e (all_left w _ _ h)) (λ u v k.
      even_if C pay w (Exits false r) (fits s.structs u (map (size_in s.opens) shape.sizes) (Some shape.base)) (fits s.structs v (map (size_in s.opens) shape.sizes) (Some shape.base)) _ _
      (record { by = λ p q z. (set_alike w x (Some u) (Some v) p.env q.env z (λ i. ap (λ v. Some v) (k (not_in w l (Variable x) (all_right w (look a false).found.puts _ h) i))), tt) }))

  store_even : (x : ℕ) (b : Bool) (path other : List ℕ) (u v : Value) → AllIn w (one_if b (Variable x)) → SameIf b path other → SameIf b u v → Even C pay w (Exits false r) (store C pay x path u) (store C pay x other v)
  store_even x b path other u v h f g = even_found C pay w (Exits false r) (found C pay x path) (found C pay x other) (replaced C pay x path u) (replaced C pay x other v) (λ env more old old2 z i j.
      even_if C pay w (Exits false r) (alike old u) (alike old2 v) _ _
      (record { by = λ p q z. (stored_alike w x path other u v p.env q.env z (λ i. f (not_in w b (Variable x) h i)) (λ i. g (not_in w b (Variable x) h i)), tt) }))

  pub assigned_even : (look : PlaceLook) (value : Look) (place : PlaceRun C pay) (run : Run C pay Value) → look.variable ≡ place.variable → EvenOf C pay a look.indices place.path → EvenOf C pay a value run → EvenWalk (walk_set (Variable look.variable) (seen_all (look.indices ∷ value ∷ []))) (assigned C pay place run)
  assigned_even look value place run is e f h =
      let i = (look.indices a false).varies in
      let j = (value a false).varies in
      let parts = (look.indices a false).found.puts ++ ((value a false).found.puts ++ []) in
      let both = all_left w parts _ h in
      let put = subst (λ x. AllIn w (one_if (i || (j || false)) (Variable x))) is (all_right w parts _ h) in
      even_then C pay w (SameIf i) (Exits false r) place.path place.path _ _ (e (all_left w _ _ both)) (λ path other k.
      even_then C pay w (SameIf j) (Exits false r) run run _ _ (f (all_left w _ _ (all_right w (look.indices a false).found.puts _ both))) (λ u v g.
      store_even place.variable (i || (j || false)) path other u v put (λ q. k (or_left i (j || false) q)) (λ q. g (or_left j false (or_right i (j || false) q)))))

  -- ---- what only evaluates

  pub alone_even : (look : Look) (run : Run C pay Value) → EvenOf C pay a look run → EvenWalk (walk_look look) (λ p. go_on C pay (run p) (λ v. give C pay Normal))
  alone_even look run e h = even_then C pay w (SameIf (look a false).varies) (Exits false r) run run _ _ (e h) (λ u v g. even_give C pay w (Exits false r) Normal Normal tt)

  pub returned_even : (look : Look) (run : Run C pay Value) → EvenOf C pay a look run → EvenWalk (walk_return look) (λ p. go_on C pay (run p) (leave C pay))
  returned_even look run e h =
      let l = (look a false).varies in
      even_then C pay w (SameIf l) (Exits false r) run run _ _ (e (all_left w _ _ h)) (λ u v g. even_paid C pay w (Exits false r) (Left u) (Left v) (scalars u) (scalars v) (λ i. g (not_in w l Result (all_right w (look a false).found.puts _ h) i)))
