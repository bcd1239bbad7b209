-- Statements at a place of varying control: nothing changes that does not vary, and none leaves without a return there.
use Rattle.std.proofs.Common.{◌≡◌, ℕ, zero, suc, List, [], ◌∷◌, ◌++◌, map, Some, Err, Bool, true, false, ◌||◌, ap, sym, subst, ◌∙◌, refl}
use Rattle.ctl_base.specs.declared.kind.Node.{Node}
use Rattle.ctl_types.specs.declared.shape.LocalShape.{LocalShape}
use Rattle.ctl_types.specs.declared.value.Value.{Value}
use Rattle.ctl_types.specs.Shapes.{size_in}
use Rattle.ctl_types.specs.Values.{Env, fits, alike, scalars}
use Rattle.ctl_types.specs.Run.{Wrong, End, Normal, Left, Run, go_on, give, visited, chosen, found, PlaceRun, Setting, replaced, store, assigned, leave, unless_left, sequence, ArmRun, arms_run, take_turn, rounds, loop_run, declared}
use Rattle.level_rules.specs.declared.instance.Holder.TheVariants.{Variable}
use Rattle.level_rules.specs.Rules.{VaryingSet, Around, Look, PlaceLook, seen_all, Walk, ArmWalk, no_walk, walk_look, walk_all, walk_placed, tested, walk_set, walk_loop, walk_arms, walk_return}
use Rattle.level_rules.specs.Levels.{AllIn}
use Rattle.level_laws.proofs.Envs.{all_left, all_right, set_in}
use Rattle.level_laws.proofs.Runs.{anything, Keeps, Still, still_then, still_weaker, still_give, still_paid, still_visited, still_found, still_if}
use Rattle.level_laws.proofs.Stills.{Each, StillOf, StillPlace, chosen_still}

-- without a return of varying control, a statement at varying control ends normally
abbrev pub Calm : Bool → End → Type 0
Calm true end = Unit {0}
Calm false Normal = Unit {0}
Calm false (Left v) = ⊥

pub calm_left : (l m : Bool) (e : End) → Calm l e → Calm (l || m) e
calm_left true m e h = tt
calm_left false true e h = tt
calm_left false false e h = h

pub calm_right : (l m : Bool) (e : End) → Calm m e → Calm (l || m) e
calm_right true m e h = tt
calm_right false m e h = h

pub calm_normal : (l : Bool) → Calm l Normal
calm_normal true = tt
calm_normal false = tt

pub calm_any : (l : Bool) (e : End) → Calm false e → Calm l e
calm_any true e h = tt
calm_any false e h = h

pub calm_two : (l : Bool) (e : End) → Calm (l || (false || false)) e → Calm l e
calm_two true e h = tt
calm_two false e h = h

module _ (C : Type 0) (pay : ℕ → C → C) (a : Around) where
  abbrev w : VaryingSet
  w = a.set

  abbrev pub StillWalk : Walk → Run C pay End → Type 0
  StillWalk walk run = AllIn a.set (walk a true).found.puts → Still C pay a.set (Calm (walk a true).leaves) run

  abbrev pub StillArm : ArmWalk → ArmRun C pay → Type 0
  StillArm arm run = (walk : Walk) (other : Run C pay End) → StillWalk walk other → StillWalk (arm walk) (run other)

  pub unless_still : (l m : Bool) (e : End) (next : Run C pay End) → Calm l e → Still C pay w (Calm m) next → Still C pay w (Calm (l || m)) (unless_left C pay e next)
  unless_still l m Normal next h k = still_weaker C pay w (Calm m) (Calm (l || m)) next (λ e. calm_right l m e) k
  unless_still true m (Left v) next h k = still_give C pay w (Calm true) (Left v) tt
  unless_still false m (Left v) next h k = absurd h

  pub sequence_still : (ws : List Walk) (rs : List (Run C pay End)) → Each StillWalk ws rs → StillWalk (walk_all ws) (sequence C pay rs)
  sequence_still [] [] e h = still_give C pay w (Calm false) Normal tt
  sequence_still [] (r ∷ rs) e h = absurd e
  sequence_still (x ∷ ws) [] e h = absurd e
  sequence_still (x ∷ ws) (r ∷ rs) e h = still_then C pay w (Calm (x a true).leaves) _ r _ (e.0 (all_left w _ _ h)) (λ end k. unless_still (x a true).leaves (walk_all ws a true).leaves end _ k (sequence_still ws rs e.1 (all_right w _ _ h)))

  pub visited_still : (walk : Walk) (run : Run C pay End) → StillWalk walk run → StillWalk (walk_placed walk) (visited C pay run)
  visited_still walk run e h = still_visited C pay w (Calm (walk a true).leaves) run (e h)

  pub nothing_still : StillWalk no_walk (give C pay Normal)
  nothing_still h = still_give C pay w (Calm false) Normal tt

  -- ---- arms

  -- a body and what stands behind it, one of which runs
  pub choice_still : (walk other : Walk) (run rest : Run C pay End) → StillWalk walk run → StillWalk other rest → AllIn w (walk_all (walk ∷ other ∷ []) a true).found.puts → (v : Value) → Still C pay w (Calm (walk_all (walk ∷ other ∷ []) a true).leaves) (chosen C pay run rest v)
  choice_still walk other run rest e f h v =
      let l = (walk a true).leaves in
      let m = (other a true).leaves in
      chosen_still C pay a (Calm (l || (m || false))) run rest v
      (still_weaker C pay w (Calm l) (Calm (l || (m || false))) run (λ e k. calm_left l (m || false) e k) (e (all_left w (walk a true).found.puts _ h)))
      (still_weaker C pay w (Calm m) (Calm (l || (m || false))) rest (λ e k. calm_right l (m || false) e (calm_left m false e k)) (f (all_left w (other a true).found.puts [] (all_right w (walk a true).found.puts _ h))))

  pub arm_still : (look : Look) (walk other : Walk) (test : Run C pay Value) (run rest : Run C pay End) → StillOf C pay a look test → StillWalk walk run → StillWalk other rest → StillWalk (tested look (walk_all (walk ∷ other ∷ []))) (λ p. go_on C pay (test p) (chosen C pay run rest))
  arm_still look walk other test run rest t e f h =
      still_then C pay w anything (Calm (walk_all (walk ∷ other ∷ []) a true).leaves) test _ (t (all_left w _ _ h)) (λ v g. choice_still walk other run rest e f (all_right w (look a true).found.puts _ h) v)

  pub arms_still : (xs : List ArmWalk) (rs : List (ArmRun C pay)) → Each StillArm xs rs → (walk : Walk) (run : Run C pay End) → StillWalk walk run → StillWalk (walk_arms xs walk) (arms_run C pay rs run)
  arms_still [] [] e walk run h = h
  arms_still [] (r ∷ rs) e walk run h = absurd e
  arms_still (x ∷ xs) [] e walk run h = absurd e
  arms_still (x ∷ xs) (r ∷ rs) e walk run h = e.0 (walk_arms xs walk) (arms_run C pay rs run) (arms_still xs rs e.1 walk run h)

  -- ---- loops

  turn_still : (l : Bool) (node : Node) (next : Run C pay End) → Still C pay w (Calm l) next → Still C pay w (Calm l) (λ p. take_turn C pay node p.turns next p.env p.spent)
  turn_still l node next h = record { by = λ p. cases p.turns p.env p.spent } where
    cases : (turns : ℕ) (env : Env) (c : C) → Keeps C pay w (Calm l) env (take_turn C pay node turns next env c)
    cases zero env c = tt
    cases (suc turns) env c = h.by (record { env = env; turns = turns; spent = c })

  or_self : (b : Bool) → (b || b) ≡ b
  or_self true = refl
  or_self false = refl

  pub rounds_still : (l : Bool) (n : ℕ) (node : Node) (test : Run C pay Value) (body : Run C pay End) → Still C pay w anything test → Still C pay w (Calm l) body → Still C pay w (Calm l) (rounds C pay n node test body)
  rounds_still l zero node test body h k = still_give C pay w (Calm l) Normal (calm_normal l)
  rounds_still l (suc n) node test body h k =
      let rest = rounds_still l n node test body h k in
      still_then C pay w anything (Calm l) test _ h (λ v g. chosen_still C pay a (Calm l) _ (give C pay Normal) v
      (turn_still l node _ (still_then C pay w (Calm l) (Calm l) body _ k (λ e j. subst (λ b. Still C pay w (Calm b) (unless_left C pay e (rounds C pay n node test body))) (or_self l) (unless_still l l e _ j rest))))
      (still_give C pay w (Calm l) Normal (calm_normal l)))

  pub turns_still : (l : Bool) (node : Node) (test : Run C pay Value) (body : Run C pay End) → Still C pay w anything test → Still C pay w (Calm l) body → Still C pay w (Calm l) (loop_run C pay node test body)
  turns_still l node test body h k = record { by = λ p. (rounds_still l (suc p.turns) node test body h k).by p }

  -- a loop without a last assignment
  pub while_still : (look : Look) (body : Walk) (test : Run C pay Value) (run : Run C pay End) (node : Node) → StillOf C pay a look test → StillWalk body run → StillWalk (walk_loop look no_walk body) (loop_run C pay node test run)
  while_still look body test run node t e h =
      turns_still (body a true).leaves node test run (t (all_left w _ _ h)) (e (all_right w (look a true).found.puts _ h))

  -- a body with a last assignment behind it
  pub last_still : (next body : Walk) (last run : Run C pay End) → (next a true).leaves ≡ false → StillWalk next last → StillWalk body run → AllIn w (next a true).found.puts → AllIn w (body a true).found.puts → Still C pay w (Calm (body a true).leaves) (sequence C pay (run ∷ last ∷ []))
  last_still next body last run n e f h g =
      let l = (body a true).leaves in
      let k : Still C pay w (Calm false) last = subst (λ b. Still C pay w (Calm b) last) n (e h) in
      still_then C pay w (Calm l) (Calm l) run _ (f g) (λ end g. still_weaker C pay w (Calm (l || false)) (Calm l) _ (λ e j. calm_or l e j) (unless_still l false end _ g
      (still_then C pay w (Calm false) (Calm false) last _ k (λ other j. unless_still false false other _ j (still_give C pay w (Calm false) Normal tt))))) where
        calm_or : (l : Bool) (e : End) → Calm (l || false) e → Calm l e
        calm_or true e h = tt
        calm_or false e h = h

  -- a loop with one
  pub for_still : (look : Look) (next body : Walk) (test : Run C pay Value) (last run : Run C pay End) (node : Node) → (next a true).leaves ≡ false → StillOf C pay a look test → StillWalk next last → StillWalk body run → StillWalk (walk_loop look next body) (loop_run C pay node test (sequence C pay (run ∷ last ∷ [])))
  for_still look next body test last run node n t e f h =
      let both = all_right w (look a true).found.puts _ h in
      turns_still (body a true).leaves node test _ (t (all_left w _ _ h)) (last_still next body last run n e f (all_left w (next a true).found.puts _ both) (all_right w (next a true).found.puts _ both))

  -- ---- variables are set

  pub declared_still : (s : Setting C pay) (look : Look) (first : Run C pay Value) (x : ℕ) (shape : LocalShape) → StillOf C pay a look first → StillWalk (walk_set (Variable x) look) (λ p. go_on C pay (first p) (declared C pay s x shape))
  declared_still s look first x shape e h = still_then C pay w anything (Calm false) first _ (e (all_left w _ _ h)) (λ v g.
      still_if C pay w (Calm false) (fits s.structs v (map (size_in s.opens) shape.sizes) (Some shape.base)) _ (λ p. Err Wrong) (record { by = λ p. (set_in w x (Some v) p.env (all_right w (look a true).found.puts _ h).0, tt) }) (record { by = λ p. tt }))

  pub store_still : (x : ℕ) (path : List ℕ) (v : Value) → w (Variable x) ≡ true → Still C pay w (Calm false) (store C pay x path v)
  store_still x path v e = still_found C pay w (Calm false) (found C pay x path) (replaced C pay x path v) (λ old. still_if C pay w (Calm false) (alike old v) _ (λ p. Err Wrong) (record { by = λ p. (set_in w x _ p.env e, tt) }) (record { by = λ p. tt }))

  pub assigned_still : (look : PlaceLook) (value : Look) (place : PlaceRun C pay) (run : Run C pay Value) → StillPlace C pay a look place → StillOf C pay a value run → StillWalk (walk_set (Variable look.variable) (seen_all (look.indices ∷ value ∷ []))) (assigned C pay place run)
  assigned_still look value place run e f h =
      let both = all_left w ((look.indices a true).found.puts ++ ((value a true).found.puts ++ [])) _ h in
      let x : w (Variable look.variable) ≡ true = (all_right w ((look.indices a true).found.puts ++ ((value a true).found.puts ++ [])) _ h).0 in
      still_then C pay w anything (Calm false) place.path _ (e.1 (all_left w _ _ both)) (λ path g.
      still_then C pay w anything (Calm false) run _ (f (all_left w _ _ (all_right w (look.indices a true).found.puts _ both))) (λ v j.
      store_still place.variable path v (ap (λ x. w (Variable x)) (sym e.0) ∙ x)))

  -- ---- what only evaluates

  pub alone_still : (look : Look) (run : Run C pay Value) → StillOf C pay a look run → StillWalk (walk_look look) (λ p. go_on C pay (run p) (λ v. give C pay Normal))
  alone_still look run e h = still_then C pay w anything (Calm false) run _ (e h) (λ v g. still_give C pay w (Calm false) Normal tt)

  pub returned_still : (look : Look) (run : Run C pay Value) → StillOf C pay a look run → StillWalk (walk_return look) (λ p. go_on C pay (run p) (leave C pay))
  returned_still look run e h = still_then C pay w anything (Calm true) run _ (e (all_left w _ _ h)) (λ v g. still_paid C pay w (Calm true) (Left v) (scalars v) tt)
