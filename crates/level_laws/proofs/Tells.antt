-- Where a return has varying control, the result varies.
use Rattle.std.proofs.Common.{◌≡◌, List, [], ◌∷◌, map, Some, None, Bool, true, false, ◌||◌, ap, sym, subst, ◌∙◌, refl}
use Rattle.ctl_types.specs.declared.statement.TypedStatement.{TypedStatement}
use Rattle.ctl_types.specs.declared.statement.TypedStatement.TheOpen.{Empty, Block, Declare, Assign, Call, If, While, For, Return, Print}
use Rattle.ctl_types.specs.Pairs.{Pair, KeepsStatement, KeepsArm, statement_pair}
use Rattle.level_rules.specs.declared.instance.Holder.TheVariants.{Result}
use Rattle.ctl_types.specs.declared.statement.ForStart.{ForStart}
use Rattle.ctl_types.specs.declared.statement.ForStart.TheVariants as start
use Rattle.level_rules.specs.Rules.{VaryingSet, Known, Around, Look, one_if, look_operand, look_returned, Walk, ArmWalk, no_walk, walk_all, walk_placed, tested, walk_loop, walk_arms, walk_assignment, walk_start, walk_return, walk_arm, walk_form, walk_statement}
use Rattle.level_rules.specs.Levels.{AllIn}
use Rattle.level_laws.proofs.Envs.{all_left, all_right, none_true}
use Rattle.level_laws.proofs.Falls.{All, Once, pairs_all}

module _ (known : Known) (a : Around) where
  abbrev w : VaryingSet
  w = a.set

  -- with what is put there, and with what is put at varying control
  abbrev Tells : Walk → Type 0
  Tells walk = ((c : Bool) → AllIn a.set (walk a c).found.puts → (walk a c).leaves ≡ true → a.set Result ≡ true) × ((c : Bool) → AllIn a.set (walk a true).found.puts → (walk a c).leaves ≡ true → a.set Result ≡ true)

  abbrev TellsArm : ArmWalk → Type 0
  TellsArm arm = (walk : Walk) → Tells walk → Tells (arm walk)

  either : {A : Type 0} (b c : Bool) → (b || c) ≡ true → (b ≡ true → A) → (c ≡ true → A) → A
  either true c h f g = f refl
  either false c h f g = g h

  none : (walk : Walk) → ((c : Bool) → (walk a c).leaves ≡ false) → Tells walk
  none walk f = (λ c h l. none_true (sym (f c) ∙ l), λ c h l. none_true (sym (f c) ∙ l))

  tells_all : (ws : List Walk) → All Tells ws → Tells (walk_all ws)
  tells_all [] e = none (walk_all []) (λ c. refl)
  tells_all (x ∷ ws) e = (
    λ c h l. either (x a c).leaves _ l (e.0.0 c (all_left w _ _ h)) ((tells_all ws e.1).0 _ (all_right w (x a c).found.puts _ h)),
    λ c h l. either (x a c).leaves _ l (e.0.1 c (all_left w _ _ h)) ((tells_all ws e.1).1 _ (all_right w (x a true).found.puts _ h)),
  )

  tells_placed : (walk : Walk) → Tells walk → Tells (walk_placed walk)
  tells_placed walk e = (λ c h l. e.0 c h l, λ c h l. e.1 c h l)

  tells_tested : (look : Look) (walk : Walk) → Tells walk → Tells (tested look walk)
  tells_tested look walk e = (λ c h l. e.0 _ (all_right w (look a c).found.puts _ h) l, λ c h l. e.1 _ (all_right w (look a true).found.puts _ h) l)

  tells_loop : (look : Look) (next body : Walk) → Tells body → Tells (walk_loop look next body)
  tells_loop look next body e = (
    λ c h l.
        let d = (c || (look a c).varies) || (body a (c || (look a c).varies)).leaves in
        let k = all_right w (next a d).found.puts _ (all_right w (look a d).found.puts _ h) in
        e.1 (c || (look a c).varies) (subst (λ d. AllIn w (body a d).found.puts) (ap (λ b. (c || (look a c).varies) || b) l ∙ or_true (c || (look a c).varies)) k) l,
    λ c h l. e.1 (c || (look a c).varies) (all_right w (next a true).found.puts _ (all_right w (look a true).found.puts _ h)) l,
  ) where
    or_true : (b : Bool) → (b || true) ≡ true
    or_true true = refl
    or_true false = refl

  tells_arms : (xs : List ArmWalk) → All TellsArm xs → (walk : Walk) → Tells walk → Tells (walk_arms xs walk)
  tells_arms [] e walk h = h
  tells_arms (x ∷ xs) e walk h = e.0 (walk_arms xs walk) (tells_arms xs e.1 walk h)

  tells_returned : (look : Look) → Tells (walk_return look)
  tells_returned look = (
    λ c h l. at c (look a c).varies l (all_right w (look a c).found.puts _ h),
    λ c h l. (all_right w (look a true).found.puts _ h).0,
  ) where
    at : (c v : Bool) → c ≡ true → AllIn w (one_if (c || v) Result) → w Result ≡ true
    at true v l h = h.0
    at false v l h = none_true l

  in_arm : KeepsArm (Once Tells) (Once TellsArm) (walk_arm known) (walk_arm known)
  in_arm y walk h = tells_placed (tested (look_operand known y.test) (walk_all (y.body.0 ∷ walk ∷ []))) (tells_tested (look_operand known y.test) (walk_all (y.body.0 ∷ walk ∷ [])) (tells_all (y.body.0 ∷ walk ∷ []) (y.body.2, (h, tt))))

  in_statements : KeepsStatement (Once Tells) (Once TellsArm) (walk_form known) (walk_form known)
  in_statements Empty = none (walk_form known Empty) (λ c. refl)
  in_statements (Block ws) = tells_placed (walk_all (map (λ (e : Pair (Once Tells)). e.0) ws)) (tells_all _ (pairs_all Tells ws))
  in_statements (Declare d) = none (walk_form known (Declare d)) (λ c. refl)
  in_statements (Assign d) = none (walk_form known (Assign d)) (λ c. refl)
  in_statements (Call c) = none (walk_form known (Call c)) (λ c. refl)
  in_statements (If arms None) = tells_placed (walk_arms (map (λ (e : Pair (Once TellsArm)). e.0) arms) no_walk) (tells_arms _ (pairs_all TellsArm arms) no_walk (none no_walk (λ c. refl)))
  in_statements (If arms (Some b)) = tells_placed (walk_arms (map (λ (e : Pair (Once TellsArm)). e.0) arms) b.0) (tells_arms _ (pairs_all TellsArm arms) b.0 b.2)
  in_statements (While test body node) = tells_placed (walk_loop (look_operand known test) no_walk body.0) (tells_loop (look_operand known test) no_walk body.0 body.2)
  in_statements (For first test next body node) =
      tells_placed (walk_all (walk_placed (walk_start known first) ∷ walk_loop (look_operand known test) (walk_placed (walk_assignment known next)) body.0 ∷ []))
      (tells_all (walk_placed (walk_start known first) ∷ walk_loop (look_operand known test) (walk_placed (walk_assignment known next)) body.0 ∷ []) (start_tells first, (tells_loop (look_operand known test) (walk_placed (walk_assignment known next)) body.0 body.2, tt))) where
        start_tells : (f : ForStart) → Tells (walk_placed (walk_start known f))
        start_tells (start.Declare d) = none (walk_placed (walk_start known (start.Declare d))) (λ c. refl)
        start_tells (start.Assign d) = none (walk_placed (walk_start known (start.Assign d))) (λ c. refl)
  in_statements (Return o) = tells_placed (walk_return (look_returned known o)) (tells_returned (look_returned known o))
  in_statements (Print items) = none (walk_form known (Print items)) (λ c. refl)

  pub tells : (e : TypedStatement) → AllIn a.set (walk_statement known e a false).found.puts → (walk_statement known e a false).leaves ≡ true → a.set Result ≡ true
  tells e = (statement_pair (Once Tells) (Once TellsArm) (walk_form known) (walk_arm known) (walk_form known) (walk_arm known) in_statements in_arm e).0 false
