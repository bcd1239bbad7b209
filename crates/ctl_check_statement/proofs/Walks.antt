-- Arms one after another, and loops as statements.
use Rattle.std.proofs.Common.{◌≡◌, ℕ, zero, suc, ◌+◌, ◌<◌, List, [], ◌∷◌, map, length, get_or, drop, Option, Result, Ok, Err, arith, ap, sym, ◌∙◌, subst}
use Rattle.ctl_tree.specs.declared.statement.Statement.{Statement}
use Rattle.ctl_tree.specs.declared.statement.Statement.TheVariants as variant
use Rattle.ctl_tree.specs.declared.statement.Statement.TheOpen as layer
use Rattle.ctl_tree.specs.declared.statement.Statement.TheFolds.{fold-roll-Statement}
use Rattle.ctl_tree.specs.declared.statement.Arm.{Arm}
use Rattle.ctl_tree.specs.declared.statement.While.{While}
use Rattle.ctl_tree.specs.declared.statement.For.{For}
use Rattle.ctl_types.specs.declared.shape.Shape.{Shape}
use Rattle.ctl_types.specs.Definitions.{Defined}
use Rattle.ctl_scope.specs.Scope.{ScopeForm}
use Rattle.ctl_check_rules.specs.declared.fault.ExprFault.{ExprFault}
use Rattle.ctl_check_rules.specs.declared.fault.ExprFault.TheVariants.{At, Memory}
use Rattle.ctl_check_rules.specs.Faults.{Verdict, ◌>>=◌}
use Rattle.ctl_check_statement.specs.declared.stated.Stated.{Stated}
use Rattle.ctl_check_statement.specs.declared.stated.Arms.{Arms}
use Rattle.ctl_check_statement.specs.Leading.{Led, Leads}
use Rattle.ctl_check_statement.specs.Statements.{Stating, Arming, all_armed, statement_step, arm_step, block_step, for_step, if_step, while_step, stated, arm_stated, while_loop_stated, for_loop_stated}

-- the element of a list that a loop is at
next : {A : Type 0} (xs : List A) (i : ℕ) (a : A) → i < length xs → a ≡ get_or xs i a → drop i xs ≡ a ∷ drop (i + 1) xs
next [] i a h e = absurd (omega arith)
next (x ∷ xs) zero a h e = ap (λ y. y ∷ xs) (sym e)
next (x ∷ xs) (suc i) a h e = (let q : suc i + 1 ≡ suc (i + 1) = omega arith in next xs i a (omega arith) e ∙ ap (λ n. a ∷ drop n (x ∷ xs)) (sym q))

-- a fault is told before what stands behind it
stopped : {A B : Type 0} (e : ExprFault) (s : ScopeForm) (verdict : Verdict (Led A)) (behind : Led A → Verdict (Led B)) → Leads {A = A} (Err e) s verdict → Leads {A = B} (Err e) s (verdict >>= behind)
stopped (At node kind) s verdict behind x = ap (λ v. v >>= behind) x
stopped Memory s verdict behind x = tt

-- the arm that a loop is at
module _ (d : Defined) (g : Option Shape) (arms : List Arm) (i : ℕ) (a : Arm) (before : Led Arms) (all : Verdict (Led Arms)) (h : i < length arms) (k : a ≡ get_or arms i a) (so : all_armed (map (arm_stated d g) (drop i arms)) before ≡ all) where
  arms_next : (arm_stated d g a before >>= all_armed (map (arm_stated d g) (drop (i + 1) arms))) ≡ all
  arms_next = ap (λ l. all_armed (map (arm_stated d g) l) before) (sym (next arms i a h k)) ∙ so

  pub arms_err : (e : ExprFault) (s : ScopeForm) → Leads {A = Arms} (Err e) s (arm_stated d g a before) → Leads {A = Arms} (Err e) s all
  arms_err e s x = subst (Leads {A = Arms} (Err e) s) arms_next (stopped {A = Arms} {B = Arms} e s (arm_stated d g a before) (all_armed (map (arm_stated d g) (drop (i + 1) arms))) x)

  pub arms_more : (after : Led Arms) → arm_stated d g a before ≡ Ok after → all_armed (map (arm_stated d g) (drop (i + 1) arms)) after ≡ all
  arms_more after x = sym (ap (λ v. v >>= all_armed (map (arm_stated d g) (drop (i + 1) arms))) x) ∙ arms_next

-- a loop as a statement
module _ (d : Defined) (g : Option Shape) (st : Statement) (s after : ScopeForm) (r : Result Stated ExprFault) where
  pub while_stands : (w v : While) → st ≡ variant.While w → v ≡ w → Leads r after (while_loop_stated d g v s) → Leads r after (stated d g st s)
  while_stands w v is e x =
      let form : stated d g st s ≡ while_loop_stated d g v s =
      ap (λ st. stated d g st s) (is ∙ ap variant.While (sym e) ∙ sym (variant.rolls-While v))
      ∙ ap (λ (a : Stating). a s) (fold-roll-Statement Stating Arming Stating Stating Stating Stating (statement_step d g) (arm_step d) block_step (for_step d) if_step (while_step d) (layer.While v)) in
      subst (Leads r after) (sym form) x

  pub for_stands : (w v : For) → st ≡ variant.For w → v ≡ w → Leads r after (for_loop_stated d g v s) → Leads r after (stated d g st s)
  for_stands w v is e x =
      let form : stated d g st s ≡ for_loop_stated d g v s =
      ap (λ st. stated d g st s) (is ∙ ap variant.For (sym e) ∙ sym (variant.rolls-For v))
      ∙ ap (λ (a : Stating). a s) (fold-roll-Statement Stating Arming Stating Stating Stating Stating (statement_step d g) (arm_step d) block_step (for_step d) if_step (while_step d) (layer.For v)) in
      subst (Leads r after) (sym form) x
