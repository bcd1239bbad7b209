-- What is found in one statement after another.
use Rattle.std.proofs.Common.{◌≡◌, ℕ, ◌+◌, ◌<◌, ◌≤◌, List, [], ◌∷◌, map, drop, length, get_or, Bool, true, false, ◌||◌, ap, sym, ◌∙◌, subst, refl}
use Rattle.std.proofs.lemmas.List.{drop_more, at_drop_all}
use Rattle.ctl_types.specs.declared.statement.TypedStatement.{TypedStatement}
use Rattle.ctl_types.specs.declared.statement.TypedStatement.TheFolds.{fold_out-Arm}
use Rattle.ctl_types.specs.declared.statement.Arm.{Arm}
use Rattle.ctl_types.specs.declared.statement.ForStart.{ForStart}
use Rattle.ctl_types.specs.declared.statement.ForStart.TheVariants as start
use Rattle.level_rules.specs.declared.found.Found.{Found}
use Rattle.level_rules.specs.Rules.{Known, Around, Walked, Walk, ArmWalk, nothing_found, both_found, place_found, walked, followed, walk_all, walk_arms, walk_placed, tested, walk_form, walk_arm, walk_start, look_operand, walk_statement}
use Rattle.level_sets.specs.Scene.{SceneForm, known_of, around_of, arm_walk}
use Rattle.level_sets.proofs.Lists.{both_assoc, both_nothing, then_found, or_false}

or_assoc : (a b c : Bool) → ((a || b) || c) ≡ (a || (b || c))
or_assoc true b c = refl
or_assoc false b c = refl

-- what was walked through so far, with what is left, is what is found in all
pub record Left (any : Bool) (now : Found) (rest : Walked) (start : Found) (all : Walked) : Type 0 where
  pub leaves : (any || rest.leaves) ≡ all.leaves
  pub found : both_found now rest.found ≡ both_found start all.found

pub left_all : (start : Found) (all : Walked) → Left false start all start all
left_all start all = record { leaves = refl; found = refl }

left_more : (any v : Bool) (now next start : Found) (a rest all : Walked) → Left any now (followed a rest) start all → v ≡ a.leaves → next ≡ both_found now a.found → Left (any || v) next rest start all
left_more any v now next start a rest all r h k = record {
  leaves = or_assoc any v rest.leaves ∙ ap (λ v. any || (v || rest.leaves)) h ∙ r.leaves;
  found = ap (λ n. both_found n rest.found) k ∙ both_assoc now a.found rest.found ∙ r.found;
}

pub left_none : (any : Bool) (now start : Found) (all : Walked) → Left any now (walked nothing_found) start all → (any ≡ all.leaves) × (now ≡ both_found start all.found)
left_none any now start all r = (sym (or_false any) ∙ r.leaves, sym (both_nothing now) ∙ r.found)

-- the last statement
pub left_last : (any v : Bool) (now next start : Found) (a all : Walked) → Left any now a start all → v ≡ a.leaves → next ≡ both_found now a.found → ((any || v) ≡ all.leaves) × (next ≡ both_found start all.found)
left_last any v now next start a all r h k = (ap (λ v. any || v) h ∙ r.leaves, k ∙ r.found)

-- ---- one after another

pub walks_more : (f : TypedStatement → Walk) (s : Around) (c : Bool) (xs : List TypedStatement) (i : ℕ) (x : TypedStatement) (any v : Bool) (now next start : Found) (all : Walked) → i < length xs → x ≡ get_or xs i x → Left any now (walk_all (map f (drop i xs)) s c) start all → v ≡ (f x s c).leaves → next ≡ both_found now (f x s c).found → Left (any || v) next (walk_all (map f (drop (i + 1) xs)) s (c || v)) start all
walks_more f s c xs i x any v now next start all l e r h k =
    subst (λ w. Left (any || v) next (walk_all (map f (drop (i + 1) xs)) s (c || w)) start all) (sym h)
    (left_more any v now next start (f x s c) (walk_all (map f (drop (i + 1) xs)) s (c || (f x s c).leaves)) all
    (subst (λ ys. Left any now (walk_all (map f ys) s c) start all) (drop_more xs i x l ∙ ap (λ y. y ∷ drop (i + 1) xs) (sym e)) r) h k)

pub walks_done : (f : TypedStatement → Walk) (s : Around) (c : Bool) (xs : List TypedStatement) (i : ℕ) (any : Bool) (now start : Found) (all : Walked) → length xs ≤ i → Left any now (walk_all (map f (drop i xs)) s c) start all → (any ≡ all.leaves) × (now ≡ both_found start all.found)
walks_done f s c xs i any now start all l r = left_none any now start all (subst (λ t. Left any now t start all) (at_drop_all (λ ys. walk_all (map f ys) s c) xs i l) r)

-- the same of returns alone
pub leaves_more : (f : TypedStatement → Walk) (s : Around) (c : Bool) (xs : List TypedStatement) (i : ℕ) (x : TypedStatement) (any v all : Bool) → i < length xs → x ≡ get_or xs i x → (any || (walk_all (map f (drop i xs)) s c).leaves) ≡ all → v ≡ (f x s c).leaves → ((any || v) || (walk_all (map f (drop (i + 1) xs)) s (c || v)).leaves) ≡ all
leaves_more f s c xs i x any v all l e r h =
    or_assoc any v _ ∙ ap (λ w. any || (w || (walk_all (map f (drop (i + 1) xs)) s (c || w)).leaves)) h
    ∙ ap (λ ys. any || (walk_all (map f ys) s c).leaves) (sym (drop_more xs i x l ∙ ap (λ y. y ∷ drop (i + 1) xs) (sym e))) ∙ r

pub leaves_done : (f : TypedStatement → Walk) (s : Around) (c : Bool) (xs : List TypedStatement) (i : ℕ) (any all : Bool) → length xs ≤ i → (any || (walk_all (map f (drop i xs)) s c).leaves) ≡ all → any ≡ all
leaves_done f s c xs i any all l r = sym (or_false any) ∙ ap (λ t. any || t.leaves) (sym (at_drop_all (λ ys. walk_all (map f ys) s c) xs i l)) ∙ r

-- ---- arms

-- what an arm is, by what stands behind it
arm_is : (s : SceneForm) (a : Arm) (o : Walk) → arm_walk s a o ≡ walk_placed (tested (look_operand (known_of s) a.test) (walk_all (walk_statement (known_of s) a.body ∷ o ∷ [])))
arm_is s a o = ap (λ (w : ArmWalk). w o) (fold_out-Arm Walk ArmWalk (walk_form (known_of s)) (walk_arm (known_of s)) a)

-- an arm: its place, its test, its body, and what stands behind it
abbrev arm_found : SceneForm → Arm → Walk → Bool → Bool → Bool → Walked
arm_found s a o c t l = record {
  leaves = l || ((o (around_of s) ((c || t) || l)).leaves || false);
  found = both_found (place_found c) (both_found (look_operand (known_of s) a.test (around_of s) c).found (both_found (walk_statement (known_of s) a.body (around_of s) (c || t)).found (both_found (o (around_of s) ((c || t) || l)).found nothing_found)));
}

arm_walked : (s : SceneForm) (a : Arm) (o : Walk) (c t l : Bool) → t ≡ (look_operand (known_of s) a.test (around_of s) c).varies → l ≡ (walk_statement (known_of s) a.body (around_of s) (c || t)).leaves → arm_walk s a o (around_of s) c ≡ arm_found s a o c t l
arm_walked s a o c t l h k =
    ap (λ (w : Walk). w (around_of s) c) (arm_is s a o)
    ∙ sym (ap (λ t. arm_found s a o c t (walk_statement (known_of s) a.body (around_of s) (c || t)).leaves) h)
    ∙ sym (ap (λ l. arm_found s a o c t l) k)

module _ (s : SceneForm) (xs : List Arm) (i : ℕ) (a : Arm) (o : Walk) (c t l any : Bool) (h : i < length xs) (e : a ≡ get_or xs i a) (ht : t ≡ (look_operand (known_of s) a.test (around_of s) c).varies) (hl : l ≡ (walk_statement (known_of s) a.body (around_of s) (c || t)).leaves) where
  abbrev behind : Walk
  behind = walk_arms (map (arm_walk s) (drop (i + 1) xs)) o

  now_is : walk_arms (map (arm_walk s) (drop i xs)) o (around_of s) c ≡ arm_found s a behind c t l
  now_is = ap (λ ys. walk_arms (map (arm_walk s) ys) o (around_of s) c) (drop_more xs i a h ∙ ap (λ y. y ∷ drop (i + 1) xs) (sym e)) ∙ arm_walked s a behind c t l ht hl

  pub arms_leave : (all : Bool) → (any || (walk_arms (map (arm_walk s) (drop i xs)) o (around_of s) c).leaves) ≡ all → ((any || l) || (behind (around_of s) ((c || t) || l)).leaves) ≡ all
  arms_leave all r = or_assoc any l _ ∙ ap (λ w. any || (l || w)) (sym (or_false _)) ∙ ap (λ w. any || w.leaves) (sym now_is) ∙ r

  pub arms_more : (now placed looked next start : Found) (all : Walked) → Left any now (walk_arms (map (arm_walk s) (drop i xs)) o (around_of s) c) start all → placed ≡ both_found now (place_found c) → looked ≡ both_found placed (look_operand (known_of s) a.test (around_of s) c).found → next ≡ both_found looked (walk_statement (known_of s) a.body (around_of s) (c || t)).found → Left (any || l) next (behind (around_of s) ((c || t) || l)) start all
  arms_more now placed looked next start all r p q w =
      let k : Left any now (arm_found s a behind c t l) start all = subst (λ t. Left any now t start all) now_is r in
      let n : next ≡ both_found now (both_found (place_found c) (both_found (look_operand (known_of s) a.test (around_of s) c).found (walk_statement (known_of s) a.body (around_of s) (c || t)).found)) = then_found now placed next _ _ p (then_found placed looked next _ _ q w) in
      let b = behind (around_of s) ((c || t) || l) in
      let f = (look_operand (known_of s) a.test (around_of s) c).found in
      let g = (walk_statement (known_of s) a.body (around_of s) (c || t)).found in
      record {
        leaves = or_assoc any l _ ∙ ap (λ w. any || (l || w)) (sym (or_false _)) ∙ k.leaves;
        found = ap (λ m. both_found m b.found) n ∙ both_assoc now (both_found (place_found c) (both_found f g)) b.found
            ∙ ap (both_found now) (both_assoc (place_found c) (both_found f g) b.found ∙ ap (both_found (place_found c)) (both_assoc f g b.found ∙ ap (λ m. both_found f (both_found g m)) (sym (both_nothing b.found))))
            ∙ k.found;
      }

-- behind all arms
pub arms_done : (s : SceneForm) (xs : List Arm) (i : ℕ) (o : Walk) (c : Bool) (any : Bool) (now start : Found) (all : Walked) → length xs ≤ i → Left any now (walk_arms (map (arm_walk s) (drop i xs)) o (around_of s) c) start all → Left any now (o (around_of s) c) start all
arms_done s xs i o c any now start all h r = subst (λ t. Left any now t start all) (at_drop_all (λ ys. walk_arms (map (arm_walk s) ys) o (around_of s) c) xs i h) r

pub arms_left : (s : SceneForm) (xs : List Arm) (i : ℕ) (o : Walk) (c any all : Bool) → length xs ≤ i → (any || (walk_arms (map (arm_walk s) (drop i xs)) o (around_of s) c).leaves) ≡ all → (any || (o (around_of s) c).leaves) ≡ all
arms_left s xs i o c any all h r = ap (λ t. any || t.leaves) (sym (at_drop_all (λ ys. walk_arms (map (arm_walk s) ys) o (around_of s) c) xs i h)) ∙ r

-- ---- loops

-- how a `for` begins is no return
pub start_stays : (known : Known) (f : ForStart) (s : Around) (c : Bool) → (walk_start known f s c).leaves ≡ false
start_stays known (start.Declare d) s c = refl
start_stays known (start.Assign a) s c = refl
