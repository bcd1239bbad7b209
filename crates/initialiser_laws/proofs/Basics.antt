-- Truth values, lists and verdicts.
use Rattle.std.proofs.Common.{◌≡◌, ℕ, zero, suc, ◌+◌, ◌≤◌, ◌<◌, List, [], ◌∷◌, ◌++◌, length, Option, Some, None, Result, Ok, Err, Bool, true, false, ◌&&◌, if◌then◌else◌, refl, sym, ap, subst, ◌∙◌, arith, All, eq-eqb}
use Rattle.std.proofs.lemmas.List.Elements.{All-head, All-tail}
use Rattle.ctl_base.specs.declared.kind.ScalarKind.{ScalarKind}
use Rattle.ctl_base.specs.declared.kind.ScalarKind.TheVariants as kind
use Rattle.ctl_types.specs.declared.shape.Base.{Base}
use Rattle.ctl_types.specs.declared.shape.Base.TheVariants.{Scalar, Struct}
use Rattle.ctl_types.specs.declared.shape.Size.{Size}
use Rattle.ctl_types.specs.declared.shape.Size.TheVariants.{Stated, Open}
use Rattle.ctl_types.specs.Scalars.{same_kind}
use Rattle.ctl_types.specs.Typing.{Typed, has, same_base, same_size, same_sizes}
use Rattle.ctl_scope.specs.declared.kind.CheckKind.{CheckKind}
use Rattle.ctl_check_rules.specs.Faults.{◌>>=◌, rule_at}
use Rattle.ctl_check_laws.specs.Accepted.{known}

pub both : (a b : Bool) → (a && b) ≡ true → (a ≡ true) × (b ≡ true)
both true b h = (refl, h)
both false b h = absurd (cc)

pub and_true : (a b : Bool) → a ≡ true → b ≡ true → (a && b) ≡ true
and_true true b h k = k
and_true false b h k = absurd (cc)

pub length_more : {A : Type 0} (xs : List A) (x : A) → length (xs ++ x ∷ []) ≡ suc (length xs)
length_more [] x = omega arith
length_more (y ∷ xs) x = let z = length_more xs x in omega arith

pub all_left : {A : Type 0} (P : A → Type 0) (xs ys : List A) → All P (xs ++ ys) → All P xs
all_left P [] ys a k d l = absurd (omega arith)
all_left P (x ∷ xs) ys a zero d l = All-head P x (xs ++ ys) a
all_left P (x ∷ xs) ys a (suc k) d l = all_left P xs ys (All-tail P x (xs ++ ys) a) k d (omega arith)

pub all_right : {A : Type 0} (P : A → Type 0) (xs ys : List A) → All P (xs ++ ys) → All P ys
all_right P [] ys a = a
all_right P (x ∷ xs) ys a = all_right P xs ys (All-tail P x (xs ++ ys) a)

-- ---- what is the same

pub kind_same : (a : ScalarKind) → same_kind a a ≡ true
kind_same kind.Bool = refl
kind_same kind.Int = refl
kind_same kind.Unsigned = refl
kind_same kind.Half = refl
kind_same kind.Float = refl

pub base_same : (b : Base) → same_base b b ≡ true
base_same (Scalar k) = kind_same k
base_same (Struct n) = eq-eqb n n refl

size_same : (a : Size) → same_size a a ≡ true
size_same (Stated n) = eq-eqb n n refl
size_same (Open k) = eq-eqb k k refl

pub sizes_same : (a : List Size) → same_sizes a a ≡ true
sizes_same [] = refl
sizes_same (s ∷ sizes) = and_true (same_size s s) _ (size_same s) (sizes_same sizes)

pub known_has : (t : Typed) (sizes wanted : List Size) (base : Base) (depth : ℕ) → t ≡ known sizes (Some base) depth → wanted ≡ sizes → has t wanted (Some base) ≡ true
known_has t sizes wanted base depth e q = ap (λ t. has t wanted (Some base)) e ∙ ap (λ wanted. has (known sizes (Some base) depth) wanted (Some base)) q ∙ and_true (same_sizes sizes sizes) _ (sizes_same sizes) (base_same base)

-- ---- verdicts

-- what is made of a form is good, if it is accepted
abbrev pub Good : {A E : Type 0} → (A → Type 0) → Result A E → Type 0
Good P (Ok a) = P a
Good P (Err e) = Unit {0}

pub good_then : {A B E : Type 0} (P : A → Type 0) (Q : B → Type 0) (v : Result A E) (f : A → Result B E) → Good P v → ((a : A) → P a → Good Q (f a)) → Good Q (v >>= f)
good_then P Q (Ok a) f g k = k a g
good_then P Q (Err e) f g k = tt

-- after a form that is accepted
pub good_after : {A B E : Type 0} (Q : B → Type 0) (v : Result A E) (f : A → Result B E) → ((a : A) → v ≡ Ok a → Good Q (f a)) → Good Q (v >>= f)
good_after Q (Ok a) f k = k a refl
good_after Q (Err e) f k = tt

pub good_at : {A : Type 0} (P : A → Type 0) (unit token : ℕ) (v : Result A CheckKind) → Good P v → Good P (rule_at unit token v)
good_at P unit token (Ok a) g = g
good_at P unit token (Err k) g = tt

pub good_if : {A E : Type 0} (P : A → Type 0) (b : Bool) (a : A) (e : E) → (b ≡ true → P a) → Good P (if b then Ok a else Err e)
good_if P true a e k = k refl
good_if P false a e k = tt

pub good_ok : {A E : Type 0} (P : A → Type 0) (v : Result A E) (a : A) → v ≡ Ok a → Good P v → P a
good_ok P v a e g = subst (λ v. Good P v) e g

-- what is accepted one by one is good
pub good_each : {A E : Type 0} (P : A → Type 0) (v : Result A E) → ((a : A) → v ≡ Ok a → P a) → Good P v
good_each P (Ok a) k = k a refl
good_each P (Err e) k = tt
