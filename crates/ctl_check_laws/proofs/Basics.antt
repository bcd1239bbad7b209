-- Truth values, lists, and what is made of a form where it is accepted.
use Rattle.std.proofs.Common.{◌≡◌, ℕ, zero, suc, ◌+◌, ◌*◌, ◌≤◌, ◌<◌, List, [], ◌∷◌, ◌++◌, map, length, get_or, Option, Some, None, Result, Ok, Err, Bool, true, false, ◌&&◌, if◌then◌else◌, refl, sym, ap, subst, ◌∙◌, arith, slice_get, All}
use Rattle.std.proofs.lemmas.List.Elements.{All-head, All-tail}
use Rattle.ctl_scope.specs.declared.kind.CheckKind.{CheckKind}
use Rattle.ctl_check_rules.specs.Faults.{◌>>=◌, rule_at}

-- ---- truth values

pub both : (a b : Bool) → (a && b) ≡ true → (a ≡ true) × (b ≡ true)
both true b h = (refl, h)
both false b h = absurd (cc)

pub and_true : (a b : Bool) → a ≡ true → b ≡ true → (a && b) ≡ true
and_true true b h k = k
and_true false b h k = absurd (cc)

-- ---- lists

pub get_some : {A B : Type 0} (f : A → B) (xs : List A) (k : ℕ) (x : A) → slice_get xs k ≡ Some x → slice_get (map f xs) k ≡ Some (f x)
get_some f [] k x e = absurd (cc)
get_some f (y ∷ xs) zero x e = let q : y ≡ x = cc in ap (λ y. Some (f y)) q
get_some f (y ∷ xs) (suc k) x e = get_some f xs k x e

pub get_of : {A B : Type 0} (f : A → B) (xs : List A) (k : ℕ) (x : A) (d : B) → slice_get xs k ≡ Some x → get_or (map f xs) k d ≡ f x
get_of f [] k x d e = absurd (cc)
get_of f (y ∷ xs) zero x d e = let q : y ≡ x = cc in ap f q
get_of f (y ∷ xs) (suc k) x d e = get_of f xs k x d e

pub get_left : {A : Type 0} (xs ys : List A) (k : ℕ) (x : A) → slice_get xs k ≡ Some x → slice_get (xs ++ ys) k ≡ Some x
get_left [] ys k x e = absurd (cc)
get_left (y ∷ xs) ys zero x e = e
get_left (y ∷ xs) ys (suc k) x e = get_left xs ys k x e

pub get_end : {A : Type 0} (xs : List A) (x : A) → slice_get (xs ++ x ∷ []) (length xs) ≡ Some x
get_end [] x = refl
get_end (y ∷ xs) x = get_end xs x

pub or_left : {A : Type 0} (xs ys : List A) (k : ℕ) (d : A) → k < length xs → get_or (xs ++ ys) k d ≡ get_or xs k d
or_left [] ys k d l = absurd (omega arith)
or_left (y ∷ xs) ys zero d l = refl
or_left (y ∷ xs) ys (suc k) d l = or_left xs ys k d (omega arith)

pub or_end : {A : Type 0} (xs : List A) (x : A) (ys : List A) (d : A) → get_or (xs ++ (x ∷ ys)) (length xs) d ≡ x
or_end [] x ys d = refl
or_end (y ∷ xs) x ys d = or_end xs x ys d

pub length_more : {A : Type 0} (xs : List A) (x : A) → length (xs ++ x ∷ []) ≡ suc (length xs)
length_more [] x = omega arith
length_more (y ∷ xs) x = let z = length_more xs x in omega arith

pub length_both : {A : Type 0} (xs ys : List A) → length (xs ++ ys) ≡ length xs + length ys
length_both [] ys = omega arith
length_both (x ∷ xs) ys = let z = length_both xs ys in omega arith

pub map_long : {A B : Type 0} (f : A → B) (xs : List A) → length (map f xs) ≡ length xs
map_long f [] = refl
map_long f (x ∷ xs) = let z = map_long f xs in omega arith

pub all_left : {A : Type 0} (P : A → Type 0) (xs ys : List A) → All P (xs ++ ys) → All P xs
all_left P [] ys a k d l = absurd (omega arith)
all_left P (x ∷ xs) ys a zero d l = All-head P x (xs ++ ys) a
all_left P (x ∷ xs) ys a (suc k) d l = all_left P xs ys (All-tail P x (xs ++ ys) a) k d (omega arith)

pub all_right : {A : Type 0} (P : A → Type 0) (xs ys : List A) → All P (xs ++ ys) → All P ys
all_right P [] ys a = a
all_right P (x ∷ xs) ys a = all_right P xs ys (All-tail P x (xs ++ ys) a)

-- ---- verdicts

-- what is made of a form is good, if it is accepted
abbrev pub Good : {A E : Type 0} → (A → Type 0) → Result A E → Type 0
Good P (Ok a) = P a
Good P (Err e) = Unit {0}

pub good_then : {A B E : Type 0} (P : A → Type 0) (Q : B → Type 0) (v : Result A E) (f : A → Result B E) → Good P v → ((a : A) → P a → Good Q (f a)) → Good Q (v >>= f)
good_then P Q (Ok a) f g k = k a g
good_then P Q (Err e) f g k = tt

pub good_more : {A E : Type 0} (P Q : A → Type 0) (v : Result A E) → Good P v → ((a : A) → P a → Q a) → Good Q v
good_more P Q (Ok a) g k = k a g
good_more P Q (Err e) g k = tt

pub good_any : {A E : Type 0} (P : A → Type 0) (v : Result A E) → ((a : A) → P a) → Good P v
good_any P (Ok a) k = k a
good_any P (Err e) k = tt

pub good_at : {A : Type 0} (P : A → Type 0) (unit token : ℕ) (v : Result A CheckKind) → Good P v → Good P (rule_at unit token v)
good_at P unit token (Ok a) g = g
good_at P unit token (Err k) g = tt

pub good_if : {A E : Type 0} (P : A → Type 0) (b : Bool) (a : A) (e : E) → (b ≡ true → P a) → Good P (if b then Ok a else Err e)
good_if P true a e k = k refl
good_if P false a e k = tt

pub good_ok : {A E : Type 0} (P : A → Type 0) (v : Result A E) (a : A) → v ≡ Ok a → Good P v → P a
good_ok P v a e g = subst (λ v. Good P v) e g

-- each of some verdicts
abbrev pub EachGood : {A E : Type 0} → (A → Type 0) → List (Result A E) → Type 0
EachGood P [] = Unit {0}
EachGood P (v ∷ vs) = Good P v × EachGood P vs
