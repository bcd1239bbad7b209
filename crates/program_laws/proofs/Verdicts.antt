-- What is made of a form where it is accepted.
use Rattle.std.proofs.lemmas.List.Elements.{All-head, All-tail}
use Rattle.std.proofs.Common.{◌≡◌, ℕ, zero, suc, ◌+◌, ◌<◌, List, [], ◌∷◌, ◌++◌, All, arith, Result, Ok, Err, Bool, true, false, ◌&&◌, if◌then◌else◌, refl, subst}
use Rattle.ctl_scope.specs.declared.kind.CheckKind.{CheckKind}
use Rattle.ctl_check_rules.specs.Faults.{◌>>=◌, rule_at}

-- what is made of a form is good, if it is accepted
abbrev pub Good : {A E : Type 0} → (A → Type 0) → Result A E → Type 0
Good P (Ok a) = P a
Good P (Err e) = Unit {0}

pub good_then : {A B E : Type 0} (P : A → Type 0) (Q : B → Type 0) (v : Result A E) (f : A → Result B E) → Good P v → ((a : A) → P a → Good Q (f a)) → Good Q (v >>= f)
good_then P Q (Ok a) f g k = k a g
good_then P Q (Err e) f g k = tt

pub good_more : {A E : Type 0} (P Q : A → Type 0) (v : Result A E) → Good P v → ((a : A) → P a → Q a) → Good Q v
good_more P Q (Ok a) g k = k a g
good_more P Q (Err e) g k = tt

-- what holds of whatever is accepted
pub good_all : {A E : Type 0} (P : A → Type 0) (v : Result A E) → ((a : A) → v ≡ Ok a → P a) → Good P v
good_all P (Ok a) k = k a refl
good_all P (Err e) k = tt

pub good_at : {A : Type 0} (P : A → Type 0) (unit token : ℕ) (v : Result A CheckKind) → Good P v → Good P (rule_at unit token v)
good_at P unit token (Ok a) g = g
good_at P unit token (Err k) g = tt

pub good_if : {A E : Type 0} (P : A → Type 0) (b : Bool) (a : A) (e : E) → (b ≡ true → P a) → Good P (if b then Ok a else Err e)
good_if P true a e k = k refl
good_if P false a e k = tt

-- what an accepted form is
pub good_of : {A E : Type 0} (P : A → Type 0) (v : Result A E) → Good P v → (a : A) → v ≡ Ok a → P a
good_of {A = A} {E = E} P v g a e = subst (λ (v : Result A E). Good P v) e g

-- a rule that refuses where this holds
pub good_unless : {A E : Type 0} (P : A → Type 0) (b : Bool) (e : E) (v : Result A E) → (b ≡ false → Good P v) → Good P (if b then Err e else v)
good_unless P true e v k = tt
good_unless P false e v k = k refl

-- ---- both

pub both : (a b : Bool) → (a && b) ≡ true → (a ≡ true) × (b ≡ true)
both true b h = (refl, h)
both false b h = absurd (cc)

pub and_true : (a b : Bool) → a ≡ true → b ≡ true → (a && b) ≡ true
and_true true b h k = k
and_true false b h k = absurd (cc)

-- after whatever was made before
pub good_any : {A B E : Type 0} (Q : B → Type 0) (v : Result A E) (f : A → Result B E) → ((a : A) → Good Q (f a)) → Good Q (v >>= f)
good_any Q (Ok a) f k = k a
good_any Q (Err e) f k = tt

-- ---- all of some

pub below_tail : (n token : ℕ) (tokens : List ℕ) → All (λ token. token < n) (token ∷ tokens) → All (λ token. token < n) tokens
below_tail n token tokens a = All-tail (λ token. token < n) token tokens a

pub below_left : (n : ℕ) (xs ys : List ℕ) → All (λ token. token < n) (xs ++ ys) → All (λ token. token < n) xs
below_left n [] ys a k d l = absurd (omega arith)
below_left n (x ∷ xs) ys a zero d l = All-head (λ token. token < n) x (xs ++ ys) a
below_left n (x ∷ xs) ys a (suc k) d l = below_left n xs ys (All-tail (λ token. token < n) x (xs ++ ys) a) k d (omega arith)

pub below_right : (n : ℕ) (xs ys : List ℕ) → All (λ token. token < n) (xs ++ ys) → All (λ token. token < n) ys
below_right n [] ys a = a
below_right n (x ∷ xs) ys a = below_right n xs ys (All-tail (λ token. token < n) x (xs ++ ys) a)
