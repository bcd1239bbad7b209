-- Of actions one after the other: one answer of each makes one answer.
use Rattle.std.proofs.Common.{◌≡◌, ℕ, List, [], ◌∷◌, ◌++◌, false, Result, Ok, Err, refl, sym, subst, ap, ◌∙◌}
use Rattle.outside.specs.Calls.{FileCall, FileCallKind, file_call}
use Rattle.command_status.specs.declared.status.Status.{Status}
use Rattle.render_command.specs.Actions.{Answers, is_told, given_up, Asks, is_answered, box_fails, not_asked, no_room, Then, stops, goes_on, IsTold, AtMostOne, AtLeastOne}

-- the same answer after the same calls
abbrev Same : {A : Type 0} → Result A Status → Result A Status → List FileCall → List FileCall → Type 0
Same r r' b b' = (r ≡ r') × (b ≡ b')

ok_apart : {A : Type 0} {x : A} {e : Status} → Ok x ≡ Err e → ⊥
ok_apart q = absurd cc

abbrev as_ok : {A : Type 0} → A → Result A Status
as_ok x = Ok x

abbrev as_err : (A : Type 0) → Status → Result A Status
as_err A e = Err e

same_ok : {A : Type 0} {x y : A} → as_ok x ≡ as_ok y → x ≡ y
same_ok q = cc

same_err : {A : Type 0} {e e' : Status} → as_err A e ≡ as_err A e' → e ≡ e'
same_err q = cc

same_answers : {A : Type 0} {told : Result A Status → Type 0} {a b b' : List FileCall} {r r' : Result A Status} → ((s t : Result A Status) → told s → told t → s ≡ t)
    → Answers told a b r → Answers told a b' r' → IsTold r → IsTold r' → Same r r' b b'
same_answers {r = r} {r' = r'} one (is_told h) (is_told k) t t' = (one r r' h k, refl)
same_answers one (is_told h) given_up t t' = absurd t'
same_answers one given_up _ t t' = absurd t

-- nothing is asked
pub answers_one : {A : Type 0} (told : Result A Status → Type 0) → ((s t : Result A Status) → told s → told t → s ≡ t) → AtMostOne (Answers told)
answers_one told one = λ before after elsewhere r r' h k t t'. same_answers one h k t t'

pub lifted_one : {A B : Type 0} (f : A → Result B Status) (a : A) → AtMostOne (Answers (λ answer. f a ≡ answer))
lifted_one f a = answers_one (λ answer. f a ≡ answer) (λ s t h k. sym h ∙ k)

same_asks : {A : Type 0} {kind : FileCallKind} {name : List ℕ} {told r r' : Result A Status} {a b b' : List FileCall} → Asks kind name told a b r → Asks kind name told a b' r' → IsTold r → IsTold r' → Same r r' b b'
same_asks (is_answered e c) (is_answered e' c') t t' = (sym e ∙ e', c ∙ sym c')
same_asks (is_answered e c) (box_fails c') t t' = absurd t'
same_asks (is_answered e c) not_asked t t' = absurd t'
same_asks (is_answered e c) (no_room c') t t' = absurd t'
same_asks (box_fails c) _ t t' = absurd t
same_asks not_asked _ t t' = absurd t
same_asks (no_room c) _ t t' = absurd t

-- one call
pub asks_one : {A : Type 0} (kind : FileCallKind) (name : List ℕ) (told : Result A Status) → AtMostOne (Asks kind name told)
asks_one kind name told = λ before after elsewhere r r' h k t t'. same_asks h k t t'

same_then : {A B : Type 0} {first : List FileCall → List FileCall → Result A Status → Type 0} {second : A → List FileCall → List FileCall → Result B Status → Type 0} {a b b' : List FileCall} {r r' : Result B Status}
    → AtMostOne first → ((x : A) → AtMostOne (second x)) → Then first second a b r → Then first second a b' r' → IsTold r → IsTold r' → Same r r' b b'
same_then f g (stops {status = e} h) (stops {status = e'} k) t t' = let q = f _ _ _ _ _ h k t t' in let x = same_err q.0 in (ap (λ (y : Status). Err y) x, q.1)
same_then f g (stops h) (goes_on k l) t t' = absurd (ok_apart (sym (f _ _ _ _ _ h k t tt).0))
same_then f g (goes_on h l) (stops k) t t' = absurd (ok_apart (f _ _ _ _ _ h k tt t').0)
same_then {A = A} {second = second} {b' = b'} {r = r} {r' = r'} f g (goes_on {between = between} {a = x} h l) (goes_on {between = between'} {a = x'} k m) t t' =
    let q = f _ _ _ _ _ h k tt tt in
    let P : A → Type 0 = λ y. second y between' b' r' in
    let Q : List FileCall → Type 0 = λ c. second x c b' r' in
    g x _ _ _ _ _ l (subst Q (sym q.1) (subst P (sym (same_ok q.0)) m)) t t'

-- one after the other
pub then_one : {A B : Type 0} (first : List FileCall → List FileCall → Result A Status → Type 0) (second : A → List FileCall → List FileCall → Result B Status → Type 0)
    → AtMostOne first → ((x : A) → AtMostOne (second x)) → AtMostOne (Then first second)
then_one first second f g = λ before after elsewhere r r' h k t t'. same_then f g h k t t'

-- ---- there is an answer

-- nothing is asked
pub answers_some : {A : Type 0} (told : Result A Status → Type 0) (answer : Result A Status) → IsTold answer → told answer → AtLeastOne (Answers told)
answers_some told answer t h = λ before. (before, answer, t, is_told h)

pub lifted_some : {A B : Type 0} (f : A → Result B Status) (a : A) → IsTold (f a) → AtLeastOne (Answers (λ answer. f a ≡ answer))
lifted_some f a t = answers_some (λ answer. f a ≡ answer) (f a) t refl

-- one call
pub asks_some : {A : Type 0} (kind : FileCallKind) (name : List ℕ) (told : Result A Status) → IsTold told → AtLeastOne (Asks kind name told)
asks_some kind name told t = λ before. (before ++ file_call kind name false ∷ [], told, t, is_answered refl refl)

some_then : {A B : Type 0} (first : List FileCall → List FileCall → Result A Status → Type 0) (second : A → List FileCall → List FileCall → Result B Status → Type 0) (before after : List FileCall) (r : Result A Status) → IsTold r
    → first before after r → ((x : A) → first before after (Ok x) → AtLeastOne (second x)) → (end : List FileCall) × (answer : Result B Status) × IsTold answer × Then first second before end answer
some_then first second before after (Err e) t h more = (after, Err e, t, stops h)
some_then first second before after (Ok x) t h more = let q = more x h after in (q.0, q.1, q.2, goes_on h q.3)

pub then_some : {A B : Type 0} (first : List FileCall → List FileCall → Result A Status → Type 0) (second : A → List FileCall → List FileCall → Result B Status → Type 0) → AtLeastOne first
    → ((before after : List FileCall) (x : A) → first before after (Ok x) → AtLeastOne (second x)) → AtLeastOne (Then first second)
then_some first second f g = λ before. let q = f before in some_then first second before q.0 q.1 q.2 q.3 (λ x h. g before q.0 x h)

-- ---- what a value comes from

answers_value : {A : Type 0} {told : Result A Status → Type 0} {a b : List FileCall} {r : Result A Status} (x : A) → Answers told a b r → r ≡ Ok x → told (Ok x)
answers_value {told = told} x (is_told h) e = subst told e h
answers_value x given_up e = absurd cc

-- of what asks nothing
pub lifted_value : {A B : Type 0} (f : A → Result B Status) (a : A) (before after : List FileCall) (x : B) → Answers (λ answer. f a ≡ answer) before after (Ok x) → f a ≡ Ok x
lifted_value f a before after x h = answers_value x h refl

asks_value : {A : Type 0} {kind : FileCallKind} {name : List ℕ} {told r : Result A Status} {a b : List FileCall} (x : A) → Asks kind name told a b r → r ≡ Ok x → told ≡ Ok x
asks_value x (is_answered e c) f = e ∙ f
asks_value x (box_fails c) f = absurd cc
asks_value x not_asked f = absurd cc
asks_value x (no_room c) f = absurd cc

-- of one call
pub asked_value : {A : Type 0} (kind : FileCallKind) (name : List ℕ) (told : Result A Status) (before after : List FileCall) (x : A) → Asks kind name told before after (Ok x) → told ≡ Ok x
asked_value kind name told before after x h = asks_value x h refl

-- the value of the first action, and what the second step makes of it
pub record Through {A B : Type 0} (first : List FileCall → List FileCall → Result A Status → Type 0) (second : A → List FileCall → List FileCall → Result B Status → Type 0) (before after : List FileCall) (b : B) : Type 0 where
  pub between : List FileCall
  pub a : A
  pub made : first before between (Ok a)
  pub on : second a between after (Ok b)

then_value : {A B : Type 0} {first : List FileCall → List FileCall → Result A Status → Type 0} {second : A → List FileCall → List FileCall → Result B Status → Type 0} {before after : List FileCall} {r : Result B Status} (x : B)
    → Then first second before after r → r ≡ Ok x → Through first second before after x
then_value x (stops h) e = absurd cc
then_value {second = second} {after = after} x (goes_on {between = between} {a = a} h k) e = record { between = between; a = a; made = h; on = subst (λ (r : Result _ Status). second a between after r) e k }

-- of one after the other
pub through : {A B : Type 0} (first : List FileCall → List FileCall → Result A Status → Type 0) (second : A → List FileCall → List FileCall → Result B Status → Type 0) (before after : List FileCall) (x : B) → Then first second before after (Ok x)
    → Through first second before after x
through first second before after x h = then_value x h refl
