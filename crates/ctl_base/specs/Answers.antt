-- The steps of a definition that may stop, and what the answer of a call says of them.
use Rattle.std.specs.Prelude.{◌≡◌, Result, Ok, Err}

-- One step after another: the first that stops decides, and a value is handed on.
infixl 10 ◌>>=◌
abbrev pub ◌>>=◌ : {A B E : Type 0} → Result A E → (A → Result B E) → Result B E
(Ok x) >>= next = next x
(Err e) >>= next = Err e

-- the same where no value is handed on
infixl 10 ◌>>◌
abbrev pub ◌>>◌ : {A B E : Type 0} → Result A E → Result B E → Result B E
step >> next = step >>= (λ _. next)

-- What an answer says, by cases, of a meaning that is told by a relation: the value, seen by `view`, is meant, or the
-- refusal is. `refusal` says by cases which fault a refusal of the code stands for: it claims nothing of want of memory.
abbrev pub Answers : {X A R E : Type 0} → (X → A) → ((E → Type 0) → R → Type 0) → Result X R → (Result A E → Type 0) → Type 0
Answers view refusal (Ok x) means = means (Ok (view x))
Answers view refusal (Err r) means = refusal (λ e. means (Err e)) r

-- The same where the meaning is a function: the answer is its outcome.
abbrev pub Gives : {X A R E : Type 0} → (X → A) → ((E → Type 0) → R → Type 0) → Result X R → Result A E → Type 0
Gives view refusal result outcome = Answers view refusal result (λ answer. outcome ≡ answer)
