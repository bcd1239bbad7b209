-- What the readers of the words behind an option answer.
use Rattle.std.specs.Prelude.{◌≡◌, ℕ, ℤ, ◌+◌, List, ◌∷◌, length, Option, Result, Ok, Err, MatchOption}
use Rattle.command_line.specs.declared.following.Refusal.{Refusal}
use Rattle.command_line.specs.declared.following.Refusal.TheVariants.{At, Memory}
use Rattle.command_line.specs.declared.item.Item.{Item}
use Rattle.command_line.specs.declared.option.Count.{Count}
use Rattle.command_line.specs.declared.option.Kind.{Kind}
use Rattle.command_line.specs.Options.{Rule, following, numbers}
use Rattle.command_line.specs.Following.{Value, Says, Fails, Follow, Break}
use Rattle.command_line.specs.Items.{item_of, three_raws}
use Rattle.command_line.specs.CommandWords.{Begins, FailsAt}

-- what a reader of one word answers
abbrev pub Tells : {X : Type 0} → List ℕ → Rule → (X → Value) → List ℕ → Option X → Type 0
Tells kinds rule view word answer = MatchOption answer (Fails kinds rule word) (λ x. Says kinds rule word (view x))

-- the words fail behind so many that pass, with so many before them
abbrev pub BreaksAt : List ℕ → List Rule → List (List ℕ) → ℕ → Refusal → Type 0
BreaksAt kinds rules words before (At behind) = (values : List Value) × Break kinds rules words values × (behind ≡ length values + before)
BreaksAt kinds rules words before Memory = Unit {0}

-- what the reader of the numbers answers, before which two words stand
abbrev pub TakesNumbers : List ℕ → Count → List (List ℕ) → Result (List ℤ) Refusal → Type 0
TakesNumbers kinds count words (Ok raws) = (values : List Value) × Follow kinds (numbers count) words values × (raws ≡ three_raws values)
TakesNumbers kinds count words (Err refusal) = BreaksAt kinds (numbers count) words 2 refusal

abbrev pub TakesItem : List ℕ → List ℕ → Kind → List (List ℕ) → Result Item Refusal → Type 0
TakesItem kinds word kind words (Ok item) = (values : List Value) × Follow kinds (following kind) words values × (item ≡ item_of word kind values)
TakesItem kinds word kind words (Err refusal) = BreaksAt kinds (following kind) words 1 refusal

-- the item behind others, with how many words follow its first
abbrev pub TakesNext : List ℕ → List Item → List ℕ → List (List ℕ) → Result (Item × ℕ) Refusal → Type 0
TakesNext kinds before word words (Ok taken) =
    (kind : Kind) × (values : List Value) × Begins before word words kind × Follow kinds (following kind) words values × (taken.0 ≡ item_of word kind values) × (taken.1 ≡ length (following kind))
TakesNext kinds before word words (Err (At behind)) = FailsAt kinds before (word ∷ words) behind
TakesNext kinds before word words (Err Memory) = Unit {0}
