-- The command that the words spell, or the first word that fails.
use Rattle.std.specs.Prelude.{◌≡◌, ℕ, ◌+◌, ◌≤◌, List, [], ◌∷◌, ◌++◌, length, drop, true, false, Some, None, Result, Ok, Err, ◌⊎◌, codes}
use Rattle.command_line.specs.declared.command.Command.{Command}
use Rattle.command_line.specs.declared.item.Item.{Item}
use Rattle.command_line.specs.declared.option.Kind.{Kind}
use Rattle.command_line.specs.Options.{kind_of, following}
use Rattle.command_line.specs.Following.{Value, Follow, Break}
use Rattle.command_line.specs.Items.{item_of, command_of, may_follow, is_whole}

-- A word with these words behind it begins an option, or is plain: it is known, no following word is missing, and it
-- may stand behind the items before it.
pub record Begins (items : List Item) (word : List ℕ) (words : List (List ℕ)) (kind : Kind) : Type 0 where
  pub known : kind_of word ≡ Some kind
  pub enough : length (following kind) ≤ length words
  pub placed : may_follow items kind ≡ true

-- Behind the items before them, the words up to these last ones are these items.
abbrev pub Spell : List ℕ → List Item → List Item → List (List ℕ) → List (List ℕ) → Type 0
Spell kinds before [] words last = words ≡ last
Spell kinds before (item ∷ items) [] last = ⊥
Spell kinds before (item ∷ items) (word ∷ words) last =
    (kind : Kind) × (values : List Value) × Begins before word words kind × Follow kinds (following kind) words values × (item ≡ item_of word kind values) × Spell kinds (before ++ item ∷ []) items (drop (length (following kind)) words) last

-- Behind these items a word fails: the first of the words, one that follows it, or the end, where something is missing.
-- How many words stand before it is told.
abbrev pub FailsAt : List ℕ → List Item → List (List ℕ) → ℕ → Type 0
FailsAt kinds items [] place = (is_whole items ≡ false) × (place ≡ 0)
FailsAt kinds items (word ∷ words) place =
    (((kind : Kind) → Begins items word words kind → ⊥) × (place ≡ 0))
    ⊎ ((kind : Kind) × (values : List Value) × Begins items word words kind × Break kinds (following kind) words values × (place ≡ length values + 1))

-- What words mean, where watchers of these kinds were handed in: the command that they spell, or the place of the first
-- word that fails, which is the number of words where all pass and something is missing.
abbrev pub CommandWords : List ℕ → List (List ℕ) → Result Command ℕ → Type 0
CommandWords kinds words (Ok command) = (items : List Item) × Spell kinds [] items words [] × (is_whole items ≡ true) × (command ≡ command_of items)
CommandWords kinds words (Err place) =
    (items : List Item) × (last : List (List ℕ)) × (behind : ℕ) × Spell kinds [] items words last × FailsAt kinds items last behind × (place + length last ≡ length words + behind)

-- ---- laws

-- words mean one thing
abbrev pub OneMeaning : Type 0
OneMeaning = (kinds : List ℕ) (words : List (List ℕ)) (answer other : Result Command ℕ) → CommandWords kinds words answer → CommandWords kinds words other → answer ≡ other

-- words that mean nothing are impossible
abbrev pub SomeMeaning : Type 0
SomeMeaning = (kinds : List ℕ) (words : List (List ℕ)) → ((answer : Result Command ℕ) → CommandWords kinds words answer → ⊥) → ⊥

-- the same command, which may write over its destination
abbrev pub forced : Command → Command
forced command = record command { force = true }

-- words without `-make` that are accepted stay so when `-force` is added at the end
abbrev pub ForceIsAccepted : Type 0
ForceIsAccepted = (kinds : List ℕ) (words : List (List ℕ)) (command : Command) → CommandWords kinds words (Ok command) → command.make ≡ None → CommandWords kinds (words ++ codes "-force" ∷ []) (Ok (forced command))

-- these two words stand among the words, in this order
abbrev pub InOrder : List ℕ → List ℕ → List (List ℕ) → Type 0
InOrder first second words = (before : List (List ℕ)) × (between : List (List ℕ)) × (behind : List (List ℕ)) × (words ≡ before ++ first ∷ (between ++ second ∷ behind))

-- the words of an accepted command without `-make` have the source before the destination
abbrev pub SourceIsFirst : Type 0
SourceIsFirst = (kinds : List ℕ) (words : List (List ℕ)) (command : Command) → CommandWords kinds words (Ok command) → command.make ≡ None → InOrder command.source command.destination words
