-- The words that follow an option: which of them pass, and what they say.
use Rattle.std.specs.Prelude.{◌≡◌, ℕ, ℤ, ◌<◌, ◌^◌, List, [], ◌∷◌, length, All, Bool, true, false, ◌&&◌, ◌||◌, ◌==◌, nat_le, nat_eq, codes, Option, Some, None, Ok, if◌then◌else◌}
use Rattle.std.specs.List.{list_all, list_any}
use Rattle.std.specs.Str.{bytes_eq}
use Rattle.fix_num.specs.declared.TheConstants.{FRACTION}
use Rattle.fix_num.specs.Decimal.{IsDigit, number, Reads}
use Rattle.command_line.specs.Options.{Rule, File, Name, Number, Depth, Watcher, Whole}

-- What such a word says.
pub data Value : Type 0 where
  Text : (bytes : List ℕ) → Value
  Raw : (raw : ℤ) → Value
  Natural : (number : ℕ) → Value

-- an ASCII letter or `_`
unfoldable pub begins_name : ℕ → Bool
begins_name b = (nat_le 65 b && nat_le b 90) || ((nat_le 97 b && nat_le b 122) || b == 95)

-- an ASCII letter, an ASCII digit or `_`
unfoldable pub is_in_name : ℕ → Bool
is_in_name b = begins_name b || (nat_le 48 b && nat_le b 57)

-- the name of a parameter
abbrev pub is_name : List ℕ → Bool
is_name [] = false
is_name (b ∷ bytes) = begins_name b && list_all is_in_name bytes

-- the depth that a format says, 0 where the depth is the source's
abbrev pub depth_of : List ℕ → Option ℕ
depth_of word =
    if bytes_eq word (codes "dpx") then Some 0
    else (if bytes_eq word (codes "dpx10") then Some 10
    else (if bytes_eq word (codes "dpx16") then Some 16
    else None))

-- the number of a kind of watcher
abbrev pub watcher_kind : List ℕ → Option ℕ
watcher_kind word =
    if bytes_eq word (codes "range") then Some 1
    else (if bytes_eq word (codes "clip") then Some 2
    else (if bytes_eq word (codes "sum") then Some 3
    else (if bytes_eq word (codes "bins") then Some 4
    else None)))

-- nothing where no watcher of the kind was handed in
abbrev pub handed_in : List ℕ → Option ℕ → Option ℕ
handed_in kinds None = None
handed_in kinds (Some kind) = if list_any (nat_eq kind) kinds then Some kind else None

-- the number of a kind of watcher, where one was handed in
abbrev pub watcher_of : List ℕ → List ℕ → Option ℕ
watcher_of kinds word = handed_in kinds (watcher_kind word)

-- a run of digits in range, and the number that it spells
pub record SpellsWhole (word : List ℕ) (n : ℕ) : Type 0 where
  pub some : 0 < length word
  pub digits : All IsDigit word
  pub value : n ≡ number word
  pub fits : n < 2 ^ 32

-- The word passes, where watchers of these kinds were handed in, and says this.
abbrev pub Says : List ℕ → Rule → List ℕ → Value → Type 0
Says kinds File word (Text bytes) = bytes ≡ word
Says kinds Name word (Text bytes) = (is_name word ≡ true) × (bytes ≡ word)
Says kinds Number word (Raw raw) = Reads FRACTION word (Ok raw)
Says kinds Depth word (Natural depth) = depth_of word ≡ Some depth
Says kinds Watcher word (Natural kind) = watcher_of kinds word ≡ Some kind
Says kinds Whole word (Natural n) = SpellsWhole word n
Says kinds rule word value = ⊥

-- the word fails
abbrev pub Fails : List ℕ → Rule → List ℕ → Type 0
Fails kinds rule word = (value : Value) → Says kinds rule word value → ⊥

-- The first words pass, one for each rule, and say these values. More words may stand behind them.
abbrev pub Follow : List ℕ → List Rule → List (List ℕ) → List Value → Type 0
Follow kinds [] words [] = Unit {0}
Follow kinds (rule ∷ rules) (word ∷ words) (value ∷ values) = Says kinds rule word value × Follow kinds rules words values
Follow kinds rules words values = ⊥

-- The first words pass and say these values, and the word behind them fails.
abbrev pub Break : List ℕ → List Rule → List (List ℕ) → List Value → Type 0
Break kinds (rule ∷ rules) (word ∷ words) [] = Fails kinds rule word
Break kinds (rule ∷ rules) (word ∷ words) (value ∷ values) = Says kinds rule word value × Break kinds rules words values
Break kinds rules words values = ⊥
