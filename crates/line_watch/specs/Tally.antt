-- What a watcher tells of the lines that it was shown: its numbers, and what one more line makes of them.
use Rattle.std.specs.Prelude.{◌≡◌, ℕ, ◌+◌, ◌-◌, ◌*◌, ◌/◌, ◌%◌, ◌^◌, ◌<◌, ◌≤◌, ◌==◌, min, max, if◌then◌else◌, List, [], ◌∷◌, replicate, drop, length, All}
use Rattle.std.specs.List.{fold, sum, count_by}
use Rattle.ctl_base.specs.Steps.{grown}

-- ---- the codes of a line

-- A line has its codes pixel by pixel: red, green, blue. These are the codes of each.
abbrev pub reds : List ℕ → List ℕ
reds (red ∷ _ ∷ _ ∷ line) = red ∷ reds line
reds _ = []

abbrev pub greens : List ℕ → List ℕ
greens (_ ∷ green ∷ _ ∷ line) = green ∷ greens line
greens _ = []

abbrev pub blues : List ℕ → List ℕ
blues (_ ∷ _ ∷ blue ∷ line) = blue ∷ blues line
blues _ = []

-- The codes of channel k: 0 is red, 1 is green, 2 is blue, and no other has any.
abbrev pub codes_of_channel : ℕ → List ℕ → List ℕ
codes_of_channel k line = if k == 0 then reds line else if k == 1 then greens line else if k == 2 then blues line else []

-- A line of whole pixels, of 8 to 16 bits a code.
pub record IsLine (depth : ℕ) (line : List ℕ) : Type 0 where
  pub bits : (8 ≤ depth) × (depth ≤ 16)
  pub pixels : length line % 3 ≡ 0
  pub fit : All (λ c. c < 2 ^ depth) line

-- The greatest code of so many bits.
abbrev pub greatest_code : ℕ → ℕ
greatest_code depth = 2 ^ depth - 1

-- The bin of a code: sixteen share out the codes of so many bits.
abbrev pub bin_of : ℕ → ℕ → ℕ
bin_of depth code = code * 16 / 2 ^ depth

-- ---- the numbers of a kind, for red, then green, then blue

-- Kind 1, range: the least and the greatest code of each channel. Number i, where it was n, after a line.
abbrev pub range_number : ℕ → ℕ → List ℕ → ℕ
range_number i n line = if i % 2 == 0 then fold min n (codes_of_channel (i / 2) line) else fold max n (codes_of_channel (i / 2) line)

-- Kind 2, clip: how many codes of each channel are 0, and how many are the greatest of their line's depth.
abbrev pub clip_number : ℕ → ℕ → ℕ → List ℕ → ℕ
clip_number depth i n line = grown n (count_by (λ c. c == (if i % 2 == 0 then 0 else greatest_code depth)) (codes_of_channel (i / 2) line))

-- Kind 3, sum: the sum of the codes of each channel.
abbrev pub sum_number : ℕ → ℕ → List ℕ → ℕ
sum_number i n line = grown n (sum (codes_of_channel i line))

-- Kind 4, bins: how many codes of each channel are in each of sixteen bins.
abbrev pub bin_number : ℕ → ℕ → ℕ → List ℕ → ℕ
bin_number depth i n line = grown n (count_by (λ c. bin_of depth c == i % 16) (codes_of_channel (i / 16) line))

-- Number i of a kind, where it was n, after a line.
abbrev pub number_after : ℕ → ℕ → ℕ → ℕ → List ℕ → ℕ
number_after kind depth i n line =
    if kind == 1 then range_number i n line
    else if kind == 2 then clip_number depth i n line
    else if kind == 3 then sum_number i n line
    else if kind == 4 then bin_number depth i n line
    else n

-- ---- a tally: the forty-eight numbers of a kind

-- What f makes of each number and its place. The places are counted from i.
abbrev pub at_places : (ℕ → ℕ → ℕ) → ℕ → List ℕ → List ℕ
at_places f i [] = []
at_places f i (n ∷ numbers) = f i n ∷ at_places f (i + 1) numbers

-- How many numbers a kind has. Those past them are 0.
abbrev pub count_of : ℕ → ℕ
count_of kind = if kind == 3 then 3 else if kind == 4 then 48 else 6

abbrev pub IsPadded : ℕ → List ℕ → Type 0
IsPadded kind numbers = drop (count_of kind) numbers ≡ replicate (48 - count_of kind) 0

-- The tally of no lines.
unfoldable pub before_lines : ℕ → List ℕ
before_lines kind = if kind == 1 then 65535 ∷ 0 ∷ 65535 ∷ 0 ∷ 65535 ∷ 0 ∷ replicate 42 0 else replicate 48 0

-- The tally after one more line.
unfoldable pub after_line : ℕ → ℕ → List ℕ → List ℕ → List ℕ
after_line kind depth numbers line = at_places (λ i n. number_after kind depth i n line) 0 numbers

-- The tally after lines in order, all of one depth.
abbrev pub after_lines : ℕ → ℕ → List ℕ → List (List ℕ) → List ℕ
after_lines kind depth numbers [] = numbers
after_lines kind depth numbers (line ∷ lines) = after_lines kind depth (after_line kind depth numbers line) lines
