-- Laws of what code means.
use Rattle.std.specs.Prelude.{◌≡◌, ℕ, zero, suc, ◌<◌, ◌≤◌, ◌++◌, ℤ, pos, List, [], ◌∷◌, true, false, length, get_or, All, sum_by}
use Rattle.ctl_base.specs.declared.kind.Node.{Node}
use Rattle.ctl_base.specs.declared.limits.TheConstants.{ARRAY_SIZE, SCALARS}
use Rattle.ctl_stdlib.specs.Rows.{row}
use Rattle.ctl_stdlib.specs.Shapes.{open_sizes, table_words}
use Rattle.ctl_stdlib.specs.declared.row.LibraryId.{LibraryId}
use Rattle.lane_code.specs.declared.instr.Slot.{Slot}
use Rattle.lane_code.specs.declared.instr.Instr.{Instr}
use Rattle.lane_code.specs.declared.instr.Instr.TheVariants.{Library, If, Loop, Frame}
use Rattle.lane_code.specs.declared.mark.Mark.{Mark}
use Rattle.lane_code.specs.declared.valid.Numbers.{Numbers}
use Rattle.lane_code.specs.Slots.{Words}
use Rattle.lane_code.specs.Instructions.{Blocks, inputs, goes_on, effect, writes_uniform, reads_uniform}
use Rattle.lane_code.specs.declared.lane.Lane.{Lane}
use Rattle.lane_code.specs.LaneMeaning.{Done, Normal, Left, Trapped, LaneRun, words_of, lseq, choose, turn, act, run_list, run_block, meaning}
use Rattle.lane_code.specs.Valid.{is_sound, valid_blocks}
use Rattle.lane_code.specs.Divided.{Stands, IsRegular, IsLevelSafe, IsUndivided}
use Rattle.lane_code.specs.Marks.{CodeFits, AllCalm}

-- ---- blocks in their order

-- the instruction names only blocks of smaller numbers
abbrev pub Below : ℕ → Instr → Type 0
Below k (If c one other) = (one < k) × (other < k)
Below k (Loop test c body node) = (test < k) × (body < k)
Below k (Frame block) = block < k
Below k x = Unit {0}

abbrev pub AllBelow : ℕ → List Instr → Type 0
AllBelow k [] = Unit {0}
AllBelow k (x ∷ xs) = Below k x × AllBelow k xs

abbrev pub IsOrdered : Blocks → Type 0
IsOrdered code = (k : ℕ) → k < length code → AllBelow k (get_or code k [])

-- the run of a block by its number, where each block's run is given
abbrev pub block_run : List LaneRun → ℕ → LaneRun
block_run [] n = Normal
block_run (r ∷ runs) zero = r
block_run (r ∷ runs) (suc n) = block_run runs n

-- the runs of blocks, from the first on, each by those before it
abbrev pub block_runs : List LaneRun → Blocks → List LaneRun
block_runs runs [] = runs
block_runs runs (b ∷ blocks) = block_runs (runs ++ run_list (block_run runs) b ∷ []) blocks

-- the recursion on the depth and the runs from the first block on agree
abbrev pub OneMeaning : Type 0
OneMeaning = (code : Blocks) (k : ℕ) → IsOrdered code → k < length code → (l : Lane) → meaning code k l ≡ block_run (block_runs [] code) k l

-- a block that is added last runs by the blocks before it, and changes nothing in their runs
pub record BlockAdded (blocks : Blocks) (b : List Instr) (after : Blocks) : Type 0 where
  pub here : (l : Lane) → block_run (block_runs [] (blocks ++ b ∷ after)) (length blocks) l ≡ run_list (block_run (block_runs [] blocks)) b l
  pub below : (n : ℕ) → n < length blocks → (l : Lane) → block_run (block_runs [] (blocks ++ after)) n l ≡ block_run (block_runs [] blocks) n l

abbrev pub BlocksAdded : Type 0
BlocksAdded = (blocks : Blocks) (b : List Instr) (after : Blocks) → BlockAdded blocks b after

-- two lists of instructions run one after the other
abbrev pub ListsJoin : Type 0
ListsJoin = (blocks : ℕ → LaneRun) (a b : List Instr) (l : Lane) → run_list blocks (a ++ b) l ≡ lseq (run_list blocks a) (run_list blocks b) l

-- blocks behind change nothing, and neither does more depth than is needed
abbrev pub MoreChangesNothing : Type 0
MoreChangesNothing = (code after : Blocks) (depth k : ℕ) → IsOrdered code → k < length code → k < depth → (l : Lane) → run_block (code ++ after) depth k l ≡ meaning code k l

-- ---- turns

abbrev pub lane_of : Done → Lane
lane_of (Normal l) = l
lane_of (Left l) = l
lane_of (Trapped kind node l) = l

-- a run leaves no more turns than there were
abbrev pub KeepsTurns : LaneRun → Type 0
KeepsTurns f = (l : Lane) → (lane_of (f l)).turns ≤ l.turns

abbrev pub TurnsNeverRise : Type 0
TurnsNeverRise = (code : Blocks) (depth k : ℕ) → KeepsTurns (run_block code depth k)

-- The rounds of a Loop never run short: it runs its test, and where the word is not 0 it takes a turn, or traps, then runs its body, and is the Loop again.
abbrev pub LoopsGoRound : Type 0
LoopsGoRound = (blocks : ℕ → LaneRun) (test body : ℕ) (c : Slot) (node : Node) → KeepsTurns (blocks test) → KeepsTurns (blocks body) → (l : Lane) → act blocks (Loop test c body node) l ≡ lseq (blocks test) (choose c (lseq (turn node) (lseq (blocks body) (act blocks (Loop test c body node)))) Normal) l

-- ---- marks

pub record IsSafeCode (blocks : Blocks) (marks : List Mark) : Type 0 where
  pub ordered : IsOrdered blocks
  pub regular : IsRegular blocks
  pub safe : (entry : ℕ) → IsLevelSafe blocks entry
  pub calm : AllCalm marks → IsUndivided blocks

-- code that fits its marks is ordered, regular and level-safe, and where no mark is divided it is undivided
abbrev pub MarksSuffice : Type 0
MarksSuffice = (blocks : Blocks) (marks : List Mark) → CodeFits blocks marks → IsSafeCode blocks marks

-- ---- instructions that name no block

-- a target that is not Uniform leaves the shared words; a Uniform target leaves the own words, and neither what it does to the shared words nor whether it goes on depends on the own words
pub record KeepsApart (x : Instr) : Type 0 where
  pub shared : writes_uniform x ≡ false → (ws : Words) → (effect x ws).shared ≡ ws.shared
  pub own : writes_uniform x ≡ true → (ws : Words) → (effect x ws).own ≡ ws.own
  pub blind : writes_uniform x ≡ true → reads_uniform x ≡ true → (a b shared : List ℤ) → (effect x (record { own = a; shared = shared })).shared ≡ (effect x (record { own = b; shared = shared })).shared
  pub alike : writes_uniform x ≡ true → reads_uniform x ≡ true → (a b shared : List ℤ) → goes_on x (record { own = a; shared = shared }) ≡ goes_on x (record { own = b; shared = shared })

abbrev pub InstructionsKeepApart : Type 0
InstructionsKeepApart = (x : Instr) → KeepsApart x

-- ---- valid code

-- what is behind the code's slots stays, and there are as many words as before
pub record StaysBehind (n : Numbers) (before after : Words) : Type 0 where
  pub own : (k : ℕ) → n.varying ≤ k → get_or after.own k (pos 0) ≡ get_or before.own k (pos 0)
  pub shared : (k : ℕ) → n.uniform ≤ k → get_or after.shared k (pos 0) ≡ get_or before.shared k (pos 0)
  pub own_count : length after.own ≡ length before.own
  pub shared_count : length after.shared ≡ length before.shared

abbrev pub SlotsBehindStay : Type 0
SlotsBehindStay = (n : Numbers) (blocks : Blocks) (depth k : ℕ) → valid_blocks n 0 blocks ≡ true → (l : Lane) → StaysBehind n (words_of l) (words_of (lane_of (run_block blocks depth k l)))

-- a Library of valid code has one size from 1 to 65,536 for each open size of its row, a table within the limit, and an argument for each input
pub record LibraryFits (id : LibraryId) (sizes : List ℕ) (args : List Slot) : Type 0 where
  pub counted : length sizes ≡ sum_by (λ p. open_sizes p.shape) (row id).params
  pub sizes_stand : All (λ n. (1 ≤ n) × (n ≤ ARRAY_SIZE)) sizes
  pub table : sum_by (table_words sizes) (row id).params ≤ SCALARS
  pub arguments : length args ≡ length (inputs (row id))

-- valid blocks are ordered and regular, each instruction in them is sound, and each Library fits its row
pub record IsValid (n : Numbers) (blocks : Blocks) : Type 0 where
  pub ordered : IsOrdered blocks
  pub regular : IsRegular blocks
  pub sound : (k p : ℕ) (x : Instr) → Stands blocks k p x → is_sound n x ≡ true
  pub library : (k p : ℕ) (id : LibraryId) (sizes : List ℕ) (dst : Slot) (args : List Slot) (node : Node) → Stands blocks k p (Library id sizes dst args node) → LibraryFits id sizes args

abbrev pub ValidBlocksStand : Type 0
ValidBlocksStand = (n : Numbers) (blocks : Blocks) → valid_blocks n 0 blocks ≡ true → IsValid n blocks
