-- Divided positions, where lanes may have gone different ways, and code that is safe for many lanes.
use Rattle.std.specs.Prelude.{◌≡◌, ℕ, ◌<◌, [], true, false, ◌⊎◌, Some, slice_get, get_or}
use Rattle.lane_code.specs.declared.instr.Instr.{Instr}
use Rattle.lane_code.specs.declared.instr.Instr.TheVariants.{If, Loop, Frame, Leave}
use Rattle.lane_code.specs.Slots.{is_uniform}
use Rattle.lane_code.specs.Instructions.{Blocks, writes_uniform, reads_uniform}

-- this instruction stands at place p of block k
abbrev pub Stands : Blocks → ℕ → ℕ → Instr → Type 0
Stands code k p x = slice_get (get_or code k []) p ≡ Some x

-- the blocks that an If or a Loop names
abbrev pub NamesInner : Instr → ℕ → Type 0
NamesInner (If c one other) j = (j ≡ one) ⊎ (j ≡ other)
NamesInner (Loop test c body node) j = (j ≡ test) ⊎ (j ≡ body)
NamesInner x j = ⊥

-- the blocks that an If or a Loop with a Varying word names
abbrev pub Splits : Instr → ℕ → Type 0
Splits (If c one other) j = (is_uniform c ≡ false) × ((j ≡ one) ⊎ (j ≡ other))
Splits (Loop test c body node) j = (is_uniform c ≡ false) × ((j ≡ test) ⊎ (j ≡ body))
Splits x j = ⊥

-- the test and the body of a Loop
abbrev pub Rounds : Instr → ℕ → Type 0
Rounds (Loop test c body node) j = (j ≡ test) ⊎ (j ≡ body)
Rounds x j = ⊥

-- the blocks inside a block, up to the next Frames
pub data Reaches (code : Blocks) : ℕ → ℕ → Type 0 where
  here : {k : ℕ} → Reaches code k k
  there : {k l : ℕ} (p j : ℕ) (x : Instr) → Stands code k p x → NamesInner x j → Reaches code j l → Reaches code k l

-- the instruction at place p of block k holds the Leave at place lp of block lk, of the same Frame
abbrev pub HoldsLeave : Blocks → ℕ → ℕ → Instr → ℕ → ℕ → Type 0
HoldsLeave code k p x lk lp = Stands code lk lp Leave × (((x ≡ Leave) × (lk ≡ k) × (lp ≡ p)) ⊎ ((j : ℕ) × (NamesInner x j × Reaches code j lk)))

-- the block of a Frame; the entry counts as one
abbrev pub IsFrame : Blocks → ℕ → ℕ → Type 0
IsFrame code entry f = (f ≡ entry) ⊎ ((k : ℕ) × ((p : ℕ) × Stands code k p (Frame f)))

-- the blocks that an instruction names
abbrev pub Names : Instr → ℕ → Type 0
Names x j = NamesInner x j ⊎ (x ≡ Frame j)

-- position q of a block is divided
pub data Divided (code : Blocks) (entry : ℕ) : ℕ → ℕ → Type 0 where
  -- it lies in a block that an If with a Varying word names, or in the test or body of such a Loop
  by_cond : {j q : ℕ} (k p : ℕ) (x : Instr) → Stands code k p x → Splits x j → Divided code entry j q
  -- it comes after an instruction that holds a divided Leave of its Frame
  by_leave : {k q : ℕ} (f p lk lp : ℕ) (x : Instr) → IsFrame code entry f → Reaches code f k → Stands code k p x → HoldsLeave code k p x lk lp → Divided code entry lk lp → p < q → Divided code entry k q
  -- it lies in the test or body of a Loop that holds a divided Leave of its Frame
  by_round : {j q : ℕ} (f k p lk lp : ℕ) (x : Instr) → IsFrame code entry f → Reaches code f k → Stands code k p x → Rounds x j → HoldsLeave code k p x lk lp → Divided code entry lk lp → Divided code entry j q
  -- it lies in a block that is named from a divided position
  by_name : {j q : ℕ} (k p : ℕ) (x : Instr) → Stands code k p x → Names x j → Divided code entry k p → Divided code entry j q

-- no instruction at a divided position has a Uniform target
abbrev pub IsLevelSafe : Blocks → ℕ → Type 0
IsLevelSafe code entry = (k p : ℕ) (x : Instr) → Stands code k p x → Divided code entry k p → writes_uniform x ≡ false

-- an instruction with a Uniform target has Uniform operands
abbrev pub IsRegular : Blocks → Type 0
IsRegular code = (k p : ℕ) (x : Instr) → Stands code k p x → writes_uniform x ≡ true → reads_uniform x ≡ true

-- the word that an If or a Loop looks at is Uniform
abbrev pub UniformCond : Instr → Type 0
UniformCond (If c one other) = is_uniform c ≡ true
UniformCond (Loop test c body node) = is_uniform c ≡ true
UniformCond x = Unit {0}

abbrev pub IsUndivided : Blocks → Type 0
IsUndivided code = (k p : ℕ) (x : Instr) → Stands code k p x → UniformCond x
