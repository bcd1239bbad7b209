-- Marks of blocks, from which it is seen place by place that code is level-safe.
use Rattle.std.specs.Prelude.{◌≡◌, ℕ, ◌<◌, List, [], ◌∷◌, Bool, true, false, not, ◌||◌, Some, slice_get, get_or, length}
use Rattle.lane_code.specs.declared.mark.Mark.{Mark}
use Rattle.lane_code.specs.declared.instr.Instr.{Instr}
use Rattle.lane_code.specs.declared.instr.Instr.TheVariants.{If, Loop, Frame, Leave}
use Rattle.lane_code.specs.Slots.{is_uniform}
use Rattle.lane_code.specs.Instructions.{Blocks, writes_uniform, reads_uniform}

-- block j is below n, is marked divided where d is, and where it is marked as leaving, o counts that
pub record Marked (n : ℕ) (marks : List Mark) (j : ℕ) (d o : Bool) : Type 0 where
  pub low : j < n
  pub mark : Mark
  pub at : slice_get marks j ≡ Some mark
  pub apart : d ≡ true → mark.divided ≡ true
  pub gone : mark.leaves ≡ true → o ≡ true

-- where d, the target is not Uniform; and a Uniform target has Uniform operands
abbrev pub Quiet : Bool → Instr → Type 0
Quiet d x = (d ≡ true → writes_uniform x ≡ false) × (writes_uniform x ≡ true → reads_uniform x ≡ true)

-- an instruction of block n, at a divided position where d is; a divided Leave that it holds is counted in o
abbrev pub Fits : ℕ → List Mark → Bool → Bool → Instr → Type 0
Fits n marks d o (If c one other) = Marked n marks one (d || not (is_uniform c)) o × Marked n marks other (d || not (is_uniform c)) o
Fits n marks d o (Loop test c body node) = (e : Bool) × ((d || not (is_uniform c)) ≡ true → e ≡ true) × (o ≡ true → e ≡ true) × Marked n marks test e o × Marked n marks body e o
Fits n marks d o (Frame block) = Marked n marks block d true
Fits n marks d o Leave = d ≡ true → o ≡ true
Fits n marks d o x = Quiet d x

-- instructions of block n, the first at a divided position where d is; their divided Leaves are counted in out
abbrev pub AllFit : ℕ → List Mark → Bool → Bool → List Instr → Type 0
AllFit n marks d out [] = Unit {0}
AllFit n marks d out (x ∷ xs) = (o : Bool) × Fits n marks d o x × (o ≡ true → out ≡ true) × AllFit n marks (d || o) out xs

-- each block has a mark, and fits it
pub record CodeFits (blocks : Blocks) (marks : List Mark) : Type 0 where
  pub count : length marks ≡ length blocks
  pub each : (k : ℕ) (m : Mark) → slice_get marks k ≡ Some m → AllFit k marks m.divided m.leaves (get_or blocks k [])

-- no block is marked divided
abbrev pub AllCalm : List Mark → Type 0
AllCalm marks = (k : ℕ) (m : Mark) → slice_get marks k ≡ Some m → m.divided ≡ false
