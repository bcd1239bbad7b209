-- Which code is valid.
use Rattle.std.specs.Prelude.{ℕ, suc, ◌+◌, Bool, true, not, ◌&&◌, ◌||◌, ◌==◌, nat_lt, nat_le, List, [], ◌∷◌, length, sum_by}
use Rattle.std.specs.List.{list_all}
use Rattle.ctl_base.specs.declared.limits.TheConstants.{ARRAY_SIZE, SCALARS}
use Rattle.ctl_stdlib.specs.declared.row.Param.{Param}
use Rattle.ctl_stdlib.specs.Rows.{Row, row}
use Rattle.ctl_stdlib.specs.Shapes.{open_sizes, table_words, input_words, filled_words}
use Rattle.lane_code.specs.declared.instr.Slot.{Slot}
use Rattle.lane_code.specs.declared.instr.Slot.TheVariants.{Varying, Uniform}
use Rattle.lane_code.specs.declared.instr.Instr.{Instr}
use Rattle.lane_code.specs.declared.instr.Instr.TheVariants.{Set, Copy, Do1, Do2, Convert, Bound, Gather, Scatter, Library, If, Loop, Frame, Leave}
use Rattle.lane_code.specs.declared.valid.Numbers.{Numbers}
use Rattle.lane_code.specs.Kinds.{works_alone, works_on_two}
use Rattle.lane_code.specs.Instructions.{Blocks, inputs, writes_uniform, reads_uniform}

-- there are count slots from this one on
abbrev pub is_inside : Numbers → Slot → ℕ → Bool
is_inside n (Varying k) count = nat_le (k + count) n.varying
is_inside n (Uniform k) count = nat_le (k + count) n.uniform

-- the words of a parameter that is no output
abbrev pub argument_words : List ℕ → Param → ℕ
argument_words sizes p = table_words sizes p + input_words p

-- each argument has all its slots
abbrev pub arguments_inside : Numbers → List ℕ → List Param → List Slot → Bool
arguments_inside n sizes (p ∷ params) (s ∷ slots) = is_inside n s (argument_words sizes p) && arguments_inside n sizes params slots
arguments_inside n sizes params slots = true

-- all slots are there
abbrev pub slots_inside : Numbers → Instr → Bool
slots_inside n (Set dst word) = is_inside n dst 1
slots_inside n (Copy dst src count) = is_inside n dst count && is_inside n src count
slots_inside n (Do1 op kind dst a) = is_inside n dst 1 && is_inside n a 1
slots_inside n (Do2 op kind dst a b) = is_inside n dst 1 && is_inside n a 1 && is_inside n b 1
slots_inside n (Convert from to dst a) = is_inside n dst 1 && is_inside n a 1
slots_inside n (Bound index size node) = is_inside n index 1
slots_inside n (Gather dst base span at count node) = is_inside n dst count && is_inside n base span && is_inside n at 1
slots_inside n (Scatter base span at count src node) = is_inside n base span && is_inside n at 1 && is_inside n src count
slots_inside n (Library id sizes dst args node) = is_inside n dst (filled_words (row id)) && arguments_inside n sizes (inputs (row id)) args
slots_inside n (If c one other) = is_inside n c 1
slots_inside n (Loop test c body node) = is_inside n c 1
slots_inside n (Frame block) = true
slots_inside n Leave = true

-- an operation works in its kind
abbrev pub works : Instr → Bool
works (Do1 op kind dst a) = works_alone op kind
works (Do2 op kind dst a b) = works_on_two op kind
works x = true

abbrev pub is_size : ℕ → Bool
is_size n = nat_le 1 n && nat_le n ARRAY_SIZE

-- one size for each open size of the row, a table within the limit of scalars, and one argument for each input
abbrev pub fits_row : Row → List ℕ → List Slot → Bool
fits_row r sizes args = (length sizes == sum_by (λ p. open_sizes p.shape) r.params) && list_all (λ n. is_size n) sizes && nat_le (sum_by (table_words sizes) r.params) SCALARS && (length args == length (inputs r))

abbrev pub fits_library : Instr → Bool
fits_library (Library id sizes dst args node) = fits_row (row id) sizes args
fits_library x = true

-- what an instruction has to be by itself
abbrev pub is_sound : Numbers → Instr → Bool
is_sound n x = fits_library x && slots_inside n x && (not (writes_uniform x) || reads_uniform x) && works x

-- the blocks that it names have smaller numbers than its own block k
abbrev pub names_below : ℕ → Instr → Bool
names_below k (If c one other) = nat_lt one k && nat_lt other k
names_below k (Loop test c body node) = nat_lt test k && nat_lt body k
names_below k (Frame block) = nat_lt block k
names_below k x = true

abbrev pub valid_block : Numbers → ℕ → List Instr → Bool
valid_block n k xs = list_all (λ x. names_below k x && is_sound n x) xs

-- the blocks from number k on
abbrev pub valid_blocks : Numbers → ℕ → Blocks → Bool
valid_blocks n k [] = true
valid_blocks n k (b ∷ blocks) = valid_block n k b && valid_blocks n (suc k) blocks

-- the slots of inputs and outputs are there, and the entry is a block
abbrev pub is_valid : Numbers → Blocks → ℕ → List Slot → List Slot → Bool
is_valid n blocks entry ins outs = nat_lt entry (length blocks) && valid_blocks n 0 blocks && list_all (λ s. is_inside n s 1) ins && list_all (λ s. is_inside n s 1) outs
