-- An instruction that names no block: whether it goes on, what it then does to the words, and what it costs.
use Rattle.std.specs.Prelude.{ℕ, ℤ, pos, ◌+ℤ◌, int_le, int_lt, unsigned_abs, Bool, true, false, not, ◌&&◌, List, [], ◌∷◌, ◌++◌}
use Rattle.std.specs.List.{filter, list_all}
use Rattle.ctl_base.specs.declared.kind.TrapKind.{TrapKind}
use Rattle.ctl_base.specs.declared.kind.TrapKind.TheVariants.{Index, Assert}
use Rattle.ctl_base.specs.declared.kind.Node.{Node}
use Rattle.fix_num.specs.declared.TheConstants.{FRACTION}
use Rattle.ctl_stdlib.specs.declared.row.Param.{Param}
use Rattle.ctl_stdlib.specs.Rows.{Row, row}
use Rattle.ctl_stdlib.specs.Shapes.{table_words, input_words}
use Rattle.lane_code.specs.declared.instr.Slot.{Slot}
use Rattle.lane_code.specs.declared.instr.Instr.{Instr}
use Rattle.lane_code.specs.declared.instr.Instr.TheVariants.{Set, Copy, Do1, Do2, Convert, Bound, Gather, Scatter, Library, If, Loop, Frame, Leave}
use Rattle.lane_code.specs.Kinds.{as_kind, of_one, of_two, converted}
use Rattle.lane_code.specs.Slots.{Words, is_uniform, shifted, word_in, words_from, put, put_all, moved}

-- the blocks of code, each a list of instructions
abbrev pub Blocks : Type 0
Blocks = List (List Instr)

-- ---- the arguments of a function of the library

-- the parameters that are no outputs, in their order
abbrev pub inputs : Row → List Param
inputs r = filter (λ p. not p.is_output) r.params

-- the words of arguments, of which each parameter counts so many, from the first slots of the arguments
abbrev pub given : Words → (Param → ℕ) → List Param → List Slot → List ℤ
given ws count [] slots = []
given ws count (p ∷ params) [] = []
given ws count (p ∷ params) (s ∷ slots) = words_from ws s (count p) ++ given ws count params slots

-- the words of the table, and those of the other arguments
abbrev pub table_of : Words → Row → List ℕ → List Slot → List ℤ
table_of ws r sizes args = given ws (table_words sizes) (inputs r) args

abbrev pub rest_of : Words → Row → List Slot → List ℤ
rest_of ws r args = given ws input_words (inputs r) args

-- ---- instructions

-- an index is from 0 to below the size
abbrev pub is_index : ℤ → ℕ → Bool
is_index o size = int_le (pos 0) o && int_lt o (pos size)

-- count slots from o on are among the first `span`
abbrev pub has_room : ℤ → ℕ → ℕ → Bool
has_room o count span = int_le (pos 0) o && int_le (o +ℤ pos count) (pos span)

-- the slot that is as far behind the first one as the word of another says
abbrev pub behind : Words → Slot → Slot → Slot
behind ws base at = shifted base (unsigned_abs (word_in ws at))

-- whether the instruction goes on; else it traps
abbrev pub goes_on : Instr → Words → Bool
goes_on (Bound index size node) ws = is_index (word_in ws index) size
goes_on (Gather dst base span at count node) ws = has_room (word_in ws at) count span
goes_on (Scatter base span at count src node) ws = has_room (word_in ws at) count span
goes_on (Library id sizes dst args node) ws = (row id).answer (rest_of ws (row id) args)
goes_on (Set dst word) ws = true
goes_on (Copy dst src count) ws = true
goes_on (Do1 op kind dst a) ws = true
goes_on (Do2 op kind dst a b) ws = true
goes_on (Convert from to dst a) ws = true
goes_on (If c one other) ws = true
goes_on (Loop test c body node) ws = true
goes_on (Frame block) ws = true
goes_on Leave ws = true

-- what it does to the words where it goes on. The word of `at` is read before the first move, and a function of the library reads all its arguments before its results are set.
abbrev pub effect : Instr → Words → Words
effect (Set dst word) ws = put dst word ws
effect (Copy dst src count) ws = moved count dst src ws
effect (Do1 op kind dst a) ws = put dst (of_one FRACTION op kind (as_kind FRACTION kind (word_in ws a))) ws
effect (Do2 op kind dst a b) ws = put dst (of_two FRACTION op kind (as_kind FRACTION kind (word_in ws a)) (as_kind FRACTION kind (word_in ws b))) ws
effect (Convert from to dst a) ws = put dst (converted FRACTION from to (as_kind FRACTION from (word_in ws a))) ws
effect (Bound index size node) ws = ws
effect (Gather dst base span at count node) ws = moved count dst (behind ws base at) ws
effect (Scatter base span at count src node) ws = moved count (behind ws base at) src ws
effect (Library id sizes dst args node) ws = put_all dst ((row id).value FRACTION sizes (table_of ws (row id) sizes args) (rest_of ws (row id) args)) ws
effect (If c one other) ws = ws
effect (Loop test c body node) ws = ws
effect (Frame block) ws = ws
effect Leave ws = ws

-- what it costs, whether it goes on or traps
abbrev pub cost_of : Instr → ℕ
cost_of (Copy dst src count) = count
cost_of (Gather dst base span at count node) = count
cost_of (Scatter base span at count src node) = count
cost_of (Set dst word) = 1
cost_of (Do1 op kind dst a) = 1
cost_of (Do2 op kind dst a b) = 1
cost_of (Convert from to dst a) = 1
cost_of (Bound index size node) = 1
cost_of (Library id sizes dst args node) = 1
cost_of (If c one other) = 0
cost_of (Loop test c body node) = 0
cost_of (Frame block) = 0
cost_of Leave = 0

-- the trap where it does not go on
abbrev pub trap_kind : Instr → TrapKind
trap_kind (Library id sizes dst args node) = Assert
trap_kind (Set dst word) = Index
trap_kind (Copy dst src count) = Index
trap_kind (Do1 op kind dst a) = Index
trap_kind (Do2 op kind dst a b) = Index
trap_kind (Convert from to dst a) = Index
trap_kind (Bound index size node) = Index
trap_kind (Gather dst base span at count node) = Index
trap_kind (Scatter base span at count src node) = Index
trap_kind (If c one other) = Index
trap_kind (Loop test c body node) = Index
trap_kind (Frame block) = Index
trap_kind Leave = Index

-- the node of an instruction that never traps, which stands for nothing
abbrev pub nowhere : Node
nowhere = record { «module» = 0; token = 0 }

-- the node of the trap
abbrev pub trap_node : Instr → Node
trap_node (Bound index size node) = node
trap_node (Gather dst base span at count node) = node
trap_node (Scatter base span at count src node) = node
trap_node (Library id sizes dst args node) = node
trap_node (Loop test c body node) = node
trap_node (Set dst word) = nowhere
trap_node (Copy dst src count) = nowhere
trap_node (Do1 op kind dst a) = nowhere
trap_node (Do2 op kind dst a b) = nowhere
trap_node (Convert from to dst a) = nowhere
trap_node (If c one other) = nowhere
trap_node (Frame block) = nowhere
trap_node Leave = nowhere

-- whether its target is Uniform; an instruction without a target has none that is
abbrev pub writes_uniform : Instr → Bool
writes_uniform (Set dst word) = is_uniform dst
writes_uniform (Copy dst src count) = is_uniform dst
writes_uniform (Do1 op kind dst a) = is_uniform dst
writes_uniform (Do2 op kind dst a b) = is_uniform dst
writes_uniform (Convert from to dst a) = is_uniform dst
writes_uniform (Bound index size node) = false
writes_uniform (Gather dst base span at count node) = is_uniform dst
writes_uniform (Scatter base span at count src node) = is_uniform base
writes_uniform (Library id sizes dst args node) = is_uniform dst
writes_uniform (If c one other) = false
writes_uniform (Loop test c body node) = false
writes_uniform (Frame block) = false
writes_uniform Leave = false

-- whether all its operands are Uniform
abbrev pub reads_uniform : Instr → Bool
reads_uniform (Set dst word) = true
reads_uniform (Copy dst src count) = is_uniform src
reads_uniform (Do1 op kind dst a) = is_uniform a
reads_uniform (Do2 op kind dst a b) = is_uniform a && is_uniform b
reads_uniform (Convert from to dst a) = is_uniform a
reads_uniform (Bound index size node) = is_uniform index
reads_uniform (Gather dst base span at count node) = is_uniform base && is_uniform at
reads_uniform (Scatter base span at count src node) = is_uniform at && is_uniform src
reads_uniform (Library id sizes dst args node) = list_all (λ s. is_uniform s) args
reads_uniform (If c one other) = is_uniform c
reads_uniform (Loop test c body node) = is_uniform c
reads_uniform (Frame block) = true
reads_uniform Leave = true
