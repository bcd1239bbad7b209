-- What code means for one lane.
use Rattle.std.specs.Prelude.{ℕ, zero, suc, ◌+◌, ◌-◌, List, [], ◌∷◌, ◌==◌, get_or, if◌then◌else◌}
use Rattle.ctl_base.specs.declared.kind.TrapKind.{TrapKind}
use Rattle.ctl_base.specs.declared.kind.TrapKind.TheVariants.{Turns}
use Rattle.ctl_base.specs.declared.kind.Node.{Node}
use Rattle.fix_num.specs.Whole.{truth}
use Rattle.lane_code.specs.declared.lane.Lane.{Lane}
use Rattle.lane_code.specs.declared.instr.Slot.{Slot}
use Rattle.lane_code.specs.declared.instr.Instr.{Instr}
use Rattle.lane_code.specs.declared.instr.Instr.TheVariants.{Set, Copy, Do1, Do2, Convert, Bound, Gather, Scatter, Library, If, Loop, Frame, Leave}
use Rattle.lane_code.specs.Slots.{Words, word_in}
use Rattle.lane_code.specs.Instructions.{Blocks, goes_on, effect, cost_of, trap_kind, trap_node}

-- how a run ends: on its way, by a Leave, or by a trap
pub data Done : Type 0 where
  Normal : Lane → Done
  Left : Lane → Done
  Trapped : TrapKind → Node → Lane → Done

-- what a piece of code does to a lane
abbrev pub LaneRun : Type 0
LaneRun = Lane → Done

-- the next part runs where the first ended on its way
abbrev pub and_then : Done → LaneRun → Done
and_then (Normal l) next = next l
and_then (Left l) next = Left l
and_then (Trapped kind node l) next = Trapped kind node l

abbrev pub lseq : LaneRun → LaneRun → LaneRun
lseq f g l = and_then (f l) g

abbrev pub words_of : Lane → Words
words_of l = record { own = l.words; shared = l.uniform }

abbrev pub pay : ℕ → Lane → Lane
pay n l = record { words = l.words; uniform = l.uniform; turns = l.turns; cost = l.cost + n }

abbrev pub with_words : Words → Lane → Lane
with_words ws l = record { words = ws.own; uniform = ws.shared; turns = l.turns; cost = l.cost }

-- an instruction that names no block
abbrev pub simple : Instr → LaneRun
simple x l = if goes_on x (words_of l) then Normal (with_words (effect x (words_of l)) (pay (cost_of x) l)) else Trapped (trap_kind x) (trap_node x) (pay (cost_of x) l)

-- a look at a word costs one, and then the one or the other runs
abbrev pub choose : Slot → LaneRun → LaneRun → LaneRun
choose c one other l = if truth (word_in (words_of l) c) then one (pay 1 l) else other (pay 1 l)

-- a turn is taken, or none is left
abbrev pub turn : Node → LaneRun
turn node l = if l.turns == 0 then Trapped Turns node l else Normal (record { words = l.words; uniform = l.uniform; turns = l.turns - 1; cost = l.cost })

-- at most so many rounds: one more than there are turns left never runs short
abbrev pub looped : ℕ → LaneRun → Slot → LaneRun → Node → LaneRun
looped zero test c body node = Normal
looped (suc rounds) test c body node = lseq test (choose c (lseq (turn node) (lseq body (looped rounds test c body node))) Normal)

-- a Leave ends here
abbrev pub framed : Done → Done
framed (Normal l) = Normal l
framed (Left l) = Normal l
framed (Trapped kind node l) = Trapped kind node l

-- one instruction, by the runs of the blocks
abbrev pub act : (ℕ → LaneRun) → Instr → LaneRun
act blocks (If c one other) l = choose c (blocks one) (blocks other) l
act blocks (Loop test c body node) l = looped (suc l.turns) (blocks test) c (blocks body) node l
act blocks (Frame block) l = framed (blocks block l)
act blocks Leave l = Left l
act blocks (Set dst word) l = simple (Set dst word) l
act blocks (Copy dst src count) l = simple (Copy dst src count) l
act blocks (Do1 op kind dst a) l = simple (Do1 op kind dst a) l
act blocks (Do2 op kind dst a b) l = simple (Do2 op kind dst a b) l
act blocks (Convert from to dst a) l = simple (Convert from to dst a) l
act blocks (Bound index size node) l = simple (Bound index size node) l
act blocks (Gather dst base span at count node) l = simple (Gather dst base span at count node) l
act blocks (Scatter base span at count src node) l = simple (Scatter base span at count src node) l
act blocks (Library id sizes dst args node) l = simple (Library id sizes dst args node) l

abbrev pub run_list : (ℕ → LaneRun) → List Instr → LaneRun
run_list blocks [] = Normal
run_list blocks (x ∷ xs) = lseq (act blocks x) (run_list blocks xs)

-- a block, where blocks are named at most so deep
abbrev pub run_block : Blocks → ℕ → ℕ → LaneRun
run_block code zero k = Normal
run_block code (suc depth) k = run_list (run_block code depth) (get_or code k [])

-- a block whose instructions name only blocks of smaller numbers: no chain of names is longer than its number
abbrev pub meaning : Blocks → ℕ → LaneRun
meaning code k = run_block code (suc k) k

-- a whole run: a Leave outside every Frame ends the entry block
abbrev pub whole_run : Blocks → ℕ → LaneRun
whole_run code entry l = framed (meaning code entry l)
