-- A cost that stops at 2^64 - 1 stands for the cost: a run from the one shows what a run from the other does.
use Rattle.std.proofs.Common.{◌≡◌, ℕ, zero, suc, ◌+◌, ◌-◌, ◌^◌, min, List, [], ◌∷◌, Bool, true, false, ◌==◌, if◌then◌else◌, get_or, refl, sym, ap, ◌∙◌, arith}
use Rattle.ctl_base.specs.declared.kind.Node.{Node}
use Rattle.ctl_base.specs.declared.kind.TrapKind.TheVariants.{Turns}
use Rattle.fix_num.specs.Whole.{truth}
use Rattle.lane_code.specs.declared.lane.Lane.{Lane}
use Rattle.lane_code.specs.declared.instr.Slot.{Slot}
use Rattle.lane_code.specs.declared.instr.Instr.{Instr}
use Rattle.lane_code.specs.declared.instr.Instr.TheVariants.{Set, Copy, Do1, Do2, Convert, Bound, Gather, Scatter, Library, If, Loop, Frame, Leave}
use Rattle.lane_code.specs.Slots.{word_in}
use Rattle.lane_code.specs.Instructions.{Blocks, goes_on, effect, cost_of, trap_kind, trap_node}
use Rattle.lane_code.specs.LaneMeaning.{Done, Normal, Left, Trapped, LaneRun, and_then, lseq, words_of, pay, with_words, simple, choose, turn, looped, framed, act, run_list, run_block}
use Rattle.lane_code.specs.Running.{counted, counted_done}

-- the run shows the same from the counted cost
abbrev pub Shows : LaneRun → Type 0
Shows f = (l : Lane) → counted_done (f (counted l)) ≡ counted_done (f l)

with_cost : Lane → ℕ → Lane
with_cost l m = record { words = l.words; uniform = l.uniform; turns = l.turns; cost = m }

twice : (l : Lane) → counted (counted l) ≡ counted l
twice l = ap (λ (m : ℕ). record { words = l.words; uniform = l.uniform; turns = l.turns; cost = m }) (let e : min (min l.cost (2 ^ 64 - 1)) (2 ^ 64 - 1) ≡ min l.cost (2 ^ 64 - 1) = omega arith in e)

pub pay_counted : (n : ℕ) (l : Lane) → counted (pay n (counted l)) ≡ counted (pay n l)
pay_counted n l = ap (λ (m : ℕ). record { words = l.words; uniform = l.uniform; turns = l.turns; cost = m }) (let e : min (min l.cost (2 ^ 64 - 1) + n) (2 ^ 64 - 1) ≡ min (l.cost + n) (2 ^ 64 - 1) = omega arith in e)

pub done_twice : (d : Done) → counted_done (counted_done d) ≡ counted_done d
done_twice (Normal l) = ap Normal (twice l)
done_twice (Left l) = ap Left (twice l)
done_twice (Trapped kind node l) = ap (λ (m : Lane). Trapped kind node m) (twice l)

-- what follows shows the same after a counted end
pub after_counted : (d : Done) (g : LaneRun) → Shows g → counted_done (and_then (counted_done d) g) ≡ counted_done (and_then d g)
after_counted (Normal l) g s = s l
after_counted (Left l) g s = ap Left (twice l)
after_counted (Trapped kind node l) g s = ap (λ (m : Lane). Trapped kind node m) (twice l)

pub normal_shows : Shows Normal
normal_shows l = ap Normal (twice l)

pub lseq_shows : (f g : LaneRun) → Shows f → Shows g → Shows (lseq f g)
lseq_shows f g sf sg l = sym (after_counted (f (counted l)) g sg) ∙ ap (λ (d : Done). counted_done (and_then d g)) (sf l) ∙ after_counted (f l) g sg

-- a run after a payment
pub paid_shows : (f : LaneRun) → Shows f → (l : Lane) → counted_done (f (pay 1 (counted l))) ≡ counted_done (f (pay 1 l))
paid_shows f s l = sym (s (pay 1 (counted l))) ∙ ap (λ (m : Lane). counted_done (f m)) (pay_counted 1 l) ∙ s (pay 1 l)

pick_shows : (b : Bool) (x x' y y' : Done) → counted_done x ≡ counted_done x' → counted_done y ≡ counted_done y' → counted_done (if b then x else y) ≡ counted_done (if b then x' else y')
pick_shows true x x' y y' hx hy = hx
pick_shows false x x' y y' hx hy = hy

pub choose_shows : (c : Slot) (one other : LaneRun) → Shows one → Shows other → Shows (choose c one other)
choose_shows c one other s1 s2 l = pick_shows (truth (word_in (words_of l) c)) (one (pay 1 (counted l))) (one (pay 1 l)) (other (pay 1 (counted l))) (other (pay 1 l)) (paid_shows one s1 l) (paid_shows other s2 l)

taken : Lane → Lane
taken l = record { words = l.words; uniform = l.uniform; turns = l.turns - 1; cost = l.cost }

pub turn_shows : (node : Node) → Shows (turn node)
turn_shows node l = pick_shows (l.turns == 0) (Trapped Turns node (counted l)) (Trapped Turns node l) (Normal (record { words = l.words; uniform = l.uniform; turns = l.turns - 1; cost = min l.cost (2 ^ 64 - 1) })) (Normal (record { words = l.words; uniform = l.uniform; turns = l.turns - 1; cost = l.cost })) (ap (λ (m : Lane). Trapped Turns node m) (twice l)) (ap Normal (twice (record { words = l.words; uniform = l.uniform; turns = l.turns - 1; cost = l.cost })))

loop_shows : (rounds : ℕ) (test : LaneRun) (c : Slot) (body : LaneRun) (node : Node) → Shows test → Shows body → Shows (looped rounds test c body node)
loop_shows zero test c body node st sb = normal_shows
loop_shows (suc rounds) test c body node st sb =
    let again = lseq body (looped rounds test c body node) in
    lseq_shows test (choose c (lseq (turn node) again) Normal) st (choose_shows c (lseq (turn node) again) Normal (lseq_shows (turn node) again (turn_shows node) (lseq_shows body (looped rounds test c body node) sb (loop_shows rounds test c body node st sb))) normal_shows)

pub framed_counted : (d : Done) → counted_done (framed d) ≡ framed (counted_done d)
framed_counted (Normal l) = refl
framed_counted (Left l) = refl
framed_counted (Trapped kind node l) = refl

simple_shows : (x : Instr) → Shows (simple x)
simple_shows x l = pick_shows (goes_on x (words_of l)) (Normal (with_words (effect x (words_of l)) (pay (cost_of x) (counted l)))) (Normal (with_words (effect x (words_of l)) (pay (cost_of x) l))) (Trapped (trap_kind x) (trap_node x) (pay (cost_of x) (counted l))) (Trapped (trap_kind x) (trap_node x) (pay (cost_of x) l))
    (ap (λ (m : Lane). Normal (with_words (effect x (words_of l)) m)) (pay_counted (cost_of x) l))
    (ap (λ (m : Lane). Trapped (trap_kind x) (trap_node x) m) (pay_counted (cost_of x) l))

pub act_shows : (blocks : ℕ → LaneRun) → ((k : ℕ) → Shows (blocks k)) → (x : Instr) → Shows (act blocks x)
act_shows blocks s (If c one other) l = choose_shows c (blocks one) (blocks other) (s one) (s other) l
act_shows blocks s (Loop test c body node) l = loop_shows (suc l.turns) (blocks test) c (blocks body) node (s test) (s body) l
act_shows blocks s (Frame block) l = framed_counted (blocks block (counted l)) ∙ ap framed (s block l) ∙ sym (framed_counted (blocks block l))
act_shows blocks s Leave l = ap Left (twice l)
act_shows blocks s (Set dst word) l = simple_shows (Set dst word) l
act_shows blocks s (Copy dst src count) l = simple_shows (Copy dst src count) l
act_shows blocks s (Do1 op kind dst a) l = simple_shows (Do1 op kind dst a) l
act_shows blocks s (Do2 op kind dst a b) l = simple_shows (Do2 op kind dst a b) l
act_shows blocks s (Convert from to dst a) l = simple_shows (Convert from to dst a) l
act_shows blocks s (Bound index size node) l = simple_shows (Bound index size node) l
act_shows blocks s (Gather dst base span at count node) l = simple_shows (Gather dst base span at count node) l
act_shows blocks s (Scatter base span at count src node) l = simple_shows (Scatter base span at count src node) l
act_shows blocks s (Library id sizes dst args node) l = simple_shows (Library id sizes dst args node) l

pub list_shows : (blocks : ℕ → LaneRun) → ((k : ℕ) → Shows (blocks k)) → (xs : List Instr) → Shows (run_list blocks xs)
list_shows blocks s [] = normal_shows
list_shows blocks s (x ∷ xs) = lseq_shows (act blocks x) (run_list blocks xs) (act_shows blocks s x) (list_shows blocks s xs)

pub block_shows : (code : Blocks) (depth k : ℕ) → Shows (run_block code depth k)
block_shows code zero k = normal_shows
block_shows code (suc depth) k = list_shows (run_block code depth) (block_shows code depth) (get_or code k [])
