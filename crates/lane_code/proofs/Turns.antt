-- No run gives turns back, so the rounds of a loop never run short.
use Rattle.std.proofs.Common.{◌≡◌, ℕ, zero, suc, ◌-◌, ◌<◌, ◌≤◌, List, [], ◌∷◌, Bool, true, false, ◌==◌, if◌then◌else◌, get_or, refl, sym, ap, ◌∙◌, arith}
use Rattle.std.proofs.lemmas.Bool.{eqb-false}
use Rattle.ctl_base.specs.declared.kind.Node.{Node}
use Rattle.ctl_base.specs.declared.kind.TrapKind.TheVariants.{Turns}
use Rattle.fix_num.specs.Whole.{truth}
use Rattle.lane_code.specs.declared.instr.Slot.{Slot}
use Rattle.lane_code.specs.declared.instr.Instr.{Instr}
use Rattle.lane_code.specs.declared.instr.Instr.TheVariants.{Set, Copy, Do1, Do2, Convert, Bound, Gather, Scatter, Library, If, Loop, Frame, Leave}
use Rattle.lane_code.specs.Slots.{word_in}
use Rattle.lane_code.specs.Instructions.{Blocks, goes_on, effect, cost_of, trap_kind, trap_node}
use Rattle.lane_code.specs.declared.lane.Lane.{Lane}
use Rattle.lane_code.specs.LaneMeaning.{Done, Normal, Left, Trapped, LaneRun, and_then, lseq, words_of, pay, with_words, simple, choose, turn, looped, framed, act, run_list, run_block}
use Rattle.lane_code.specs.Laws.{lane_of, KeepsTurns}

by_test : {P : Type 0} (b : Bool) → (b ≡ true → P) → (b ≡ false → P) → P
by_test true yes' no' = yes' refl
by_test false yes' no' = no' refl

normal_keeps : KeepsTurns Normal
normal_keeps l = omega arith

then_keeps : (d : Done) (g : LaneRun) (t : ℕ) → KeepsTurns g → (lane_of d).turns ≤ t → (lane_of (and_then d g)).turns ≤ t
then_keeps (Normal l) g t kg h = let z = kg l in omega arith
then_keeps (Left l) g t kg h = h
then_keeps (Trapped kind node l) g t kg h = h

lseq_keeps : (f g : LaneRun) → KeepsTurns f → KeepsTurns g → KeepsTurns (lseq f g)
lseq_keeps f g kf kg l = then_keeps (f l) g l.turns kg (kf l)

pick_keeps : (b : Bool) (x y : Done) (t : ℕ) → (lane_of x).turns ≤ t → (lane_of y).turns ≤ t → (lane_of (if b then x else y)).turns ≤ t
pick_keeps true x y t hx hy = hx
pick_keeps false x y t hx hy = hy

choose_keeps : (c : Slot) (one other : LaneRun) → KeepsTurns one → KeepsTurns other → KeepsTurns (choose c one other)
choose_keeps c one other k1 k2 l = pick_keeps (truth (word_in (words_of l) c)) (one (pay 1 l)) (other (pay 1 l)) l.turns (k1 (pay 1 l)) (k2 (pay 1 l))

turn_keeps : (node : Node) → KeepsTurns (turn node)
turn_keeps node l = pick_keeps (l.turns == 0) (Trapped Turns node l) (Normal (record { words = l.words; uniform = l.uniform; turns = l.turns - 1; cost = l.cost })) l.turns (omega arith) (omega arith)

loop_keeps : (rounds : ℕ) (test : LaneRun) (c : Slot) (body : LaneRun) (node : Node) → KeepsTurns test → KeepsTurns body → KeepsTurns (looped rounds test c body node)
loop_keeps zero test c body node kt kb = normal_keeps
loop_keeps (suc rounds) test c body node kt kb =
    lseq_keeps test (choose c (lseq (turn node) (lseq body (looped rounds test c body node))) Normal) kt (choose_keeps c (lseq (turn node) (lseq body (looped rounds test c body node))) Normal (lseq_keeps (turn node) (lseq body (looped rounds test c body node)) (turn_keeps node) (lseq_keeps body (looped rounds test c body node) kb (loop_keeps rounds test c body node kt kb))) normal_keeps)

frame_keeps : (d : Done) (t : ℕ) → (lane_of d).turns ≤ t → (lane_of (framed d)).turns ≤ t
frame_keeps (Normal l) t h = h
frame_keeps (Left l) t h = h
frame_keeps (Trapped kind node l) t h = h

simple_keeps : (x : Instr) → KeepsTurns (simple x)
simple_keeps x l = pick_keeps (goes_on x (words_of l)) (Normal (with_words (effect x (words_of l)) (pay (cost_of x) l))) (Trapped (trap_kind x) (trap_node x) (pay (cost_of x) l)) l.turns (omega arith) (omega arith)

act_keeps : (blocks : ℕ → LaneRun) → ((k : ℕ) → KeepsTurns (blocks k)) → (x : Instr) → KeepsTurns (act blocks x)
act_keeps blocks h (If c one other) l = choose_keeps c (blocks one) (blocks other) (h one) (h other) l
act_keeps blocks h (Loop test c body node) l = loop_keeps (suc l.turns) (blocks test) c (blocks body) node (h test) (h body) l
act_keeps blocks h (Frame block) l = frame_keeps (blocks block l) l.turns (h block l)
act_keeps blocks h Leave l = omega arith
act_keeps blocks h (Set dst word) l = simple_keeps (Set dst word) l
act_keeps blocks h (Copy dst src count) l = simple_keeps (Copy dst src count) l
act_keeps blocks h (Do1 op kind dst a) l = simple_keeps (Do1 op kind dst a) l
act_keeps blocks h (Do2 op kind dst a b) l = simple_keeps (Do2 op kind dst a b) l
act_keeps blocks h (Convert from to dst a) l = simple_keeps (Convert from to dst a) l
act_keeps blocks h (Bound index size node) l = simple_keeps (Bound index size node) l
act_keeps blocks h (Gather dst base span at count node) l = simple_keeps (Gather dst base span at count node) l
act_keeps blocks h (Scatter base span at count src node) l = simple_keeps (Scatter base span at count src node) l
act_keeps blocks h (Library id sizes dst args node) l = simple_keeps (Library id sizes dst args node) l

list_keeps : (blocks : ℕ → LaneRun) → ((k : ℕ) → KeepsTurns (blocks k)) → (xs : List Instr) → KeepsTurns (run_list blocks xs)
list_keeps blocks h [] = normal_keeps
list_keeps blocks h (x ∷ xs) = lseq_keeps (act blocks x) (run_list blocks xs) (act_keeps blocks h x) (list_keeps blocks h xs)

pub turns_never_rise : (code : Blocks) (depth k : ℕ) → KeepsTurns (run_block code depth k)
turns_never_rise code zero k = normal_keeps
turns_never_rise code (suc depth) k = list_keeps (run_block code depth) (turns_never_rise code depth) (get_or code k [])

-- ---- rounds

after_same : (d : Done) (f g : LaneRun) (t : ℕ) → (lane_of d).turns ≤ t → ((l : Lane) → l.turns ≤ t → f l ≡ g l) → and_then d f ≡ and_then d g
after_same (Normal l) f g t h e = e l h
after_same (Left l) f g t h e = refl
after_same (Trapped kind node l) f g t h e = refl

pick_same : (b : Bool) (x x' y : Done) → (b ≡ true → x ≡ x') → (if b then x else y) ≡ (if b then x' else y)
pick_same true x x' y h = h refl
pick_same false x x' y h = refl

-- a turn that is taken leaves one less
turn_same : (node : Node) (l : Lane) (f g : LaneRun) → ((m : Lane) → m.turns < l.turns → f m ≡ g m) → and_then (turn node l) f ≡ and_then (turn node l) g
turn_same node l f g e = by_test (l.turns == 0)
    (λ z. ap (λ (b : Bool). and_then (if b then Trapped Turns node l else Normal (record { words = l.words; uniform = l.uniform; turns = l.turns - 1; cost = l.cost })) f) z ∙ sym (ap (λ (b : Bool). and_then (if b then Trapped Turns node l else Normal (record { words = l.words; uniform = l.uniform; turns = l.turns - 1; cost = l.cost })) g) z))
    (λ z. ap (λ (b : Bool). and_then (if b then Trapped Turns node l else Normal (record { words = l.words; uniform = l.uniform; turns = l.turns - 1; cost = l.cost })) f) z ∙ (e (record { words = l.words; uniform = l.uniform; turns = l.turns - 1; cost = l.cost }) (omega (arith, eqb-false l.turns 0 z)) ∙ sym (ap (λ (b : Bool). and_then (if b then Trapped Turns node l else Normal (record { words = l.words; uniform = l.uniform; turns = l.turns - 1; cost = l.cost })) g) z)))

-- more rounds than turns change nothing
rounds_same : (a b : ℕ) (test : LaneRun) (c : Slot) (body : LaneRun) (node : Node) → KeepsTurns test → KeepsTurns body → (l : Lane) → l.turns < a → l.turns < b → looped a test c body node l ≡ looped b test c body node l
rounds_same zero b test c body node kt kb l ha hb = absurd (omega arith)
rounds_same (suc a) zero test c body node kt kb l ha hb = absurd (omega arith)
rounds_same (suc a) (suc b) test c body node kt kb l ha hb =
    after_same (test l) (choose c (lseq (turn node) (lseq body (looped a test c body node))) Normal) (choose c (lseq (turn node) (lseq body (looped b test c body node))) Normal) l.turns (kt l)
    (λ m hm. pick_same (truth (word_in (words_of m) c)) (lseq (turn node) (lseq body (looped a test c body node)) (pay 1 m)) (lseq (turn node) (lseq body (looped b test c body node)) (pay 1 m)) (Normal (pay 1 m))
    (λ _. turn_same node (pay 1 m) (lseq body (looped a test c body node)) (lseq body (looped b test c body node))
    (λ n hn. after_same (body n) (looped a test c body node) (looped b test c body node) n.turns (kb n) (λ p hp. rounds_same a b test c body node kt kb p (omega arith) (omega arith)))))

pub loops_go_round : (blocks : ℕ → LaneRun) (test body : ℕ) (c : Slot) (node : Node) → KeepsTurns (blocks test) → KeepsTurns (blocks body) → (l : Lane) → act blocks (Loop test c body node) l ≡ lseq (blocks test) (choose c (lseq (turn node) (lseq (blocks body) (act blocks (Loop test c body node)))) Normal) l
loops_go_round blocks test body c node kt kb l =
    after_same (blocks test l) (choose c (lseq (turn node) (lseq (blocks body) (looped l.turns (blocks test) c (blocks body) node))) Normal) (choose c (lseq (turn node) (lseq (blocks body) (act blocks (Loop test c body node)))) Normal) l.turns (kt l)
    (λ m hm. pick_same (truth (word_in (words_of m) c)) (lseq (turn node) (lseq (blocks body) (looped l.turns (blocks test) c (blocks body) node)) (pay 1 m)) (lseq (turn node) (lseq (blocks body) (act blocks (Loop test c body node))) (pay 1 m)) (Normal (pay 1 m))
    (λ _. turn_same node (pay 1 m) (lseq (blocks body) (looped l.turns (blocks test) c (blocks body) node)) (lseq (blocks body) (act blocks (Loop test c body node)))
    (λ n hn. after_same (blocks body n) (looped l.turns (blocks test) c (blocks body) node) (act blocks (Loop test c body node)) n.turns (kb n) (λ p hp. rounds_same l.turns (suc p.turns) (blocks test) c (blocks body) node kt kb p (omega arith) (omega arith)))))
