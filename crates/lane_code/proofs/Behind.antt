-- What is behind the slots of valid code stays.
use Rattle.std.proofs.Common.{◌≡◌, ℕ, zero, suc, ℤ, pos, negsuc, ◌+◌, ◌-◌, List, [], ◌∷◌, length, get_or, Bool, true, false, ◌&&◌, ◌==◌, unsigned_abs, if◌then◌else◌, refl, ap, ◌∙◌, arith}
use Rattle.std.proofs.lemmas.Bool.{and_parts, leb-true, le-leb}
use Rattle.std.proofs.lemmas.List.{get_or-set_other, length-set}
use Rattle.ctl_base.specs.declared.kind.Node.{Node}
use Rattle.ctl_base.specs.declared.kind.TrapKind.TheVariants.{Turns}
use Rattle.fix_num.specs.declared.TheConstants.{FRACTION}
use Rattle.fix_num.specs.Whole.{truth}
use Rattle.ctl_stdlib.specs.Rows.{row}
use Rattle.ctl_stdlib.specs.Laws.{ResultsFit}
use Rattle.ctl_stdlib.specs.Shapes.{filled_words}
use Rattle.lane_code.specs.declared.instr.Slot.{Slot}
use Rattle.lane_code.specs.declared.instr.Slot.TheVariants.{Varying, Uniform}
use Rattle.lane_code.specs.declared.instr.Instr.{Instr}
use Rattle.lane_code.specs.declared.instr.Instr.TheVariants.{Set, Copy, Do1, Do2, Convert, Bound, Gather, Scatter, Library, If, Loop, Frame, Leave}
use Rattle.lane_code.specs.declared.valid.Numbers.{Numbers}
use Rattle.lane_code.specs.Slots.{Words, shifted, word_in, put, put_all, moved}
use Rattle.lane_code.specs.Instructions.{Blocks, inputs, table_of, rest_of, has_room, behind, goes_on, effect, cost_of, trap_kind, trap_node}
use Rattle.lane_code.specs.declared.lane.Lane.{Lane}
use Rattle.lane_code.specs.LaneMeaning.{Done, Normal, Left, Trapped, LaneRun, and_then, lseq, words_of, pay, with_words, simple, choose, turn, looped, framed, act, run_list, run_block}
use Rattle.lane_code.specs.Valid.{is_inside, arguments_inside, is_sound, valid_block, valid_blocks, names_below}
use Rattle.lane_code.specs.Laws.{lane_of, StaysBehind}
use Rattle.lane_code.proofs.Blocks.{sound_parts}
use Rattle.lane_code.proofs.Fitting.{row_fits}

by_test : {P : Type 0} (b : Bool) → (b ≡ true → P) → (b ≡ false → P) → P
by_test true yes' no' = yes' refl
by_test false yes' no' = no' refl

stays : (n : Numbers) (ws : Words) → StaysBehind n ws ws
stays n ws = record { own = λ k h. refl; shared = λ k h. refl; own_count = refl; shared_count = refl }

stays_then : (n : Numbers) (a b d : Words) → StaysBehind n a b → StaysBehind n b d → StaysBehind n a d
stays_then n a b d x y = record {
  own = λ k h. y.own k h ∙ x.own k h;
  shared = λ k h. y.shared k h ∙ x.shared k h;
  own_count = y.own_count ∙ x.own_count;
  shared_count = y.shared_count ∙ x.shared_count;
}

-- ---- words that are set

put_stays : (n : Numbers) (s : Slot) (w : ℤ) (ws : Words) → is_inside n s 1 ≡ true → StaysBehind n ws (put s w ws)
put_stays n (Varying j) w ws h = let low = leb-true (j + 1) n.varying h in record {
  own = λ k q. get_or-set_other ws.own j k w (pos 0) (λ e. absurd (omega arith));
  shared = λ k q. refl;
  own_count = length-set ws.own j w;
  shared_count = refl;
}
put_stays n (Uniform j) w ws h = let low = leb-true (j + 1) n.uniform h in record {
  own = λ k q. refl;
  shared = λ k q. get_or-set_other ws.shared j k w (pos 0) (λ e. absurd (omega arith));
  own_count = refl;
  shared_count = length-set ws.shared j w;
}

first_inside : (n : Numbers) (s : Slot) (count : ℕ) → is_inside n s (suc count) ≡ true → is_inside n s 1 ≡ true
first_inside n (Varying k) count h = let low = leb-true (k + suc count) n.varying h in le-leb (k + 1) n.varying (omega arith)
first_inside n (Uniform k) count h = let low = leb-true (k + suc count) n.uniform h in le-leb (k + 1) n.uniform (omega arith)

next_inside : (n : Numbers) (s : Slot) (count : ℕ) → is_inside n s (suc count) ≡ true → is_inside n (shifted s 1) count ≡ true
next_inside n (Varying k) count h = let low = leb-true (k + suc count) n.varying h in le-leb (k + 1 + count) n.varying (omega arith)
next_inside n (Uniform k) count h = let low = leb-true (k + suc count) n.uniform h in le-leb (k + 1 + count) n.uniform (omega arith)

moved_stays : (n : Numbers) (count : ℕ) (dst src : Slot) (ws : Words) → is_inside n dst count ≡ true → StaysBehind n ws (moved count dst src ws)
moved_stays n zero dst src ws h = stays n ws
moved_stays n (suc count) dst src ws h = stays_then n ws (put dst (word_in ws src) ws) (moved count (shifted dst 1) (shifted src 1) (put dst (word_in ws src) ws))
    (put_stays n dst (word_in ws src) ws (first_inside n dst count h))
    (moved_stays n count (shifted dst 1) (shifted src 1) (put dst (word_in ws src) ws) (next_inside n dst count h))

all_stays : (n : Numbers) (dst : Slot) (xs : List ℤ) (ws : Words) → is_inside n dst (length xs) ≡ true → StaysBehind n ws (put_all dst xs ws)
all_stays n dst [] ws h = stays n ws
all_stays n dst (x ∷ xs) ws h = stays_then n ws (put dst x ws) (put_all (shifted dst 1) xs (put dst x ws)) (put_stays n dst x ws (first_inside n dst (length xs) h)) (all_stays n (shifted dst 1) xs (put dst x ws) (next_inside n dst (length xs) h))

-- a place that has room lies inside
room_inside : (n : Numbers) (s : Slot) (o : ℤ) (count span : ℕ) → has_room o count span ≡ true → is_inside n s span ≡ true → is_inside n (shifted s (unsigned_abs o)) count ≡ true
room_inside n s (negsuc m) count span h q = absurd (cc)
room_inside n (Varying k) (pos m) count span h q =
    let low = leb-true (k + span) n.varying q in
    let fit = leb-true (m + count) span (and_parts _ _ h).1 in
    le-leb (k + m + count) n.varying (omega arith)
room_inside n (Uniform k) (pos m) count span h q =
    let low = leb-true (k + span) n.uniform q in
    let fit = leb-true (m + count) span (and_parts _ _ h).1 in
    le-leb (k + m + count) n.uniform (omega arith)

-- ---- instructions

effect_stays : ResultsFit → (n : Numbers) (x : Instr) (ws : Words) → is_sound n x ≡ true → goes_on x ws ≡ true → StaysBehind n ws (effect x ws)
effect_stays fit n (Set dst word) ws h g = put_stays n dst word ws (sound_parts n (Set dst word) h).slots
effect_stays fit n (Copy dst src count) ws h g = moved_stays n count dst src ws (and_parts (is_inside n dst count) (is_inside n src count) (sound_parts n (Copy dst src count) h).slots).0
effect_stays fit n (Do1 op kind dst a) ws h g = put_stays n dst _ ws (and_parts (is_inside n dst 1) (is_inside n a 1) (sound_parts n (Do1 op kind dst a) h).slots).0
effect_stays fit n (Do2 op kind dst a b) ws h g = put_stays n dst _ ws (and_parts (is_inside n dst 1) (is_inside n a 1) (and_parts (is_inside n dst 1 && is_inside n a 1) (is_inside n b 1) (sound_parts n (Do2 op kind dst a b) h).slots).0).0
effect_stays fit n (Convert from to dst a) ws h g = put_stays n dst _ ws (and_parts (is_inside n dst 1) (is_inside n a 1) (sound_parts n (Convert from to dst a) h).slots).0
effect_stays fit n (Bound index size node) ws h g = stays n ws
effect_stays fit n (Gather dst base span at count node) ws h g = moved_stays n count dst (behind ws base at) ws (and_parts (is_inside n dst count) (is_inside n base span) (and_parts (is_inside n dst count && is_inside n base span) (is_inside n at 1) (sound_parts n (Gather dst base span at count node) h).slots).0).0
effect_stays fit n (Scatter base span at count src node) ws h g = moved_stays n count (behind ws base at) src ws (room_inside n base (word_in ws at) count span g (and_parts (is_inside n base span) (is_inside n at 1) (and_parts (is_inside n base span && is_inside n at 1) (is_inside n src count) (sound_parts n (Scatter base span at count src node) h).slots).0).0)
effect_stays fit n (Library id sizes dst args node) ws h g =
    let parts = sound_parts n (Library id sizes dst args node) h in
    let results = (row id).value FRACTION sizes (table_of ws (row id) sizes args) (rest_of ws (row id) args) in
    let filled = fit FRACTION id sizes (table_of ws (row id) sizes args) (rest_of ws (row id) args) (row_fits ws id sizes args parts.row_fits) in
    all_stays n dst results ws (ap (λ (m : ℕ). is_inside n dst m) filled ∙ (and_parts (is_inside n dst (filled_words (row id))) (arguments_inside n sizes (inputs (row id)) args) parts.slots).0)
effect_stays fit n (If c one other) ws h g = stays n ws
effect_stays fit n (Loop test c body node) ws h g = stays n ws
effect_stays fit n (Frame block) ws h g = stays n ws
effect_stays fit n Leave ws h g = stays n ws

-- ---- runs

abbrev StayRun : Numbers → LaneRun → Type 0
StayRun n f = (l : Lane) → StaysBehind n (words_of l) (words_of (lane_of (f l)))

normal_stays : (n : Numbers) → StayRun n Normal
normal_stays n l = stays n (words_of l)

then_stays : (n : Numbers) (ws : Words) (d : Done) (g : LaneRun) → StayRun n g → StaysBehind n ws (words_of (lane_of d)) → StaysBehind n ws (words_of (lane_of (and_then d g)))
then_stays n ws (Normal l) g kg h = stays_then n ws (words_of l) (words_of (lane_of (g l))) h (kg l)
then_stays n ws (Left l) g kg h = h
then_stays n ws (Trapped kind node l) g kg h = h

lseq_stays : (n : Numbers) (f g : LaneRun) → StayRun n f → StayRun n g → StayRun n (lseq f g)
lseq_stays n f g kf kg l = then_stays n (words_of l) (f l) g kg (kf l)

pick_stays : (n : Numbers) (ws : Words) (b : Bool) (x y : Done) → (b ≡ true → StaysBehind n ws (words_of (lane_of x))) → (b ≡ false → StaysBehind n ws (words_of (lane_of y))) → StaysBehind n ws (words_of (lane_of (if b then x else y)))
pick_stays n ws true x y hx hy = hx refl
pick_stays n ws false x y hx hy = hy refl

choose_stays : (n : Numbers) (c : Slot) (one other : LaneRun) → StayRun n one → StayRun n other → StayRun n (choose c one other)
choose_stays n c one other k1 k2 l = pick_stays n (words_of l) (truth (word_in (words_of l) c)) (one (pay 1 l)) (other (pay 1 l)) (λ _. k1 (pay 1 l)) (λ _. k2 (pay 1 l))

turn_stays : (n : Numbers) (node : Node) → StayRun n (turn node)
turn_stays n node l = pick_stays n (words_of l) (l.turns == 0) (Trapped Turns node l) (Normal (record { words = l.words; uniform = l.uniform; turns = l.turns - 1; cost = l.cost })) (λ _. stays n (words_of l)) (λ _. stays n (words_of l))

loop_stays : (n : Numbers) (rounds : ℕ) (test : LaneRun) (c : Slot) (body : LaneRun) (node : Node) → StayRun n test → StayRun n body → StayRun n (looped rounds test c body node)
loop_stays n zero test c body node kt kb = normal_stays n
loop_stays n (suc rounds) test c body node kt kb =
    let again = lseq body (looped rounds test c body node) in
    lseq_stays n test (choose c (lseq (turn node) again) Normal) kt (choose_stays n c (lseq (turn node) again) Normal (lseq_stays n (turn node) again (turn_stays n node) (lseq_stays n body (looped rounds test c body node) kb (loop_stays n rounds test c body node kt kb))) (normal_stays n))

frame_stays : (n : Numbers) (ws : Words) (d : Done) → StaysBehind n ws (words_of (lane_of d)) → StaysBehind n ws (words_of (lane_of (framed d)))
frame_stays n ws (Normal l) h = h
frame_stays n ws (Left l) h = h
frame_stays n ws (Trapped kind node l) h = h

simple_stays : ResultsFit → (n : Numbers) (x : Instr) → is_sound n x ≡ true → StayRun n (simple x)
simple_stays fit n x h l = pick_stays n (words_of l) (goes_on x (words_of l)) (Normal (with_words (effect x (words_of l)) (pay (cost_of x) l))) (Trapped (trap_kind x) (trap_node x) (pay (cost_of x) l)) (λ g. effect_stays fit n x (words_of l) h g) (λ _. stays n (words_of l))

act_stays : ResultsFit → (n : Numbers) (blocks : ℕ → LaneRun) → ((k : ℕ) → StayRun n (blocks k)) → (x : Instr) → is_sound n x ≡ true → StayRun n (act blocks x)
act_stays fit n blocks q (If c one other) h l = choose_stays n c (blocks one) (blocks other) (q one) (q other) l
act_stays fit n blocks q (Loop test c body node) h l = loop_stays n (suc l.turns) (blocks test) c (blocks body) node (q test) (q body) l
act_stays fit n blocks q (Frame block) h l = frame_stays n (words_of l) (blocks block l) (q block l)
act_stays fit n blocks q Leave h l = stays n (words_of l)
act_stays fit n blocks q (Set dst word) h l = simple_stays fit n (Set dst word) h l
act_stays fit n blocks q (Copy dst src count) h l = simple_stays fit n (Copy dst src count) h l
act_stays fit n blocks q (Do1 op kind dst a) h l = simple_stays fit n (Do1 op kind dst a) h l
act_stays fit n blocks q (Do2 op kind dst a b) h l = simple_stays fit n (Do2 op kind dst a b) h l
act_stays fit n blocks q (Convert from to dst a) h l = simple_stays fit n (Convert from to dst a) h l
act_stays fit n blocks q (Bound index size node) h l = simple_stays fit n (Bound index size node) h l
act_stays fit n blocks q (Gather dst base span at count node) h l = simple_stays fit n (Gather dst base span at count node) h l
act_stays fit n blocks q (Scatter base span at count src node) h l = simple_stays fit n (Scatter base span at count src node) h l
act_stays fit n blocks q (Library id sizes dst args node) h l = simple_stays fit n (Library id sizes dst args node) h l

list_stays : ResultsFit → (n : Numbers) (blocks : ℕ → LaneRun) → ((k : ℕ) → StayRun n (blocks k)) → (k : ℕ) (xs : List Instr) → valid_block n k xs ≡ true → StayRun n (run_list blocks xs)
list_stays fit n blocks q k [] h = normal_stays n
list_stays fit n blocks q k (x ∷ xs) h =
    let z = and_parts (names_below k x && is_sound n x) (valid_block n k xs) h in
    lseq_stays n (act blocks x) (run_list blocks xs) (act_stays fit n blocks q x (and_parts (names_below k x) (is_sound n x) z.0).1) (list_stays fit n blocks q k xs z.1)

-- also a number that no block has
pub any_block : (n : Numbers) (code : Blocks) (j k : ℕ) → valid_blocks n j code ≡ true → valid_block n (k + j) (get_or code k []) ≡ true
any_block n [] j zero h = refl
any_block n [] j (suc k) h = refl
any_block n (b ∷ code) j zero h = ap (λ (m : ℕ). valid_block n m b) (let e : 0 + j ≡ j = omega arith in e) ∙ (and_parts (valid_block n j b) (valid_blocks n (suc j) code) h).0
any_block n (b ∷ code) j (suc k) h = ap (λ (m : ℕ). valid_block n m (get_or code k [])) (let e : suc k + j ≡ k + suc j = omega arith in e) ∙ any_block n code (suc j) k (and_parts (valid_block n j b) (valid_blocks n (suc j) code) h).1

pub slots_behind_stay : ResultsFit → (n : Numbers) (code : Blocks) (depth k : ℕ) → valid_blocks n 0 code ≡ true → StayRun n (run_block code depth k)
slots_behind_stay fit n code zero k h = normal_stays n
slots_behind_stay fit n code (suc depth) k h = list_stays fit n (run_block code depth) (λ j. slots_behind_stay fit n code depth j h) (k + 0) (get_or code k []) (any_block n code 0 k h)
