-- Two ways to say what a block does.
use Rattle.std.proofs.Common.{◌≡◌, ℕ, zero, suc, ◌+◌, ◌<◌, List, [], ◌∷◌, ◌++◌, length, refl, sym, ap, ◌∙◌, arith, append_assoc, length-append, take, drop, get_or}
use Rattle.std.proofs.lemmas.List.{append-nil}
use Rattle.lane_code.specs.declared.instr.Instr.{Instr}
use Rattle.lane_code.specs.declared.instr.Instr.TheVariants.{Set, Copy, Do1, Do2, Convert, Bound, Gather, Scatter, Library, If, Loop, Frame, Leave}
use Rattle.lane_code.specs.Instructions.{Blocks}
use Rattle.lane_code.specs.declared.lane.Lane.{Lane}
use Rattle.lane_code.specs.LaneMeaning.{Done, LaneRun, Normal, Left, Trapped, lseq, and_then, act, run_list, run_block, meaning, looped, choose, framed}
use Rattle.lane_code.specs.Laws.{block_run, block_runs, Below, AllBelow, IsOrdered, BlockAdded}

block_runs_append : (runs : List LaneRun) (a b : Blocks) → block_runs runs (a ++ b) ≡ block_runs (block_runs runs a) b
block_runs_append runs [] b = refl
block_runs_append runs (x ∷ a) b = block_runs_append (runs ++ run_list (block_run runs) x ∷ []) a b

block_runs_length : (runs : List LaneRun) (a : Blocks) → length (block_runs runs a) ≡ length runs + length a
block_runs_length runs [] = omega arith
block_runs_length runs (x ∷ a) = let r = run_list (block_run runs) x in let e = block_runs_length (runs ++ r ∷ []) a in let f = length-append runs (r ∷ []) in omega arith

block_runs_more : (runs : List LaneRun) (a : Blocks) → (more : List LaneRun) × (block_runs runs a ≡ runs ++ more)
block_runs_more runs [] = ([], sym (append-nil runs))
block_runs_more runs (x ∷ a) = let y = run_list (block_run runs) x in let r = block_runs_more (runs ++ y ∷ []) a in (y ∷ r.0, r.1 ∙ append_assoc runs (y ∷ []) r.0)

block_run_front : (runs more : List LaneRun) (r : LaneRun) → block_run (runs ++ r ∷ more) (length runs) ≡ r
block_run_front [] more r = refl
block_run_front (s ∷ runs) more r = block_run_front runs more r

block_run_low : (runs more : List LaneRun) (n : ℕ) → n < length runs → block_run (runs ++ more) n ≡ block_run runs n
block_run_low [] more n h = absurd (omega arith)
block_run_low (s ∷ runs) more zero h = refl
block_run_low (s ∷ runs) more (suc n) h = block_run_low runs more n (omega arith)

pub block_at : (bs : Blocks) (b : List Instr) (after : Blocks) → block_run (block_runs [] (bs ++ b ∷ after)) (length bs) ≡ run_list (block_run (block_runs [] bs)) b
block_at bs b after =
    let runs = block_runs [] bs in
    let r = run_list (block_run runs) b in
    let m = block_runs_more (runs ++ r ∷ []) after in
    let e : block_runs [] (bs ++ b ∷ after) ≡ runs ++ r ∷ m.0 = block_runs_append [] bs (b ∷ after) ∙ m.1 ∙ append_assoc runs (r ∷ []) m.0 in
    let k = block_runs_length [] bs in let n : length bs ≡ length runs = omega arith in
    ap (λ l. block_run l (length bs)) e ∙ ap (block_run (runs ++ r ∷ m.0)) n ∙ block_run_front runs m.0 r

-- the blocks that follow change nothing
pub block_low : (bs after : Blocks) (n : ℕ) → n < length bs → block_run (block_runs [] (bs ++ after)) n ≡ block_run (block_runs [] bs) n
block_low bs after n h =
    let m = block_runs_more (block_runs [] bs) after in
    let e : block_runs [] (bs ++ after) ≡ block_runs [] bs ++ m.0 = block_runs_append [] bs after ∙ m.1 in
    let k = block_runs_length [] bs in
    ap (λ l. block_run l n) e ∙ block_run_low (block_runs [] bs) m.0 n (omega arith)

-- the same runs of the named blocks
act_same : (f g : ℕ → LaneRun) (k : ℕ) → ((n : ℕ) → n < k → f n ≡ g n) → (x : Instr) → Below k x → act f x ≡ act g x
act_same f g k h (Set dst word) b = refl
act_same f g k h (Copy dst src count) b = refl
act_same f g k h (Do1 op kind dst a) b = refl
act_same f g k h (Do2 op kind dst a b') b = refl
act_same f g k h (Convert from to dst a) b = refl
act_same f g k h (Bound index size node) b = refl
act_same f g k h (Gather dst base span at count node) b = refl
act_same f g k h (Scatter base span at count src node) b = refl
act_same f g k h (Library id sizes dst args node) b = refl
act_same f g k h (If c one other) b = ap {B = LaneRun} (λ (r : LaneRun) l. choose c r (f other) l) (h one b.0) ∙ ap {B = LaneRun} (λ (r : LaneRun) l. choose c (g one) r l) (h other b.1)
act_same f g k h (Loop test c body node) b = ap {B = LaneRun} (λ (r : LaneRun) l. looped (suc l.turns) r c (f body) node l) (h test b.0) ∙ ap {B = LaneRun} (λ (r : LaneRun) l. looped (suc l.turns) (g test) c r node l) (h body b.1)
act_same f g k h (Frame block) b = ap {B = LaneRun} (λ (r : LaneRun) l. framed (r l)) (h block b)
act_same f g k h Leave b = refl

list_same : (f g : ℕ → LaneRun) (k : ℕ) → ((n : ℕ) → n < k → f n ≡ g n) → (xs : List Instr) → AllBelow k xs → run_list f xs ≡ run_list g xs
list_same f g k h [] b = refl
list_same f g k h (x ∷ xs) b = ap {B = LaneRun} (λ (r : LaneRun). lseq r (run_list f xs)) (act_same f g k h x b.0) ∙ ap {B = LaneRun} (λ (r : LaneRun). lseq (act g x) r) (list_same f g k h xs b.1)

split_at : (code : Blocks) (k : ℕ) → k < length code → code ≡ take k code ++ get_or code k [] ∷ drop (suc k) code
split_at [] k h = absurd (omega arith)
split_at (b ∷ code) zero h = refl
split_at (b ∷ code) (suc k) h = ap (λ l. b ∷ l) (split_at code k (omega arith))

take_count : (code : Blocks) (k : ℕ) → k < length code → length (take k code) ≡ k
take_count [] k h = absurd (omega arith)
take_count (b ∷ code) zero h = refl
take_count (b ∷ code) (suc k) h = ap suc (take_count code k (omega arith))

-- a block by the runs of all blocks
fixed : (code : Blocks) (k : ℕ) → IsOrdered code → k < length code → block_run (block_runs [] code) k ≡ run_list (block_run (block_runs [] code)) (get_or code k [])
fixed code k ok h =
    let bs = take k code in
    let b = get_or code k [] in
    let after = drop (suc k) code in
    let e = split_at code k h in
    let n = take_count code k h in
    ap (λ c. block_run (block_runs [] c) k) e ∙ ap (block_run (block_runs [] (bs ++ b ∷ after))) (sym n) ∙ block_at bs b after
    ∙ list_same (block_run (block_runs [] bs)) (block_run (block_runs [] code)) k (λ i q. sym (ap (λ c. block_run (block_runs [] c) i) e ∙ block_low bs (b ∷ after) i (omega arith))) b (ok k h)

deep : (code : Blocks) → IsOrdered code → (d k : ℕ) → k < d → k < length code → run_block code d k ≡ block_run (block_runs [] code) k
deep code ok zero k h q = absurd (omega arith)
deep code ok (suc d) k h q = list_same (run_block code d) (block_run (block_runs [] code)) k (λ n m. deep code ok d n (omega arith) (omega arith)) (get_or code k []) (ok k q) ∙ sym (fixed code k ok q)

pub one_meaning : (code : Blocks) (k : ℕ) → IsOrdered code → k < length code → (l : Lane) → meaning code k l ≡ block_run (block_runs [] code) k l
one_meaning code k ok h l = ap (λ (r : LaneRun). r l) (deep code ok (suc k) k (omega arith) h)

-- two lists of instructions run one after the other
joined : (d : Done) (f g : LaneRun) → and_then (and_then d f) g ≡ and_then d (lseq f g)
joined (Normal l) f g = refl
joined (Left l) f g = refl
joined (Trapped kind node l) f g = refl

pub lists_join : (blocks : ℕ → LaneRun) (a b : List Instr) → run_list blocks (a ++ b) ≡ lseq (run_list blocks a) (run_list blocks b)
lists_join blocks [] b = refl
lists_join blocks (x ∷ a) b = ap {B = LaneRun} (λ (r : LaneRun). lseq (act blocks x) r) (lists_join blocks a b) ∙ (λ i l. sym (joined (act blocks x l) (run_list blocks a) (run_list blocks b)) i)

-- a block of the code, whatever is behind it
get_front : (code after : Blocks) (k : ℕ) → k < length code → get_or (code ++ after) k [] ≡ get_or code k []
get_front [] after k h = absurd (omega arith)
get_front (b ∷ code) after zero h = refl
get_front (b ∷ code) after (suc k) h = get_front code after k (omega arith)

more_deep : (code after : Blocks) → IsOrdered code → (d e k : ℕ) → k < d → k < e → k < length code → run_block (code ++ after) d k ≡ run_block code e k
more_deep code after ok zero e k h g q = absurd (omega arith)
more_deep code after ok (suc d) zero k h g q = absurd (omega arith)
more_deep code after ok (suc d) (suc e) k h g q =
    ap (run_list (run_block (code ++ after) d)) (get_front code after k q)
    ∙ list_same (run_block (code ++ after) d) (run_block code e) k (λ n m. more_deep code after ok d e n (omega arith) (omega arith) (omega arith)) (get_or code k []) (ok k q)

pub more_changes_nothing : (code after : Blocks) (depth k : ℕ) → IsOrdered code → k < length code → k < depth → (l : Lane) → run_block (code ++ after) depth k l ≡ meaning code k l
more_changes_nothing code after depth k ok q h l = ap (λ (r : LaneRun). r l) (more_deep code after ok depth (suc k) k h (omega arith) q)

pub block_added : (blocks : Blocks) (b : List Instr) (after : Blocks) → BlockAdded blocks b after
block_added blocks b after = record {
  here = λ l. ap (λ (r : LaneRun). r l) (block_at blocks b after);
  below = λ n h l. ap (λ (r : LaneRun). r l) (block_low blocks after n h);
}
