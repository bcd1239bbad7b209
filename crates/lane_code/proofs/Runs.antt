-- The runner's steps.
use Rattle.std.proofs.Common.{◌≡◌, ℕ, zero, suc, ◌+◌, ◌-◌, ◌^◌, ◌<◌, ◌≤◌, min, List, [], ◌∷◌, length, drop, get_or, Bool, true, false, ◌==◌, ◌&&◌, if◌then◌else◌, refl, sym, ap, ◌∙◌, arith}
use Rattle.std.proofs.lemmas.Bool.{and_parts, eqb-true}
use Rattle.std.proofs.lemmas.List.{drop_more}
use Rattle.ctl_base.specs.declared.kind.Node.{Node}
use Rattle.ctl_base.specs.declared.kind.TrapKind.TheVariants.{Turns}
use Rattle.fix_num.specs.Whole.{truth}
use Rattle.lane_code.specs.declared.lane.Lane.{Lane}
use Rattle.lane_code.specs.declared.end.LaneEnd.{LaneEnd}
use Rattle.lane_code.specs.declared.end.LaneEnd.TheVariants as end
use Rattle.lane_code.specs.declared.instr.Slot.{Slot}
use Rattle.lane_code.specs.declared.instr.Instr.{Instr}
use Rattle.lane_code.specs.declared.instr.Instr.TheVariants.{Loop}
use Rattle.lane_code.specs.declared.valid.Numbers.{Numbers}
use Rattle.lane_code.specs.Slots.{word_in}
use Rattle.lane_code.specs.Instructions.{Blocks}
use Rattle.lane_code.specs.LaneMeaning.{Done, Normal, Left, Trapped, LaneRun, and_then, lseq, words_of, pay, choose, turn, act, run_list, run_block}
use Rattle.lane_code.specs.Valid.{is_sound, names_below, valid_block, valid_blocks}
use Rattle.lane_code.specs.Laws.{lane_of}
use Rattle.lane_code.specs.Running.{all_sound, counted, counted_done, ended, is_normal}
use Rattle.lane_code.proofs.Behind.{any_block}
use Rattle.lane_code.proofs.Counted.{Shows, after_counted, list_shows, act_shows, block_shows, choose_shows, lseq_shows, turn_shows, normal_shows}
use Rattle.lane_code.proofs.Turns.{loops_go_round, turns_never_rise}

pub counted_same : (l : Lane) → l.cost < 2 ^ 64 → l ≡ counted l
counted_same l h = ap (λ (m : ℕ). record { words = l.words; uniform = l.uniform; turns = l.turns; cost = m }) (let e : l.cost ≡ min l.cost (2 ^ 64 - 1) = omega arith in e)

-- a run that ended goes on with the next part, or is the end
pub flows : (d : Done) (g : LaneRun) (e : LaneEnd) (l : Lane) → Shows g → ended e l ≡ counted_done d → is_normal e ≡ true → counted_done (g l) ≡ counted_done (and_then d g)
flows d g end.Normal l s h n = ap (λ (x : Done). counted_done (and_then x g)) h ∙ after_counted d g s
flows d g end.Left l s h n = absurd (cc)
flows d g (end.Trapped kind node) l s h n = absurd (cc)

pub halts : (d : Done) (g : LaneRun) (e : LaneEnd) (l : Lane) → ended e l ≡ counted_done d → is_normal e ≡ false → ended e l ≡ counted_done (and_then d g)
halts (Normal m) g end.Normal l h n = absurd (cc)
halts (Normal m) g end.Left l h n = absurd (cc)
halts (Normal m) g (end.Trapped kind node) l h n = absurd (cc)
halts (Left m) g e l h n = h
halts (Trapped kind node m) g e l h n = h

pub turns_of : (d : Done) (e : LaneEnd) (l : Lane) → ended e l ≡ counted_done d → l.turns ≡ (lane_of d).turns
turns_of d e l h = same e l ∙ ap (λ (x : Done). (lane_of x).turns) h ∙ shown d where
  same : (e : LaneEnd) (l : Lane) → l.turns ≡ (lane_of (ended e l)).turns
  same end.Normal l = refl
  same end.Left l = refl
  same (end.Trapped kind node) l = refl

  shown : (d : Done) → (lane_of (counted_done d)).turns ≡ (lane_of d).turns
  shown (Normal l) = refl
  shown (Left l) = refl
  shown (Trapped kind node l) = refl

-- ---- blocks

get_any : (blocks : Blocks) (k : ℕ) (r : List Instr) → k < length blocks → r ≡ get_or blocks k r → r ≡ get_or blocks k []
get_any blocks k r h e = e ∙ any blocks k r h where
  any : (blocks : Blocks) (k : ℕ) (r : List Instr) → k < length blocks → get_or blocks k r ≡ get_or blocks k []
  any [] k r h = absurd (omega arith)
  any (b ∷ blocks) zero r h = refl
  any (b ∷ blocks) (suc k) r h = any blocks k r (omega arith)

get_past : (blocks : Blocks) (k : ℕ) → length blocks ≤ k → get_or blocks k [] ≡ []
get_past [] zero h = refl
get_past [] (suc k) h = refl
get_past (b ∷ blocks) zero h = absurd (omega arith)
get_past (b ∷ blocks) (suc k) h = get_past blocks k (omega arith)

pub block_zero : (blocks : Blocks) (depth k : ℕ) (l : Lane) → l.cost < 2 ^ 64 → depth ≡ 0 → Normal l ≡ counted_done (run_block blocks depth k l)
block_zero blocks depth k l h e = ap Normal (counted_same l h) ∙ ap (λ (d : ℕ). counted_done (run_block blocks d k l)) (sym e)

pub block_past : (blocks : Blocks) (depth k : ℕ) (l : Lane) → l.cost < 2 ^ 64 → length blocks ≤ k → Normal l ≡ counted_done (run_block blocks depth k l)
block_past blocks zero k l h e = ap Normal (counted_same l h)
block_past blocks (suc depth) k l h e = ap Normal (counted_same l h) ∙ ap (λ (xs : List Instr). counted_done (run_list (run_block blocks depth) xs l)) (sym (get_past blocks k e))

pub block_goes : (blocks : Blocks) (depth k : ℕ) (r : List Instr) (l : Lane) → 0 < depth → k < length blocks → r ≡ get_or blocks k r → counted_done (run_list (run_block blocks (depth - 1)) r l) ≡ counted_done (run_block blocks depth k l)
block_goes blocks depth k r l d h e = ap (λ (xs : List Instr). counted_done (run_list (run_block blocks (depth - 1)) xs l)) (get_any blocks k r h e) ∙ ap (λ (n : ℕ). counted_done (run_block blocks n k l)) (let z : suc (depth - 1) ≡ depth = omega arith in z)

sound_list : (n : Numbers) (k : ℕ) (xs : List Instr) → valid_block n k xs ≡ true → all_sound n xs ≡ true
sound_list n k [] h = refl
sound_list n k (x ∷ xs) h =
    let q = and_parts (names_below k x && is_sound n x) (valid_block n k xs) h in
    let s = (and_parts (names_below k x) (is_sound n x) q.0).1 in
    ap (λ (b : Bool). b && all_sound n xs) s ∙ sound_list n k xs q.1

pub block_sound : (n : Numbers) (blocks : Blocks) (k : ℕ) (r : List Instr) → valid_blocks n 0 blocks ≡ true → k < length blocks → r ≡ get_or blocks k r → all_sound n r ≡ true
block_sound n blocks k r v h e = ap (all_sound n) (get_any blocks k r h e) ∙ sound_list n (k + 0) (get_or blocks k []) (any_block n blocks 0 k v)

-- ---- lists

pub head_sound : (n : Numbers) (xs : List Instr) (i : ℕ) (x : Instr) → i < length xs → x ≡ get_or xs i x → all_sound n (drop i xs) ≡ true → (is_sound n x ≡ true) × (all_sound n (drop (i + 1) xs) ≡ true)
head_sound n xs i x h e s =
    let cut = drop_more xs i x h in
    let q = and_parts (is_sound n (get_or xs i x)) (all_sound n (drop (i + 1) xs)) (sym (ap (all_sound n) cut) ∙ s) in
    (ap (is_sound n) e ∙ q.0, q.1)

list_cut : (blocks : Blocks) (depth : ℕ) (xs : List Instr) (i : ℕ) (x : Instr) (l : Lane) → i < length xs → x ≡ get_or xs i x → run_list (run_block blocks depth) (drop i xs) l ≡ and_then (act (run_block blocks depth) x l) (run_list (run_block blocks depth) (drop (i + 1) xs))
list_cut blocks depth xs i x l h e =
    ap (λ (ys : List Instr). run_list (run_block blocks depth) ys l) (drop_more xs i x h)
    ∙ ap (λ (y : Instr). and_then (act (run_block blocks depth) y l) (run_list (run_block blocks depth) (drop (i + 1) xs))) (sym e)

pub list_halts : (blocks : Blocks) (depth : ℕ) (xs : List Instr) (i : ℕ) (x : Instr) (l m : Lane) (e : LaneEnd) (whole : Done) → i < length xs → x ≡ get_or xs i x → ended e m ≡ counted_done (act (run_block blocks depth) x l) → is_normal e ≡ false → counted_done (run_list (run_block blocks depth) (drop i xs) l) ≡ whole → ended e m ≡ whole
list_halts blocks depth xs i x l m e whole h q s n before =
    halts (act (run_block blocks depth) x l) (run_list (run_block blocks depth) (drop (i + 1) xs)) e m s n ∙ sym (ap counted_done (list_cut blocks depth xs i x l h q)) ∙ before

pub list_flows : (blocks : Blocks) (depth : ℕ) (xs : List Instr) (i : ℕ) (x : Instr) (l m : Lane) (e : LaneEnd) (whole : Done) → i < length xs → x ≡ get_or xs i x → ended e m ≡ counted_done (act (run_block blocks depth) x l) → is_normal e ≡ true → counted_done (run_list (run_block blocks depth) (drop i xs) l) ≡ whole → counted_done (run_list (run_block blocks depth) (drop (i + 1) xs) m) ≡ whole
list_flows blocks depth xs i x l m e whole h q s n before =
    flows (act (run_block blocks depth) x l) (run_list (run_block blocks depth) (drop (i + 1) xs)) e m (list_shows (run_block blocks depth) (block_shows blocks depth) (drop (i + 1) xs)) s n ∙ sym (ap counted_done (list_cut blocks depth xs i x l h q)) ∙ before

pub list_end : (blocks : Blocks) (depth : ℕ) (xs : List Instr) (i : ℕ) (l : Lane) (whole : Done) → l ≡ counted l → length xs ≤ i → counted_done (run_list (run_block blocks depth) (drop i xs) l) ≡ whole → Normal l ≡ whole
list_end blocks depth xs i l whole h q before = ap Normal h ∙ ap (λ (ys : List Instr). counted_done (run_list (run_block blocks depth) ys l)) (sym (none xs i q)) ∙ before where
  none : (xs : List Instr) (i : ℕ) → length xs ≤ i → drop i xs ≡ []
  none [] zero h = refl
  none [] (suc i) h = refl
  none (x ∷ xs) zero h = absurd (omega arith)
  none (x ∷ xs) (suc i) h = none xs i (omega arith)

-- ---- a choice

pub one_side : (c : Slot) (one other : LaneRun) (l m : Lane) (w : Bool) → Shows one → w ≡ truth (word_in (words_of l) c) → w ≡ true → m ≡ counted (pay 1 l) → counted_done (one m) ≡ counted_done (choose c one other l)
one_side c one other l m w s e t q = ap (λ (x : Lane). counted_done (one x)) q ∙ s (pay 1 l) ∙ ap (λ (b : Bool). counted_done (if b then one (pay 1 l) else other (pay 1 l))) (sym t ∙ e)

pub other_side : (c : Slot) (one other : LaneRun) (l m : Lane) (w : Bool) → Shows other → w ≡ truth (word_in (words_of l) c) → w ≡ false → m ≡ counted (pay 1 l) → counted_done (other m) ≡ counted_done (choose c one other l)
other_side c one other l m w s e t q = ap (λ (x : Lane). counted_done (other x)) q ∙ s (pay 1 l) ∙ ap (λ (b : Bool). counted_done (if b then one (pay 1 l) else other (pay 1 l))) (sym t ∙ e)

-- ---- a loop

module _ (blocks : Blocks) (depth test body : ℕ) (c : Slot) (node : Node) where
  abbrev B : ℕ → LaneRun
  B = run_block blocks depth

  abbrev again : LaneRun
  again = act B (Loop test c body node)

  abbrev round : LaneRun
  round = lseq (turn node) (lseq (B body) again)

  abbrev rest : LaneRun
  rest = choose c round Normal

  goes : (l : Lane) → again l ≡ and_then (B test l) rest
  goes l = loops_go_round B test body c node (turns_never_rise blocks depth test) (turns_never_rise blocks depth body) l

  again_shows : Shows again
  again_shows = act_shows B (block_shows blocks depth) (Loop test c body node)

  later_shows : Shows (lseq (B body) again)
  later_shows = lseq_shows (B body) again (block_shows blocks depth body) again_shows

  round_shows : Shows round
  round_shows = lseq_shows (turn node) (lseq (B body) again) (turn_shows node) later_shows

  rest_shows : Shows rest
  rest_shows = choose_shows c round Normal round_shows normal_shows

  -- the test ends the run
  pub loop_first : (l m : Lane) (e : LaneEnd) (whole : Done) → ended e m ≡ counted_done (B test l) → is_normal e ≡ false → counted_done (again l) ≡ whole → ended e m ≡ whole
  loop_first l m e whole h n before = halts (B test l) rest e m h n ∙ sym (ap counted_done (goes l)) ∙ before

  after_test : (l m : Lane) (e : LaneEnd) (whole : Done) → ended e m ≡ counted_done (B test l) → is_normal e ≡ true → counted_done (again l) ≡ whole → counted_done (rest m) ≡ whole
  after_test l m e whole h n before = flows (B test l) rest e m rest_shows h n ∙ sym (ap counted_done (goes l)) ∙ before

  -- the word is 0
  pub loop_second : (l m p : Lane) (e : LaneEnd) (w : Bool) (whole : Done) → ended e m ≡ counted_done (B test l) → is_normal e ≡ true → w ≡ truth (word_in (words_of m) c) → w ≡ false → p ≡ counted (pay 1 m) → counted_done (again l) ≡ whole → Normal p ≡ whole
  loop_second l m p e w whole h n q t paid before =
      ap Normal paid ∙ ap (λ (b : Bool). counted_done (if b then round (pay 1 m) else Normal (pay 1 m))) (sym t ∙ q) ∙ after_test l m e whole h n before

  after_look : (l m : Lane) (e : LaneEnd) (w : Bool) (whole : Done) → ended e m ≡ counted_done (B test l) → is_normal e ≡ true → w ≡ truth (word_in (words_of m) c) → w ≡ true → counted_done (again l) ≡ whole → counted_done (round (pay 1 m)) ≡ whole
  after_look l m e w whole h n q t before =
      ap (λ (b : Bool). counted_done (if b then round (pay 1 m) else Normal (pay 1 m))) (sym t ∙ q) ∙ after_test l m e whole h n before

  abbrev taken : Lane → Lane
  taken l = record { words = l.words; uniform = l.uniform; turns = l.turns - 1; cost = l.cost }

  abbrev turned : Lane → Bool → Done
  turned l b = if b then Trapped Turns node l else Normal (taken l)

  -- no turn is left
  pub loop_third : (l m p : Lane) (e : LaneEnd) (w : Bool) (whole : Done) → ended e m ≡ counted_done (B test l) → is_normal e ≡ true → w ≡ truth (word_in (words_of m) c) → w ≡ true → p ≡ counted (pay 1 m) → p.turns ≡ 0 → counted_done (again l) ≡ whole → Trapped Turns node p ≡ whole
  loop_third l m p e w whole h n q t paid none before =
      let z : (m.turns == 0) ≡ true = ap (λ (k : ℕ). k == 0) (sym (ap (λ (x : Lane). x.turns) paid) ∙ none) in
      ap (λ (x : Lane). Trapped Turns node x) paid
      ∙ ap (λ (b : Bool). counted_done (and_then (turned (pay 1 m) b) (lseq (B body) again))) (sym z)
      ∙ after_look l m e w whole h n q t before

  not_zero : (k : ℕ) → 0 < k → (k == 0) ≡ false
  not_zero k h = by_bool (k == 0) (eqb-true k 0) where
    by_bool : (b : Bool) → (b ≡ true → k ≡ 0) → b ≡ false
    by_bool true f = absurd (let e = f refl in omega arith)
    by_bool false f = refl

  after_turn : (l m p : Lane) (e : LaneEnd) (w : Bool) (whole : Done) → ended e m ≡ counted_done (B test l) → is_normal e ≡ true → w ≡ truth (word_in (words_of m) c) → w ≡ true → p ≡ counted (pay 1 m) → 0 < p.turns → counted_done (again l) ≡ whole → counted_done (and_then (B body (taken p)) again) ≡ whole
  after_turn l m p e w whole h n q t paid some before =
      let z : (m.turns == 0) ≡ false = not_zero m.turns (let s = ap (λ (x : Lane). x.turns) paid in omega arith) in
      ap (λ (x : Lane). counted_done (lseq (B body) again (taken x))) paid
      ∙ later_shows (taken (pay 1 m))
      ∙ ap (λ (b : Bool). counted_done (and_then (turned (pay 1 m) b) (lseq (B body) again))) (sym z)
      ∙ after_look l m e w whole h n q t before

  -- the body ends the run
  pub loop_fourth : (l m p r : Lane) (e f : LaneEnd) (w : Bool) (whole : Done) → ended e m ≡ counted_done (B test l) → is_normal e ≡ true → w ≡ truth (word_in (words_of m) c) → w ≡ true → p ≡ counted (pay 1 m) → 0 < p.turns → ended f r ≡ counted_done (B body (taken p)) → is_normal f ≡ false → counted_done (again l) ≡ whole → ended f r ≡ whole
  loop_fourth l m p r e f w whole h n q t paid some g k before =
      halts (B body (taken p)) again f r g k ∙ after_turn l m p e w whole h n q t paid some before

  -- and the loop again
  pub loop_again : (l m p r : Lane) (e f : LaneEnd) (w : Bool) (whole : Done) → ended e m ≡ counted_done (B test l) → is_normal e ≡ true → w ≡ truth (word_in (words_of m) c) → w ≡ true → p ≡ counted (pay 1 m) → 0 < p.turns → ended f r ≡ counted_done (B body (taken p)) → is_normal f ≡ true → counted_done (again l) ≡ whole → counted_done (again r) ≡ whole
  loop_again l m p r e f w whole h n q t paid some g k before =
      flows (B body (taken p)) again f r again_shows g k ∙ after_turn l m p e w whole h n q t paid some before

  pub loop_falls : (l m p r : Lane) (e f : LaneEnd) → ended e m ≡ counted_done (B test l) → p ≡ counted (pay 1 m) → 0 < p.turns → ended f r ≡ counted_done (B body (taken p)) → r.turns < l.turns
  loop_falls l m p r e f h paid some g =
      let a = turns_of (B test l) e m h in
      let b = turns_never_rise blocks depth test l in
      let d = ap (λ (x : Lane). x.turns) paid in
      let i = turns_of (B body (taken p)) f r g in
      let j = turns_never_rise blocks depth body (taken p) in
      omega arith
