-- What is known of each instruction of valid blocks.
use Rattle.std.proofs.Common.{◌≡◌, ℕ, zero, suc, ◌+◌, ◌<◌, ◌≤◌, List, [], ◌∷◌, length, get_or, slice_get, Some, Bool, true, false, not, ◌&&◌, ◌||◌, ◌==◌, nat_le, sum_by, sym, ap, subst, ◌∙◌, arith}
use Rattle.std.specs.List.{list_all, AllByRecursion}
use Rattle.std.proofs.lemmas.Bool.{and_parts, eqb-true, leb-true, ltb-true}
use Rattle.std.proofs.lemmas.List.Elements.{All-from_recursion}
use Rattle.ctl_base.specs.declared.limits.TheConstants.{ARRAY_SIZE, SCALARS}
use Rattle.ctl_base.specs.declared.kind.Node.{Node}
use Rattle.ctl_stdlib.specs.declared.row.LibraryId.{LibraryId}
use Rattle.ctl_stdlib.specs.Rows.{row}
use Rattle.ctl_stdlib.specs.Shapes.{open_sizes, table_words, filled_words}
use Rattle.lane_code.specs.declared.instr.Slot.{Slot}
use Rattle.lane_code.specs.declared.instr.Instr.{Instr}
use Rattle.lane_code.specs.declared.instr.Instr.TheVariants.{Set, Copy, Do1, Do2, Convert, Bound, Gather, Scatter, Library, If, Loop, Frame, Leave}
use Rattle.lane_code.specs.declared.valid.Numbers.{Numbers}
use Rattle.lane_code.specs.Instructions.{Blocks, inputs, writes_uniform, reads_uniform}
use Rattle.lane_code.specs.Valid.{is_inside, arguments_inside, is_size, fits_row, fits_library, slots_inside, works, is_sound, names_below, valid_block, valid_blocks}
use Rattle.lane_code.specs.Divided.{Stands}
use Rattle.lane_code.specs.Laws.{Below, AllBelow, IsOrdered, LibraryFits, IsValid}

-- ---- one block

pub all_valid : (n : Numbers) (k : ℕ) (xs : List Instr) → valid_block n k xs ≡ true → (p : ℕ) (x : Instr) → slice_get xs p ≡ Some x → (names_below k x ≡ true) × (is_sound n x ≡ true)
all_valid n k [] h p x e = absurd (cc)
all_valid n k (y ∷ xs) h zero x e = subst (λ (z : Instr). (names_below k z ≡ true) × (is_sound n z ≡ true)) (some_is y x e) (and_parts _ _ (and_parts _ _ h).0) where
  some_is : (a b : Instr) → Some a ≡ Some b → a ≡ b
  some_is a b e = cc
all_valid n k (y ∷ xs) h (suc p) x e = all_valid n k xs (and_parts _ _ h).1 p x e

below_of : (k : ℕ) (x : Instr) → names_below k x ≡ true → Below k x
below_of k (If c one other) h = let q = and_parts _ _ h in (ltb-true one k q.0, ltb-true other k q.1)
below_of k (Loop test c body node) h = let q = and_parts _ _ h in (ltb-true test k q.0, ltb-true body k q.1)
below_of k (Frame block) h = ltb-true block k h
below_of k Leave h = tt
below_of k (Set dst word) h = tt
below_of k (Copy dst src count) h = tt
below_of k (Do1 op kind dst a) h = tt
below_of k (Do2 op kind dst a b) h = tt
below_of k (Convert from to dst a) h = tt
below_of k (Bound index size node) h = tt
below_of k (Gather dst base span at count node) h = tt
below_of k (Scatter base span at count src node) h = tt
below_of k (Library id sizes dst args node) h = tt

all_below : (n : Numbers) (k : ℕ) (xs : List Instr) → valid_block n k xs ≡ true → AllBelow k xs
all_below n k [] h = tt
all_below n k (x ∷ xs) h = let q = and_parts _ _ h in (below_of k x (and_parts _ _ q.0).0, all_below n k xs q.1)

-- ---- all blocks

pub block_valid : (n : Numbers) (j : ℕ) (blocks : Blocks) → valid_blocks n j blocks ≡ true → (k : ℕ) → k < length blocks → valid_block n (k + j) (get_or blocks k []) ≡ true
block_valid n j [] h k q = absurd (omega arith)
block_valid n j (b ∷ blocks) h zero q = ap (λ (m : ℕ). valid_block n m b) (let e : 0 + j ≡ j = omega arith in e) ∙ (and_parts (valid_block n j b) (valid_blocks n (suc j) blocks) h).0
block_valid n j (b ∷ blocks) h (suc k) q = ap (λ (m : ℕ). valid_block n m (get_or blocks k [])) (let e : suc k + j ≡ k + suc j = omega arith in e) ∙ block_valid n (suc j) blocks (and_parts (valid_block n j b) (valid_blocks n (suc j) blocks) h).1 k (omega arith)

pub each_block : (n : Numbers) (blocks : Blocks) → valid_blocks n 0 blocks ≡ true → (k : ℕ) → k < length blocks → valid_block n k (get_or blocks k []) ≡ true
each_block n blocks h k q = ap (λ (m : ℕ). valid_block n m (get_or blocks k [])) (let e : k ≡ k + 0 = omega arith in e) ∙ block_valid n 0 blocks h k q

pub stands_low : (blocks : Blocks) (k p : ℕ) (x : Instr) → Stands blocks k p x → k < length blocks
stands_low [] k p x s = absurd (cc)
stands_low (b ∷ blocks) zero p x s = omega arith
stands_low (b ∷ blocks) (suc k) p x s = let z = stands_low blocks k p x s in omega arith

pub sound_at : (n : Numbers) (blocks : Blocks) → valid_blocks n 0 blocks ≡ true → (k p : ℕ) (x : Instr) → Stands blocks k p x → is_sound n x ≡ true
sound_at n blocks h k p x s = (all_valid n k (get_or blocks k []) (each_block n blocks h k (stands_low blocks k p x s)) p x s).1

pub ordered_of : (n : Numbers) (blocks : Blocks) → valid_blocks n 0 blocks ≡ true → IsOrdered blocks
ordered_of n blocks h k q = all_below n k (get_or blocks k []) (each_block n blocks h k q)

-- ---- one instruction

pub record SoundParts (n : Numbers) (x : Instr) : Type 0 where
  pub row_fits : fits_library x ≡ true
  pub slots : slots_inside n x ≡ true
  pub apart : (not (writes_uniform x) || reads_uniform x) ≡ true
  pub works : works x ≡ true

pub sound_parts : (n : Numbers) (x : Instr) → is_sound n x ≡ true → SoundParts n x
sound_parts n x h =
    let a = and_parts (fits_library x && slots_inside n x && (not (writes_uniform x) || reads_uniform x)) (works x) h in
    let b = and_parts (fits_library x && slots_inside n x) (not (writes_uniform x) || reads_uniform x) a.0 in
    let d = and_parts (fits_library x) (slots_inside n x) b.0 in
    record { row_fits = d.0; slots = d.1; apart = b.1; works = a.1 }

implied : (a b : Bool) → (not a || b) ≡ true → a ≡ true → b ≡ true
implied true b h e = h
implied false b h e = absurd (cc)

pub sizes_of : (sizes : List ℕ) → list_all (λ n. is_size n) sizes ≡ true → AllByRecursion (λ n. (1 ≤ n) × (n ≤ ARRAY_SIZE)) sizes
sizes_of [] h = tt
sizes_of (n ∷ sizes) h = let q = and_parts _ _ h in let r = and_parts _ _ q.0 in ((leb-true 1 n r.0, leb-true n ARRAY_SIZE r.1), sizes_of sizes q.1)

pub library_fits : (id : LibraryId) (sizes : List ℕ) (args : List Slot) → fits_row (row id) sizes args ≡ true → LibraryFits id sizes args
library_fits id sizes args h =
    let a = and_parts _ (length args == length (inputs (row id))) h in
    let b = and_parts _ (nat_le (sum_by (table_words sizes) (row id).params) SCALARS) a.0 in
    let d = and_parts (length sizes == sum_by (λ p. open_sizes p.shape) (row id).params) (list_all (λ n. is_size n) sizes) b.0 in
    record {
      counted = eqb-true _ _ d.0;
      sizes_stand = All-from_recursion _ sizes (sizes_of sizes d.1);
      table = leb-true _ _ b.1;
      arguments = eqb-true _ _ a.1;
    }

pub valid_blocks_stand : (n : Numbers) (blocks : Blocks) → valid_blocks n 0 blocks ≡ true → IsValid n blocks
valid_blocks_stand n blocks h = record {
  ordered = ordered_of n blocks h;
  regular = λ k p x s. implied _ _ (sound_parts n x (sound_at n blocks h k p x s)).apart;
  sound = sound_at n blocks h;
  library = λ k p id sizes dst args node s. library_fits id sizes args (sound_parts n (Library id sizes dst args node) (sound_at n blocks h k p (Library id sizes dst args node) s)).row_fits;
}

pub library_inside : (n : Numbers) (x : Instr) (id : LibraryId) (sizes : List ℕ) (dst : Slot) (args : List Slot) (node : Node) (s : List ℕ) (a : List Slot) → x ≡ Library id sizes dst args node → s ≡ sizes → a ≡ args → is_sound n x ≡ true → arguments_inside n s (inputs (row id)) a ≡ true
library_inside n x id sizes dst args node s a ex es ea h =
    let parts = sound_parts n (Library id sizes dst args node) (ap (is_sound n) (sym ex) ∙ h) in
    ap (λ (z : List ℕ). arguments_inside n z (inputs (row id)) a) es
    ∙ ap (λ (z : List Slot). arguments_inside n sizes (inputs (row id)) z) ea
    ∙ (and_parts (is_inside n dst (filled_words (row id))) (arguments_inside n sizes (inputs (row id)) args) parts.slots).1
