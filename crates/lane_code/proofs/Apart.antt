-- What an instruction changes, and what it reads.
use Rattle.std.proofs.Common.{◌≡◌, ℕ, zero, suc, ◌+◌, ℤ, List, [], ◌∷◌, ◌++◌, Bool, true, false, refl, ap, ◌∙◌, unsigned_abs, slice_set}
use Rattle.std.specs.List.{list_all}
use Rattle.std.proofs.lemmas.Bool.{and_parts}
use Rattle.fix_num.specs.declared.TheConstants.{FRACTION}
use Rattle.ctl_stdlib.specs.declared.row.Param.{Param}
use Rattle.ctl_stdlib.specs.Rows.{row}
use Rattle.ctl_stdlib.specs.Shapes.{table_words, input_words}
use Rattle.lane_code.specs.declared.instr.Slot.{Slot}
use Rattle.lane_code.specs.declared.instr.Slot.TheVariants.{Varying, Uniform}
use Rattle.lane_code.specs.declared.instr.Instr.{Instr}
use Rattle.lane_code.specs.declared.instr.Instr.TheVariants.{Set, Copy, Do1, Do2, Convert, Bound, Gather, Scatter, Library, If, Loop, Frame, Leave}
use Rattle.lane_code.specs.Kinds.{as_kind, of_one, of_two, converted}
use Rattle.lane_code.specs.Slots.{Words, is_uniform, shifted, word_in, words_from, put, put_all, moved}
use Rattle.lane_code.specs.Instructions.{inputs, given, table_of, rest_of, has_room, behind, goes_on, effect, writes_uniform, reads_uniform}
use Rattle.lane_code.specs.Laws.{KeepsApart}

not_both : {P : Type 0} → true ≡ false → P
not_both e = absurd (cc)

nor_both : {P : Type 0} → false ≡ true → P
nor_both e = absurd (cc)

-- ---- a target that is Varying leaves the shared words

put_shared : (s : Slot) (w : ℤ) (ws : Words) → is_uniform s ≡ false → (put s w ws).shared ≡ ws.shared
put_shared (Varying k) w ws h = refl
put_shared (Uniform k) w ws h = not_both h

moved_shared : (n : ℕ) (dst src : Slot) (ws : Words) → is_uniform dst ≡ false → (moved n dst src ws).shared ≡ ws.shared
moved_shared zero dst src ws h = refl
moved_shared (suc n) (Varying k) src ws h = moved_shared n (Varying (k + 1)) (shifted src 1) (put (Varying k) (word_in ws src) ws) refl
moved_shared (suc n) (Uniform k) src ws h = not_both h

all_shared : (dst : Slot) (xs : List ℤ) (ws : Words) → is_uniform dst ≡ false → (put_all dst xs ws).shared ≡ ws.shared
all_shared dst [] ws h = refl
all_shared (Varying k) (x ∷ xs) ws h = all_shared (Varying (k + 1)) xs (put (Varying k) x ws) refl
all_shared (Uniform k) (x ∷ xs) ws h = not_both h

-- ---- a target that is Uniform leaves the own words

put_own : (s : Slot) (w : ℤ) (ws : Words) → is_uniform s ≡ true → (put s w ws).own ≡ ws.own
put_own (Varying k) w ws h = nor_both h
put_own (Uniform k) w ws h = refl

moved_own : (n : ℕ) (dst src : Slot) (ws : Words) → is_uniform dst ≡ true → (moved n dst src ws).own ≡ ws.own
moved_own zero dst src ws h = refl
moved_own (suc n) (Varying k) src ws h = nor_both h
moved_own (suc n) (Uniform k) src ws h = moved_own n (Uniform (k + 1)) (shifted src 1) (put (Uniform k) (word_in ws src) ws) refl

all_own : (dst : Slot) (xs : List ℤ) (ws : Words) → is_uniform dst ≡ true → (put_all dst xs ws).own ≡ ws.own
all_own dst [] ws h = refl
all_own (Varying k) (x ∷ xs) ws h = nor_both h
all_own (Uniform k) (x ∷ xs) ws h = all_own (Uniform (k + 1)) xs (put (Uniform k) x ws) refl

kind_behind : (ws : Words) (base at : Slot) (b : Bool) → is_uniform base ≡ b → is_uniform (behind ws base at) ≡ b
kind_behind ws (Varying k) at b h = h
kind_behind ws (Uniform k) at b h = h

-- ---- two lanes that share words

abbrev pub sees : List ℤ → List ℤ → Words
sees own shared = record { own = own; shared = shared }

word_seen : (a b shared : List ℤ) (s : Slot) → is_uniform s ≡ true → word_in (sees a shared) s ≡ word_in (sees b shared) s
word_seen a b shared (Varying k) h = nor_both h
word_seen a b shared (Uniform k) h = refl

words_seen : (a b shared : List ℤ) (s : Slot) (n : ℕ) → is_uniform s ≡ true → words_from (sees a shared) s n ≡ words_from (sees b shared) s n
words_seen a b shared s zero h = refl
words_seen a b shared (Varying k) (suc n) h = nor_both h
words_seen a b shared (Uniform k) (suc n) h = ap (λ (xs : List ℤ). word_in (sees a shared) (Uniform k) ∷ xs) (words_seen a b shared (Uniform (k + 1)) n refl)

given_seen : (a b shared : List ℤ) (count : Param → ℕ) (params : List Param) (slots : List Slot) → list_all (λ s. is_uniform s) slots ≡ true → given (sees a shared) count params slots ≡ given (sees b shared) count params slots
given_seen a b shared count [] slots h = refl
given_seen a b shared count (p ∷ params) [] h = refl
given_seen a b shared count (p ∷ params) (s ∷ slots) h =
    let q = and_parts _ _ h in
    ap (λ (xs : List ℤ). xs ++ given (sees a shared) count params slots) (words_seen a b shared s (count p) q.0) ∙ ap (λ (xs : List ℤ). words_from (sees b shared) s (count p) ++ xs) (given_seen a b shared count params slots q.1)

behind_seen : (a b shared : List ℤ) (base at : Slot) → is_uniform at ≡ true → behind (sees a shared) base at ≡ behind (sees b shared) base at
behind_seen a b shared base at h = ap (λ (w : ℤ). shifted base (unsigned_abs w)) (word_seen a b shared at h)

put_seen : (a b shared : List ℤ) (s : Slot) (v w : ℤ) → is_uniform s ≡ true → v ≡ w → (put s v (sees a shared)).shared ≡ (put s w (sees b shared)).shared
put_seen a b shared (Varying k) v w h e = nor_both h
put_seen a b shared (Uniform k) v w h e = ap (λ (x : ℤ). slice_set shared k x) e

moved_seen : (n : ℕ) (a b shared : List ℤ) (dst src : Slot) → is_uniform dst ≡ true → is_uniform src ≡ true → (moved n dst src (sees a shared)).shared ≡ (moved n dst src (sees b shared)).shared
moved_seen zero a b shared dst src h g = refl
moved_seen (suc n) a b shared (Varying k) src h g = nor_both h
moved_seen (suc n) a b shared (Uniform k) (Varying j) h g = nor_both g
moved_seen (suc n) a b shared (Uniform k) (Uniform j) h g = moved_seen n a b (slice_set shared k (word_in (sees a shared) (Uniform j))) (Uniform (k + 1)) (Uniform (j + 1)) refl refl

all_seen : (xs : List ℤ) (a b shared : List ℤ) (dst : Slot) → is_uniform dst ≡ true → (put_all dst xs (sees a shared)).shared ≡ (put_all dst xs (sees b shared)).shared
all_seen [] a b shared dst h = refl
all_seen (x ∷ xs) a b shared (Varying k) h = nor_both h
all_seen (x ∷ xs) a b shared (Uniform k) h = all_seen xs a b (slice_set shared k x) (Uniform (k + 1)) refl

shared_stays : (x : Instr) → writes_uniform x ≡ false → (ws : Words) → (effect x ws).shared ≡ ws.shared
shared_stays (Set dst word) h ws = put_shared dst _ ws h
shared_stays (Copy dst src count) h ws = moved_shared count dst src ws h
shared_stays (Do1 op kind dst a) h ws = put_shared dst _ ws h
shared_stays (Do2 op kind dst a b) h ws = put_shared dst _ ws h
shared_stays (Convert from to dst a) h ws = put_shared dst _ ws h
shared_stays (Bound index size node) h ws = refl
shared_stays (Gather dst base span at count node) h ws = moved_shared count dst (behind ws base at) ws h
shared_stays (Scatter base span at count src node) h ws = moved_shared count (behind ws base at) src ws (kind_behind ws base at false h)
shared_stays (Library id sizes dst args node) h ws = all_shared dst ((row id).value FRACTION sizes (table_of ws (row id) sizes args) (rest_of ws (row id) args)) ws h
shared_stays (If c one other) h ws = refl
shared_stays (Loop test c body node) h ws = refl
shared_stays (Frame block) h ws = refl
shared_stays Leave h ws = refl

own_stays : (x : Instr) → writes_uniform x ≡ true → (ws : Words) → (effect x ws).own ≡ ws.own
own_stays (Set dst word) h ws = put_own dst _ ws h
own_stays (Copy dst src count) h ws = moved_own count dst src ws h
own_stays (Do1 op kind dst a) h ws = put_own dst _ ws h
own_stays (Do2 op kind dst a b) h ws = put_own dst _ ws h
own_stays (Convert from to dst a) h ws = put_own dst _ ws h
own_stays (Bound index size node) h ws = refl
own_stays (Gather dst base span at count node) h ws = moved_own count dst (behind ws base at) ws h
own_stays (Scatter base span at count src node) h ws = moved_own count (behind ws base at) src ws (kind_behind ws base at true h)
own_stays (Library id sizes dst args node) h ws = all_own dst ((row id).value FRACTION sizes (table_of ws (row id) sizes args) (rest_of ws (row id) args)) ws h
own_stays (If c one other) h ws = refl
own_stays (Loop test c body node) h ws = refl
own_stays (Frame block) h ws = refl
own_stays Leave h ws = refl

blind_to_own : (x : Instr) → writes_uniform x ≡ true → reads_uniform x ≡ true → (a b shared : List ℤ) → (effect x (sees a shared)).shared ≡ (effect x (sees b shared)).shared
blind_to_own (Set dst word) h g x y shared = put_seen x y shared dst word word h refl
blind_to_own (Copy dst src count) h g x y shared = moved_seen count x y shared dst src h g
blind_to_own (Do1 op kind dst a) h g x y shared = put_seen x y shared dst _ _ h (ap (λ (w : ℤ). of_one FRACTION op kind (as_kind FRACTION kind w)) (word_seen x y shared a g))
blind_to_own (Do2 op kind dst a b) h g x y shared = let q = and_parts _ _ g in put_seen x y shared dst _ _ h (ap (λ (w : ℤ). of_two FRACTION op kind (as_kind FRACTION kind w) (as_kind FRACTION kind (word_in (sees x shared) b))) (word_seen x y shared a q.0) ∙ ap (λ (w : ℤ). of_two FRACTION op kind (as_kind FRACTION kind (word_in (sees y shared) a)) (as_kind FRACTION kind w)) (word_seen x y shared b q.1))
blind_to_own (Convert from to dst a) h g x y shared = put_seen x y shared dst _ _ h (ap (λ (w : ℤ). converted FRACTION from to (as_kind FRACTION from w)) (word_seen x y shared a g))
blind_to_own (Bound index size node) h g x y shared = nor_both h
blind_to_own (Gather dst base span at count node) h g x y shared = let q = and_parts _ _ g in ap (λ (s : Slot). (moved count dst s (sees x shared)).shared) (behind_seen x y shared base at q.1) ∙ moved_seen count x y shared dst (behind (sees y shared) base at) h (kind_behind (sees y shared) base at true q.0)
blind_to_own (Scatter base span at count src node) h g x y shared = let q = and_parts _ _ g in ap (λ (s : Slot). (moved count s src (sees x shared)).shared) (behind_seen x y shared base at q.0) ∙ moved_seen count x y shared (behind (sees y shared) base at) src (kind_behind (sees y shared) base at true h) q.1
blind_to_own (Library id sizes dst args node) h g x y shared = ap (λ (xs : List ℤ). (put_all dst ((row id).value FRACTION sizes xs (rest_of (sees x shared) (row id) args)) (sees x shared)).shared) (given_seen x y shared (table_words sizes) (inputs (row id)) args g) ∙ ap (λ (xs : List ℤ). (put_all dst ((row id).value FRACTION sizes (table_of (sees y shared) (row id) sizes args) xs) (sees x shared)).shared) (given_seen x y shared input_words (inputs (row id)) args g) ∙ all_seen ((row id).value FRACTION sizes (table_of (sees y shared) (row id) sizes args) (rest_of (sees y shared) (row id) args)) x y shared dst h
blind_to_own (If c one other) h g x y shared = nor_both h
blind_to_own (Loop test c body node) h g x y shared = nor_both h
blind_to_own (Frame block) h g x y shared = nor_both h
blind_to_own Leave h g x y shared = nor_both h

alike_on_own : (x : Instr) → writes_uniform x ≡ true → reads_uniform x ≡ true → (a b shared : List ℤ) → goes_on x (sees a shared) ≡ goes_on x (sees b shared)
alike_on_own (Set dst word) h g x y shared = refl
alike_on_own (Copy dst src count) h g x y shared = refl
alike_on_own (Do1 op kind dst a) h g x y shared = refl
alike_on_own (Do2 op kind dst a b) h g x y shared = refl
alike_on_own (Convert from to dst a) h g x y shared = refl
alike_on_own (Bound index size node) h g x y shared = nor_both h
alike_on_own (Gather dst base span at count node) h g x y shared = let q = and_parts _ _ g in ap (λ (w : ℤ). has_room w count span) (word_seen x y shared at q.1)
alike_on_own (Scatter base span at count src node) h g x y shared = let q = and_parts _ _ g in ap (λ (w : ℤ). has_room w count span) (word_seen x y shared at q.0)
alike_on_own (Library id sizes dst args node) h g x y shared = ap (λ (xs : List ℤ). (row id).answer xs) (given_seen x y shared input_words (inputs (row id)) args g)
alike_on_own (If c one other) h g x y shared = nor_both h
alike_on_own (Loop test c body node) h g x y shared = nor_both h
alike_on_own (Frame block) h g x y shared = nor_both h
alike_on_own Leave h g x y shared = nor_both h

pub keeps_apart : (x : Instr) → KeepsApart x
keeps_apart x = record {
  shared = shared_stays x;
  own = own_stays x;
  blind = blind_to_own x;
  alike = alike_on_own x;
}
