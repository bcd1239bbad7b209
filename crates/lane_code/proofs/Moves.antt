-- Words that are read and moved.
use Rattle.std.proofs.Common.{◌≡◌, ℕ, zero, suc, ℤ, pos, ◌+◌, ◌-◌, ◌<◌, ◌≤◌, ◌^◌, List, [], ◌∷◌, get_or, slice_get, None, true, refl, sym, ap, ◌∙◌, arith}
use Rattle.std.proofs.lemmas.Bool.{leb-true}
use Rattle.lane_code.specs.declared.lane.Lane.{Lane}
use Rattle.lane_code.specs.declared.instr.Slot.{Slot}
use Rattle.lane_code.specs.declared.instr.Slot.TheVariants.{Varying, Uniform}
use Rattle.lane_code.specs.declared.valid.Numbers.{Numbers}
use Rattle.lane_code.specs.Slots.{word_in, put, moved, shifted, first_of}
use Rattle.lane_code.specs.LaneMeaning.{words_of, with_words}
use Rattle.lane_code.specs.Valid.{is_inside}

pub none_word : (xs : List ℤ) (k : ℕ) → None ≡ slice_get xs k → get_or xs k (pos 0) ≡ pos 0
none_word [] k e = refl
none_word (x ∷ xs) zero e = absurd (cc)
none_word (x ∷ xs) (suc k) e = none_word xs k e

pub first_below : (n : Numbers) (s : Slot) (count i : ℕ) → n.varying < 2 ^ 32 → n.uniform < 2 ^ 32 → is_inside n s count ≡ true → i < count → first_of s + i < 2 ^ 32
first_below n (Varying k) count i v u h q = let low = leb-true (k + count) n.varying h in omega arith
first_below n (Uniform k) count i v u h q = let low = leb-true (k + count) n.uniform h in omega arith

shifted_none : (s : Slot) → shifted s 0 ≡ s
shifted_none (Varying k) = ap Varying (let e : k + 0 ≡ k = omega arith in e)
shifted_none (Uniform k) = ap Uniform (let e : k + 0 ≡ k = omega arith in e)

shifted_more : (s : Slot) (i : ℕ) → shifted (shifted s i) 1 ≡ shifted s (i + 1)
shifted_more (Varying k) i = ap Varying (let e : k + i + 1 ≡ k + (i + 1) = omega arith in e)
shifted_more (Uniform k) i = ap Uniform (let e : k + i + 1 ≡ k + (i + 1) = omega arith in e)

-- what is left to move, after i moves
abbrev pub left_to_move : ℕ → Slot → Slot → ℕ → Lane → Lane
left_to_move count dst src i l = with_words (moved (count - i) (shifted dst i) (shifted src i) (words_of l)) l

pub move_start : (count : ℕ) (dst src : Slot) (l : Lane) → left_to_move count dst src 0 l ≡ with_words (moved count dst src (words_of l)) l
move_start count dst src l =
    ap (λ (m : ℕ). with_words (moved m (shifted dst 0) (shifted src 0) (words_of l)) l) (let e : count - 0 ≡ count = omega arith in e)
    ∙ ap (λ (s : Slot). with_words (moved count s (shifted src 0) (words_of l)) l) (shifted_none dst)
    ∙ ap (λ (s : Slot). with_words (moved count dst s (words_of l)) l) (shifted_none src)

-- one word is moved
pub move_next : (count : ℕ) (dst src : Slot) (i : ℕ) (l : Lane) → i < count → left_to_move count dst src (i + 1) (with_words (put (shifted dst i) (word_in (words_of l) (shifted src i)) (words_of l)) l) ≡ left_to_move count dst src i l
move_next count dst src i l h =
    let ws = put (shifted dst i) (word_in (words_of l) (shifted src i)) (words_of l) in
    let m = count - (i + 1) in
    ap (λ (s : Slot). with_words (moved m s (shifted src (i + 1)) ws) l) (sym (shifted_more dst i))
    ∙ ap (λ (s : Slot). with_words (moved m (shifted (shifted dst i) 1) s ws) l) (sym (shifted_more src i))
    ∙ ap (λ (k : ℕ). with_words (moved k (shifted dst i) (shifted src i) (words_of l)) l) (let e : suc m ≡ count - i = omega arith in e)

pub move_end : (count : ℕ) (dst src : Slot) (i : ℕ) (l : Lane) → count ≤ i → l ≡ left_to_move count dst src i l
move_end count dst src i l h = ap (λ (k : ℕ). with_words (moved k (shifted dst i) (shifted src i) (words_of l)) l) (let e : 0 ≡ count - i = omega arith in e)

pub move_step : (count : ℕ) (dst src : Slot) (i : ℕ) (l : Lane) (d s : Slot) (w : ℤ) (new : Lane) → i < count → d ≡ shifted dst i → s ≡ shifted src i → w ≡ word_in (words_of l) s → new ≡ with_words (put d w (words_of l)) l → left_to_move count dst src (i + 1) new ≡ left_to_move count dst src i l
move_step count dst src i l d s w new h ed es ew en =
    ap (left_to_move count dst src (i + 1)) (en
    ∙ ap (λ (x : Slot). with_words (put x w (words_of l)) l) ed
    ∙ ap (λ (x : ℤ). with_words (put (shifted dst i) x (words_of l)) l) (ew ∙ ap (word_in (words_of l)) es))
    ∙ move_next count dst src i l h
