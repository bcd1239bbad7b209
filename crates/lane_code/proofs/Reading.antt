-- Words that are read for a function of the library.
use Rattle.std.proofs.Common.{◌≡◌, ℕ, suc, ℤ, ◌+◌, ◌-◌, ◌<◌, ◌*◌, List, [], ◌∷◌, ◌++◌, length, append_assoc, Bool, true, false, not, cond, if◌then◌else◌, refl, sym, ap, ◌∙◌, arith}
use Rattle.std.specs.List.{filter}
use Rattle.std.proofs.Math.Bool.{beq}
use Rattle.ctl_stdlib.specs.declared.row.Param.{Param}
use Rattle.ctl_stdlib.specs.Rows.{Row}
use Rattle.ctl_stdlib.specs.Shapes.{Fits, is_table, stated_words, elements}
use Rattle.lane_code.specs.declared.instr.Slot.{Slot}
use Rattle.lane_code.specs.declared.instr.Slot.TheVariants.{Varying, Uniform}
use Rattle.lane_code.specs.Slots.{Words, word_in, words_from, shifted}
use Rattle.lane_code.specs.Instructions.{given}
use Rattle.lane_code.specs.Valid.{argument_words}
use Rattle.lane_code.specs.Calling.{counts}

pub shifted_more : (s : Slot) (i : ℕ) → shifted (shifted s i) 1 ≡ shifted s (i + 1)
shifted_more (Varying k) i = ap Varying (let e : k + i + 1 ≡ k + (i + 1) = omega arith in e)
shifted_more (Uniform k) i = ap Uniform (let e : k + i + 1 ≡ k + (i + 1) = omega arith in e)

-- one word is read
pub read_step : (ws : Words) (s : Slot) (count i : ℕ) (xs new whole : List ℤ) (q : Slot) (x : ℤ) → i < count → q ≡ shifted s i → x ≡ word_in ws q → new ≡ xs ++ x ∷ [] → xs ++ words_from ws (shifted s i) (count - i) ≡ whole → new ++ words_from ws (shifted s (i + 1)) (count - (i + 1)) ≡ whole
read_step ws s count i xs new whole q x h eq ex en before =
    let m = count - (i + 1) in
    ap (λ (ys : List ℤ). ys ++ words_from ws (shifted s (i + 1)) m) en
    ∙ append_assoc xs (x ∷ []) (words_from ws (shifted s (i + 1)) m)
    ∙ ap (λ (y : ℤ). xs ++ y ∷ words_from ws (shifted s (i + 1)) m) (ex ∙ ap (word_in ws) eq)
    ∙ ap (λ (t : Slot). xs ++ word_in ws (shifted s i) ∷ words_from ws t m) (sym (shifted_more s i))
    ∙ ap (λ (k : ℕ). xs ++ words_from ws (shifted s i) k) (let e : suc m ≡ count - i = omega arith in e)
    ∙ before

pub other : (b t : Bool) → not (beq b t) ≡ true → b ≡ not t
other true true h = absurd (cc)
other true false h = refl
other false true h = refl
other false false h = absurd (cc)

pub same : (b t : Bool) → not (beq b t) ≡ false → b ≡ t
same true true h = refl
same true false h = absurd (cc)
same false true h = absurd (cc)
same false false h = refl

pub count_none : (t : Bool) (sizes : List ℕ) (p : Param) → is_table p.shape ≡ not t → counts t sizes p ≡ 0
count_none true sizes p e = ap (λ (b : Bool). if b then elements sizes * stated_words p.shape else 0) e
count_none false sizes p e = none p.is_output where
  none : (o : Bool) → (if o then 0 else (if is_table p.shape then 0 else stated_words p.shape)) ≡ 0
  none true = refl
  none false = ap (λ (b : Bool). if b then 0 else stated_words p.shape) e

pub count_all : (t : Bool) (sizes : List ℕ) (p : Param) → is_table p.shape ≡ t → argument_words sizes p ≡ counts t sizes p
count_all true sizes p e = let z = count_none false sizes p e in omega arith
count_all false sizes p e = let z = count_none true sizes p e in omega arith

first_given : (ws : Words) (count : Param → ℕ) (b : Bool) (p : Param) (later : List Param) (s : Slot) (more : List Slot) → b ≡ false → given ws count (cond (not b) (p ∷ later) later) (s ∷ more) ≡ words_from ws s (count p) ++ given ws count later more
first_given ws count true p later s more h = absurd (cc)
first_given ws count false p later s more h = refl

-- the first argument, and those after it
pub take_given : (ws : Words) (count : Param → ℕ) (params : List Param) (p : Param) (later : List Param) (args : List Slot) (s : Slot) (more : List Slot) (m : ℕ) → params ≡ p ∷ later → args ≡ s ∷ more → p.is_output ≡ false → m ≡ count p → given ws count (filter (λ p. not p.is_output) params) args ≡ words_from ws s m ++ given ws count (filter (λ p. not p.is_output) later) more
take_given ws count params p later args s more m ep ea o em =
    ap (λ (ps : List Param). given ws count (filter (λ p. not p.is_output) ps) args) ep
    ∙ ap (given ws count (filter (λ p. not p.is_output) (p ∷ later))) ea
    ∙ first_given ws count p.is_output p (filter (λ p. not p.is_output) later) s more o
    ∙ ap (λ (k : ℕ). words_from ws s k ++ given ws count (filter (λ p. not p.is_output) later) more) (sym em)

pub fits_same : (r : Row) (sizes : List ℕ) (table table' args args' : List ℤ) (room room' : ℕ) → table ≡ table' → args ≡ args' → room ≡ room' → Fits r sizes table' args' room' → Fits r sizes table args room
fits_same r sizes table table' args args' room room' et ea er f = record {
  counted = f.counted;
  some = f.some;
  most = f.most;
  whole = ap length et ∙ f.whole;
  few = let e = ap length et in let g = f.few in omega arith;
  given = ap length ea ∙ f.given;
  free = er ∙ f.free;
}
